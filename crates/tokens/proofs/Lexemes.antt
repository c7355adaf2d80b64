-- The laws of the tokens of a statement: one for each way out, and what a lexeme says of the definition's token.
-- Assumes nothing.
use mathlib.Core.Path.{◌≡◌, refl, sym, ap, ◌∙◌}
use mathlib.Core.Bool.{Bool, true, false, cond, ◌&&◌}
use mathlib.Core.List.{List, [], ◌∷◌}
use Prim.Native.Nat.{ℕ, zero, suc, ◌+◌, ◌-◌, ◌<◌, ◌≤◌}
use Prim.Native.String as S
use native.Mathlib.Omega.{arith}
use borrow.Author.Tests.{le-leb, lt-leb, eq-eqb, ne_eqb}
use lib.Dec.{eqb, leb}
use lib.ListN.{length, get_or, drop}
use Rattle.definition.specs.Choice.{when}
use Rattle.definition.specs.Text.{bytes_of}
use Rattle.definition.specs.Lists.{part, all, leading, same}
use Rattle.definition.specs.Bytes.{mixed, class_of, is_alphameric, is_digit, is_small, capital, folded}
use Rattle.definition.specs.declared.Class.{Class}
use Rattle.definition.specs.declared.Class.TheVariants.{Letter, Digit, Break, Blank, LineFeed, Percent, Quote, Mark, Other}
use Rattle.definition.proofs.Folded.{length_folded}
use Rattle.definition.proofs.Parts.{length_part}
use Rattle.definition.specs.Tokens as T
use Rattle.tokens.specs.Answer.{gap_for, constant_for, sign_size, kind_of, lex_of, lexeme_for, Lexed, written, spelling, is_word_kind, is_sign_kind, is_word_in, is_sign_in, content_of, content, token_for}
use Rattle.tokens.specs.declared.Kind.{Kind}
use Rattle.tokens.specs.declared.Kind.TheVariants.{Word, Integer, String, Bits, Sign, Nothing, Wrong}
use Rattle.tokens.specs.declared.Lexeme.{Lexeme}
use Rattle.std.proofs.Common.{Option, Some, None, Result, Ok, Err, ◌⊎◌, inl, inr}
use Rattle.tokens.proofs.Laws.{at, inside, here, and_false}

-- ---- constants
module _ (s : List ℕ) (p : ℕ) where
  pub constant_open : (x : T.Quoted) (c : Option (ℕ × Bool)) (r : Lexeme) → c ≡ constant_for x → c ≡ None → r ≡ lex_of Wrong p p → r ≡ lexeme_for (T.constant_at mixed s p x)
  unfolding T.constant_at
  constant_open (T.quoted bs q) c r e f g = let z : ◌≡◌ {A = ℕ} 0 1 = cc in absurd (omega arith)
  constant_open T.unquoted c r e f g = g

  constant_is : (x : T.Quoted) (q : ℕ) (bits : Bool) → constant_for x ≡ Some (q, bits)
      → lexeme_for (T.constant_at mixed s p x) ≡ cond (bits && eqb (capital mixed (get_or s q 0)) 66) (lex_of Bits p (q + 1)) (lex_of String p q)
  unfolding T.constant_at
  constant_is (T.quoted bs n) q bits e =
      let z : ◌≡◌ {A = ℕ × Bool} (n, all T.is_bit bs) (q, bits) = cc in
      rw (← ap (λ (w : ℕ × Bool). w.0) z, ← ap (λ (w : ℕ × Bool). w.1) z) (by_test (all T.is_bit bs && eqb (capital mixed (get_or s n 0)) 66) bs n)
    where
      by_test : (b : Bool) (bs : List ℕ) (n : ℕ) → lexeme_for (cond b (T.lexeme (T.bits bs) p (n + 1)) (T.lexeme (T.string bs) p n)) ≡ cond b (lex_of Bits p (n + 1)) (lex_of String p n)
      by_test true bs n = refl
      by_test false bs n = refl
  constant_is T.unquoted q bits e = let z : ◌≡◌ {A = ℕ} 0 1 = cc in absurd (omega arith)

  module _ (x : T.Quoted) (c : Option (ℕ × Bool)) (q b y : ℕ) (bits : Bool) (r : Lexeme) (e : c ≡ constant_for x) (f : c ≡ Some (q, bits)) (g : b ≡ get_or s (q + 0) 0) (h : y ≡ capital mixed b) where
    pub constant_bits : bits ≡ true → y ≡ 66 → r ≡ lex_of Bits p (q + 1) → r ≡ lexeme_for (T.constant_at mixed s p x)
    constant_bits i j k = k ∙ rw (constant_is x q bits (sym e ∙ f), ← here s q b g, ← h, i, eq-eqb y 66 j)

    pub constant_string : (y ≡ 66 → ⊥) → r ≡ lex_of String p q → r ≡ lexeme_for (T.constant_at mixed s p x)
    constant_string i k = k ∙ rw (constant_is x q bits (sym e ∙ f), ← here s q b g, ← h, ne_eqb y 66 i, and_false bits)

  pub constant_plain : (x : T.Quoted) (c : Option (ℕ × Bool)) (q : ℕ) (bits : Bool) (r : Lexeme) → c ≡ constant_for x → c ≡ Some (q, bits) → bits ≡ false → r ≡ lex_of String p q → r ≡ lexeme_for (T.constant_at mixed s p x)
  constant_plain x c q bits r e f i k = k ∙ rw (constant_is x q bits (sym e ∙ f), i)

-- the `B` of a bit string lies inside
pub bits_inside : (s : List ℕ) (q b y : ℕ) → b ≡ get_or s (q + 0) 0 → y ≡ capital mixed b → y ≡ 66 → q < length s
unfolding capital is_small
bits_inside s q b y g c e =
    inside s q (λ z. let f : b ≡ 0 = here s q b g ∙ z in let k : y ≡ 0 = c ∙ ap (capital mixed) f in omega arith)

-- ---- the token at a place, by the class of its first byte
pub lexeme_end : (s : List ℕ) (e p : ℕ) (r : Lexeme) → length s ≤ p → r ≡ lex_of Nothing p p → r ≡ lexeme_for (T.lexeme_at mixed s e (T.up_to p))
unfolding T.lexeme_at
lexeme_end s e p r h i = i ∙ rw (le-leb (length s) p h)

module _ (s : List ℕ) (e p : ℕ) (t : Bool) (h : p < length s) (i : t ≡ (eqb e p && T.is_touching mixed s p)) where
  pub lexeme_touching : (r : Lexeme) → t ≡ true → r ≡ lex_of Wrong p p → r ≡ lexeme_for (T.lexeme_at mixed s e (T.up_to p))
  unfolding T.lexeme_at
  lexeme_touching r f g = g ∙ rw (lt-leb (length s) p h, ← i, f)

  module _ (c : Class) (r : Lexeme) (j : t ≡ false) (k : c ≡ class_of mixed (get_or s p 0)) where
    found : (d : Class) → c ≡ d → T.lexeme_of mixed d s p ≡ T.lexeme_at mixed s e (T.up_to p)
    unfolding T.lexeme_at
    found d f = rw (lt-leb (length s) p h, ← i, j, ← k, f)

    pub lexeme_word : (w : ℕ) → c ≡ Letter → w ≡ p + length (leading (is_alphameric mixed) (drop p s)) → r ≡ lex_of Word p w → r ≡ lexeme_for (T.lexeme_at mixed s e (T.up_to p))
    unfolding T.lexeme_of T.run_at
    lexeme_word w f l m = m ∙ ap (lex_of Word p) l ∙ ap lexeme_for (found Letter f)

    pub lexeme_integer : (w : ℕ) → c ≡ Digit → w ≡ p + length (leading is_digit (drop p s)) → r ≡ lex_of Integer p w → r ≡ lexeme_for (T.lexeme_at mixed s e (T.up_to p))
    unfolding T.lexeme_of T.run_at
    lexeme_integer w f l m = m ∙ ap (lex_of Integer p) l ∙ ap lexeme_for (found Digit f)

    pub lexeme_quote : c ≡ Quote → r ≡ lexeme_for (T.constant_at mixed s p (T.quoted_at (drop (p + 1) s) [] (p + 1))) → r ≡ lexeme_for (T.lexeme_at mixed s e (T.up_to p))
    unfolding T.lexeme_of
    lexeme_quote f m = m ∙ ap lexeme_for (found Quote f)

    sized : (x : Bool) (n : ℕ) → n ≡ cond x 2 1 → lex_of Sign p (p + n) ≡ lexeme_for (cond x (T.lexeme (T.sign (part 2 p s)) p (p + 2)) (T.lexeme (T.sign (part 1 p s)) p (p + 1)))
    sized true n l = rw l
    sized false n l = rw l

    pub lexeme_sign : (n : ℕ) → (c ≡ Mark) ⊎ (c ≡ Percent) → n ≡ sign_size s p → r ≡ lex_of Sign p (p + n) → r ≡ lexeme_for (T.lexeme_at mixed s e (T.up_to p))
    unfolding T.lexeme_of T.sign_at sign_size
    lexeme_sign n (inl f) l m = m ∙ sized (T.is_pair (part 2 p s)) n l ∙ ap lexeme_for (found Mark f)
    lexeme_sign n (inr f) l m = m ∙ sized (T.is_pair (part 2 p s)) n l ∙ ap lexeme_for (found Percent f)

    pub lexeme_wrong : (c ≡ Break) ⊎ ((c ≡ Blank) ⊎ ((c ≡ LineFeed) ⊎ (c ≡ Other))) → r ≡ lex_of Wrong p p → r ≡ lexeme_for (T.lexeme_at mixed s e (T.up_to p))
    unfolding T.lexeme_of
    lexeme_wrong (inl f) m = m ∙ ap lexeme_for (found Break f)
    lexeme_wrong (inr (inl f)) m = m ∙ ap lexeme_for (found Blank f)
    lexeme_wrong (inr (inr (inl f))) m = m ∙ ap lexeme_for (found LineFeed f)
    lexeme_wrong (inr (inr (inr f))) m = m ∙ ap lexeme_for (found Other f)

-- ---- the token after a place
told_up : (x : T.Spaces) (p : ℕ) → Ok p ≡ gap_for x → x ≡ T.up_to p
told_up (T.up_to q) p e = let z : p ≡ q = cc in ap T.up_to (sym z)
told_up (T.open_comment q) p e = let z : ◌≡◌ {A = ℕ} 0 1 = cc in absurd (omega arith)

told_open : (x : T.Spaces) (p : ℕ) → Err p ≡ gap_for x → x ≡ T.open_comment p
told_open (T.up_to q) p e = let z : ◌≡◌ {A = ℕ} 0 1 = cc in absurd (omega arith)
told_open (T.open_comment q) p e = let z : p ≡ q = cc in ap T.open_comment (sym z)

lexed : (s : List ℕ) (e : ℕ) (r : Lexeme) → r ≡ lexeme_for (T.token_at mixed s e) → Lexed s e r
lexed s e r f = record { kind = ap (λ (l : Lexeme). l.kind) f; from = ap (λ (l : Lexeme). l.from) f; to = ap (λ (l : Lexeme). l.to) f }

module _ (s : List ℕ) (e p : ℕ) (g : Result ℕ ℕ) (r : Lexeme) (h : g ≡ gap_for (T.spaces (length s) s e)) where
  pub token_next : g ≡ Ok p → r ≡ lexeme_for (T.lexeme_at mixed s e (T.up_to p)) → Lexed s e r
  unfolding T.token_at
  token_next i j = lexed s e r (j ∙ rw (told_up (T.spaces (length s) s e) p (sym i ∙ h)))

  pub token_open : g ≡ Err p → r ≡ lex_of Wrong p p → Lexed s e r
  unfolding T.token_at T.lexeme_at
  token_open i j = lexed s e r (j ∙ rw (told_open (T.spaces (length s) s e) p (sym i ∙ h)))

-- ---- words and signs as bytes
part_shift : (n at x : ℕ) (s : List ℕ) → part n (suc at) (x ∷ s) ≡ part n at s
part_shift zero at x s = refl
part_shift (suc n) at x s = ap (λ (t : List ℕ). get_or s at 0 ∷ t) (part_shift n (suc at) x s)

part_all : (w : List ℕ) → part (length w) 0 w ≡ w
part_all [] = refl
part_all (x ∷ w) = ap (λ (t : List ℕ). x ∷ t) (part_shift (length w) 0 x w ∙ part_all w)

and_no : (a b : Bool) → false ≡ b → false ≡ (a && b)
and_no true b e = e
and_no false b e = refl

same_length : (xs ys : List ℕ) → (length xs ≡ length ys → ⊥) → false ≡ same xs ys
same_length [] [] h = absurd (h refl)
same_length [] (y ∷ ys) h = refl
same_length (x ∷ xs) [] h = refl
same_length (x ∷ xs) (y ∷ ys) h = and_no (eqb x y) (same xs ys) (same_length xs ys (λ e. h (ap suc e)))

module _ (s : List ℕ) (l : Lexeme) (w : List ℕ) (n : ℕ) (e : n ≡ l.to - l.from) where
  pub written_same : (t : Bool) → n ≡ length w → t ≡ same (part (length w) l.from s) (part (length w) 0 w) → t ≡ same (written s l) w
  unfolding written
  written_same t f g = g ∙ rw (part_all w, ← f, e)

  pub spelled_same : (t : Bool) → n ≡ length w → t ≡ same (folded mixed (part (length w) l.from s)) (part (length w) 0 w) → t ≡ same (spelling s l) w
  unfolding written
  spelled_same t f g = g ∙ rw (part_all w, ← f, e)

  pub written_not : (n ≡ length w → ⊥) → false ≡ same (written s l) w
  unfolding written
  written_not f = same_length (part (l.to - l.from) l.from s) w (λ g. f (e ∙ sym (length_part (l.to - l.from) l.from s) ∙ g))

  pub spelled_not : (n ≡ length w → ⊥) → false ≡ same (spelling s l) w
  unfolding written
  spelled_not f =
      let p : List ℕ = part (l.to - l.from) l.from s in
      same_length (folded mixed p) w (λ g. f (e ∙ sym (length_folded mixed p ∙ length_part (l.to - l.from) l.from s) ∙ g))

-- ---- a token is what its kind and its bytes say
part_nil : (n a b : ℕ) → part n a [] ≡ part n b []
part_nil zero a b = refl
part_nil (suc n) a b = ap (λ (t : List ℕ). 0 ∷ t) (part_nil n (suc a) (suc b))

part_drop : (n p : ℕ) (s : List ℕ) → part n p s ≡ part n 0 (drop p s)
part_drop n zero s = refl
part_drop n (suc p) [] = part_nil n (suc p) 0
part_drop n (suc p) (x ∷ s) = part_shift n p x s ∙ part_drop n p s

led : (x : Bool) (b : ℕ) (l m : List ℕ) → part (length m) 0 l ≡ m → part (length (cond x (b ∷ m) [])) 0 (b ∷ l) ≡ cond x (b ∷ m) []
led true b l m e = ap (λ (t : List ℕ). b ∷ t) (part_shift (length m) 0 b l ∙ e)
led false b l m e = refl

leading_part : (test : ℕ → Bool) (l : List ℕ) → part (length (leading test l)) 0 l ≡ leading test l
leading_part test [] = refl
leading_part test (b ∷ l) = led (test b) b l (leading test l) (leading_part test l)

record Stands (s : List ℕ) (x : T.Lexeme) : Type 0 where
  is : x.token ≡ token_for (kind_of x.token) (part (x.to - x.from) x.from s) (content s x.from)

module _ (s : List ℕ) where
  pub run_part : (test : ℕ → Bool) (p : ℕ) → leading test (drop p s) ≡ part (p + length (leading test (drop p s)) - p) p s
  run_part test p =
      let e : p + length (leading test (drop p s)) - p ≡ length (leading test (drop p s)) = omega arith in
      rw e (sym (part_drop (length (leading test (drop p s))) p s ∙ leading_part test (drop p s)))

  stands_pair : (p : ℕ) (x : Bool) → Stands s (cond x (T.lexeme (T.sign (part 2 p s)) p (p + 2)) (T.lexeme (T.sign (part 1 p s)) p (p + 1)))
  stands_pair p true = let e : p + 2 - p ≡ 2 = omega arith in record { is = rw e }
  stands_pair p false = let e : p + 1 - p ≡ 1 = omega arith in record { is = rw e }

  stands_bits : (p q : ℕ) (bs : List ℕ) (x : Bool) → content s p ≡ bs → Stands s (cond x (T.lexeme (T.bits bs) p (q + 1)) (T.lexeme (T.string bs) p q))
  stands_bits p q bs true e = record { is = ap T.bits (sym e) }
  stands_bits p q bs false e = record { is = ap T.string (sym e) }

  stands_constant : (p : ℕ) (x : T.Quoted) → content s p ≡ content_of x → Stands s (T.constant_at mixed s p x)
  unfolding T.constant_at
  stands_constant p T.unquoted e = record { is = refl }
  stands_constant p (T.quoted bs q) e = stands_bits p q bs (all T.is_bit bs && eqb (capital mixed (get_or s q 0)) 66) e

  stands_wrong : (p : ℕ) → Stands s (T.lexeme T.wrong p p)
  stands_wrong p = record { is = refl }

  stands_of : (c : Class) (p : ℕ) → Stands s (T.lexeme_of mixed c s p)
  unfolding T.lexeme_of T.run_at T.sign_at content
  stands_of Letter p = record { is = ap (λ (w : List ℕ). T.word (folded mixed w)) (run_part (is_alphameric mixed) p) }
  stands_of Digit p = record { is = ap T.integer (run_part is_digit p) }
  stands_of Quote p = stands_constant p (T.quoted_at (drop (p + 1) s) [] (p + 1)) refl
  stands_of Mark p = stands_pair p (T.is_pair (part 2 p s))
  stands_of Percent p = stands_pair p (T.is_pair (part 2 p s))
  stands_of Break p = stands_wrong p
  stands_of Blank p = stands_wrong p
  stands_of LineFeed p = stands_wrong p
  stands_of Other p = stands_wrong p

  stands_either : (b : Bool) (x y : T.Lexeme) → Stands s x → Stands s y → Stands s (when b (λ _. x) (λ _. y))
  stands_either true x y f g = f
  stands_either false x y f g = g

  stands_at : (e : ℕ) (g : T.Spaces) → Stands s (T.lexeme_at mixed s e g)
  unfolding T.lexeme_at
  stands_at e (T.open_comment p) = stands_wrong p
  stands_at e (T.up_to p) =
      stands_either (leb (length s) p) (T.lexeme T.nothing p p) _ (record { is = refl })
      (stands_either (eqb e p && T.is_touching mixed s p) (T.lexeme T.wrong p p) _ (stands_wrong p) (stands_of (class_of mixed (get_or s p 0)) p))

module _ (s : List ℕ) (e : ℕ) (l : Lexeme) (h : Lexed s e l) where
  -- THE TOKEN OF A LEXEME, by its kind, its bytes, and the content of a constant
  pub token_is : (T.token_at mixed s e).token ≡ token_for l.kind (written s l) (content s l.from)
  unfolding T.token_at written
  token_is = rw (h.kind, h.from, h.to) (stands_at s e (T.spaces (length s) s e)).is

  pub is_word_lem : (W : S.String) (w : List ℕ) → bytes_of W ≡ w → is_word_in s l w ≡ T.is_word W (T.token_at mixed s e).token
  unfolding is_word_in
  is_word_lem W w f = rw (token_is, ← f) (by_kind l.kind (written s l) (content s l.from))
    where
      by_kind : (k : Kind) (x y : List ℕ) → (is_word_kind k && same (folded mixed x) (bytes_of W)) ≡ T.is_word W (token_for k x y)
      by_kind Word x y = refl
      by_kind Integer x y = refl
      by_kind String x y = refl
      by_kind Bits x y = refl
      by_kind Sign x y = refl
      by_kind Nothing x y = refl
      by_kind Wrong x y = refl

  pub is_sign_lem : (W : S.String) (w : List ℕ) → bytes_of W ≡ w → is_sign_in s l w ≡ T.is_sign W (T.token_at mixed s e).token
  unfolding is_sign_in
  is_sign_lem W w f = rw (token_is, ← f) (by_kind l.kind (written s l) (content s l.from))
    where
      by_kind : (k : Kind) (x y : List ℕ) → (is_sign_kind k && same x (bytes_of W)) ≡ T.is_sign W (token_for k x y)
      by_kind Word x y = refl
      by_kind Integer x y = refl
      by_kind String x y = refl
      by_kind Bits x y = refl
      by_kind Sign x y = refl
      by_kind Nothing x y = refl
      by_kind Wrong x y = refl
