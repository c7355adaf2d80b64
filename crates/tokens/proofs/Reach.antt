-- Where tokens lie: a token begins no earlier than it is looked for, has a byte, and ends within the source.
-- Assumes nothing.
use mathlib.Core.Path.{◌≡◌, refl, sym, ap, ◌∙◌}
use mathlib.Core.Bool.{Bool, true, false, cond, ◌&&◌, ◌||◌}
use mathlib.Core.List.{List, [], ◌∷◌, ◌++◌}
use Prim.Native.Nat.{ℕ, zero, suc, ◌+◌, ◌-◌, ◌<◌, ◌≤◌}
use native.Mathlib.Omega.{arith}
use borrow.Author.Tests.{leb-false, eqb-true}
use lib.Dec.{eqb, leb}
use lib.ListN.{length, get_or, drop, length-drop}
use Rattle.definition.specs.Choice.{when}
use Rattle.definition.specs.Lists.{part, all, leading}
use Rattle.definition.specs.Bytes.{mixed, class_of, is_letter, is_digit, is_blank, is_mark, is_alphameric, is_small, capital}
use Rattle.definition.specs.declared.Class.{Class}
use Rattle.definition.specs.declared.Class.TheVariants.{Letter, Digit, Break, Blank, LineFeed, Percent, Quote, Mark, Other}
use Rattle.definition.specs.Tokens as T
use Rattle.tokens.specs.Answer.{sign_size, kind_of, is_token, Lexed}
use Rattle.tokens.specs.declared.Lexeme.{Lexeme}
use Rattle.tokens.proofs.Laws.{at, inside, and_second, comment_further, sign_inside}

-- ---- spaces
reached : T.Spaces → ℕ
reached (T.up_to p) = p
reached (T.open_comment p) = p

step_low : (x y : Bool) (c : T.Closed) (p : ℕ) (g : ℕ → T.Spaces) → ((q : ℕ) → q ≤ reached (g q)) → ((q : ℕ) → c ≡ T.closed_at q → p + 2 < q)
    → p ≤ reached (when x (λ _. g (p + 1)) (λ _. when y (λ _. T.after_comment c p g) (λ _. T.up_to p)))
unfolding reached
step_low true y c p g r f = omega (arith, r (p + 1))
step_low false true (T.closed_at q) p g r f = omega (arith, r q, f q refl)
step_low false true T.never_closed p g r f = omega arith
step_low false false c p g r f = omega arith

spaces_low : (f : ℕ) (s : List ℕ) (p : ℕ) → p ≤ reached (T.spaces f s p)
unfolding T.spaces reached
spaces_low zero s p = omega arith
spaces_low (suc f) s p =
    step_low (T.is_space (get_or s p 0)) (T.is_comment s p) (T.past_comment s p) p (T.spaces f s) (spaces_low f s) (comment_further false (drop (p + 2) s) (p + 2))

-- ---- runs
shorter : (x : Bool) (b : ℕ) (m : List ℕ) (n : ℕ) → length m ≤ n → length (cond x (b ∷ m) []) ≤ suc n
shorter true b m n h = omega arith
shorter false b m n h = omega arith

leading_short : (test : ℕ → Bool) (l : List ℕ) → length (leading test l) ≤ length l
leading_short test [] = omega arith
leading_short test (b ∷ l) = shorter (test b) b (leading test l) (length l) (leading_short test l)

module _ (s : List ℕ) (p : ℕ) (h : p < length s) (test : ℕ → Bool) where
  pub run_past : test (get_or s p 0) ≡ true → p < p + length (leading test (drop p s))
  run_past e =
      let q : leading test (drop p s) ≡ get_or s p 0 ∷ leading test (drop (p + 1) s) = rw (at s p h, e) in
      omega (arith, ap length q)

  pub run_inside : p + length (leading test (drop p s)) ≤ length s
  run_inside = omega (arith, leading_short test (drop p s), length-drop p s)

-- ---- what the class of a byte tells
tag : Class → ℕ
tag Letter = 1
tag Digit = 2
tag Break = 0
tag Blank = 0
tag LineFeed = 0
tag Percent = 0
tag Quote = 0
tag Mark = 0
tag Other = 0

digit_first : (l d u k f p q m : Bool) → tag (cond l Letter (cond d Digit (cond u Break (cond k Blank (cond f LineFeed (cond p Percent (cond q Quote (cond m Mark Other)))))))) ≡ 2 → d ≡ true
unfolding tag
digit_first true d u k f p q m e = absurd (omega arith)
digit_first false true u k f p q m e = refl
digit_first false false true k f p q m e = absurd (omega arith)
digit_first false false false true f p q m e = absurd (omega arith)
digit_first false false false false true p q m e = absurd (omega arith)
digit_first false false false false false true q m e = absurd (omega arith)
digit_first false false false false false false true m e = absurd (omega arith)
digit_first false false false false false false false true e = absurd (omega arith)
digit_first false false false false false false false false e = absurd (omega arith)

digit_class : (b : ℕ) → class_of mixed b ≡ Digit → is_digit b ≡ true
unfolding class_of tag
digit_class b e = digit_first (is_letter mixed b) (is_digit b) (eqb b 95) (is_blank b) (eqb b 10) (eqb b 37) (eqb b 39) (is_mark b) (ap tag e)

named_first : (l d u k f p q m : Bool) → 0 < tag (cond l Letter (cond d Digit (cond u Break (cond k Blank (cond f LineFeed (cond p Percent (cond q Quote (cond m Mark Other)))))))) → (l || d || u) ≡ true
unfolding tag
named_first true d u k f p q m e = refl
named_first false true u k f p q m e = refl
named_first false false true k f p q m e = refl
named_first false false false true f p q m e = absurd (omega arith)
named_first false false false false true p q m e = absurd (omega arith)
named_first false false false false false true q m e = absurd (omega arith)
named_first false false false false false false true m e = absurd (omega arith)
named_first false false false false false false false true e = absurd (omega arith)
named_first false false false false false false false false e = absurd (omega arith)

pub letter_goes_on : (b : ℕ) → class_of mixed b ≡ Letter → is_alphameric mixed b ≡ true
unfolding class_of is_alphameric tag
letter_goes_on b e = named_first (is_letter mixed b) (is_digit b) (eqb b 95) (is_blank b) (eqb b 10) (eqb b 37) (eqb b 39) (is_mark b) (omega (arith, ap tag e))

pub digit_goes_on : (b : ℕ) → class_of mixed b ≡ Digit → is_alphameric mixed b ≡ true
unfolding class_of is_alphameric tag
digit_goes_on b e = named_first (is_letter mixed b) (is_digit b) (eqb b 95) (is_blank b) (eqb b 10) (eqb b 37) (eqb b 39) (is_mark b) (omega (arith, ap tag e))

-- ---- constants
record Ends (p n q : ℕ) : Type 0 where
  past : p < q
  low : q ≤ p + n

one_byte : (x : Bool) (bs cs : List ℕ) (p q : ℕ) → cond x (T.quoted bs (p + 1)) T.unquoted ≡ T.quoted cs q → Ends p 1 q
one_byte true bs cs p q e = let z : p + 1 ≡ q = cc in record { past = omega arith; low = omega arith }
one_byte false bs cs p q e = let z : ◌≡◌ {A = ℕ} 0 1 = cc in absurd (omega arith)

two_bytes : (x y : Bool) (a b : T.Quoted) (bs cs : List ℕ) (p n q : ℕ) → (a ≡ T.quoted cs q → Ends (p + 2) n q) → (b ≡ T.quoted cs q → Ends (p + 1) (suc n) q)
    → when x (λ _. when y (λ _. a) (λ _. T.quoted bs (p + 1))) (λ _. b) ≡ T.quoted cs q → Ends p (suc (suc n)) q
two_bytes true true a b bs cs p n q f g e = let h : Ends (p + 2) n q = f e in record { past = omega (arith, h.past); low = omega (arith, h.low) }
two_bytes true false a b bs cs p n q f g e = let z : p + 1 ≡ q = cc in record { past = omega arith; low = omega arith }
two_bytes false y a b bs cs p n q f g e = let h : Ends (p + 1) (suc n) q = g e in record { past = omega (arith, h.past); low = omega (arith, h.low) }

quoted_ends : (l bs cs : List ℕ) (p q : ℕ) → T.quoted_at l bs p ≡ T.quoted cs q → Ends p (length l) q
unfolding T.quoted_at
quoted_ends [] bs cs p q e = let z : ◌≡◌ {A = ℕ} 0 1 = cc in absurd (omega arith)
quoted_ends (b ∷ []) bs cs p q e = one_byte (eqb b 39) bs cs p q e
quoted_ends (b ∷ c ∷ l) bs cs p q e =
    two_bytes (eqb b 39) (eqb c 39) (T.quoted_at l (bs ++ b ∷ []) (p + 2)) (T.quoted_at (c ∷ l) (bs ++ b ∷ []) (p + 1)) bs cs p (length l) q
    (quoted_ends l (bs ++ b ∷ []) cs (p + 2) q) (quoted_ends (c ∷ l) (bs ++ b ∷ []) cs (p + 1) q) e

-- ---- tokens
record Lies (s : List ℕ) (p : ℕ) (x : T.Lexeme) : Type 0 where
  low : p ≤ x.from
  past : is_token (kind_of x.token) ≡ true → x.from < x.to
  inside : is_token (kind_of x.token) ≡ true → x.to ≤ length s

module _ (s : List ℕ) (p : ℕ) where
  lies_not : (x : T.Lexeme) → is_token (kind_of x.token) ≡ false → p ≤ x.from → Lies s p x
  lies_not x e h = record {
    low = h;
    past = λ f. let z : ◌≡◌ {A = ℕ} 0 1 = cc in absurd (omega arith);
    inside = λ f. let z : ◌≡◌ {A = ℕ} 0 1 = cc in absurd (omega arith);
  }

  lies_wrong : Lies s p (T.lexeme T.wrong p p)
  lies_wrong = lies_not (T.lexeme T.wrong p p) refl (omega arith)

  lies_pair : (x : Bool) (a b : List ℕ) → p + cond x 2 1 ≤ length s → Lies s p (cond x (T.lexeme (T.sign a) p (p + 2)) (T.lexeme (T.sign b) p (p + 1)))
  lies_pair true a b h = record { low = omega arith; past = λ _. omega arith; inside = λ _. h }
  lies_pair false a b h = record { low = omega arith; past = λ _. omega arith; inside = λ _. h }

  lies_bits : (x : Bool) (bs : List ℕ) (q : ℕ) → p < q → q ≤ length s → (x ≡ true → q < length s) → Lies s p (cond x (T.lexeme (T.bits bs) p (q + 1)) (T.lexeme (T.string bs) p q))
  lies_bits true bs q f g h = record { low = omega arith; past = λ _. omega arith; inside = λ _. omega (arith, h refl) }
  lies_bits false bs q f g h = record { low = omega arith; past = λ _. f; inside = λ _. g }

  lies_constant : (x : T.Quoted) → ((bs : List ℕ) (q : ℕ) → x ≡ T.quoted bs q → Ends (p + 1) (length s - (p + 1)) q) → p < length s → Lies s p (T.constant_at mixed s p x)
  unfolding T.constant_at capital is_small
  lies_constant T.unquoted f h = lies_wrong
  lies_constant (T.quoted bs q) f h =
      let e : Ends (p + 1) (length s - (p + 1)) q = f bs q refl in
      lies_bits (all T.is_bit bs && eqb (capital mixed (get_or s q 0)) 66) bs q (omega (arith, e.past)) (omega (arith, e.low))
      (λ g. inside s q (λ z. omega (arith, ap (capital mixed) z, eqb-true (capital mixed (get_or s q 0)) 66 (and_second (all T.is_bit bs) (eqb (capital mixed (get_or s q 0)) 66) (sym g)))))

  module _ (h : p < length s) where
    lies_of : (c : Class) → class_of mixed (get_or s p 0) ≡ c → Lies s p (T.lexeme_of mixed c s p)
    unfolding T.lexeme_of T.run_at T.sign_at sign_size
    lies_of Letter e = record {
      low = omega arith;
      past = λ _. run_past s p h (is_alphameric mixed) (letter_goes_on (get_or s p 0) e);
      inside = λ _. run_inside s p h (is_alphameric mixed);
    }
    lies_of Digit e = record {
      low = omega arith;
      past = λ _. run_past s p h is_digit (digit_class (get_or s p 0) e);
      inside = λ _. run_inside s p h is_digit;
    }
    lies_of Quote e =
        lies_constant (T.quoted_at (drop (p + 1) s) [] (p + 1))
        (λ bs q f. rw (length-drop (p + 1) s) at (quoted_ends (drop (p + 1) s) [] bs (p + 1) q f)) h
    lies_of Mark e = lies_pair (T.is_pair (part 2 p s)) (part 2 p s) (part 1 p s) (sign_inside s p (sign_size s p) h refl)
    lies_of Percent e = lies_pair (T.is_pair (part 2 p s)) (part 2 p s) (part 1 p s) (sign_inside s p (sign_size s p) h refl)
    lies_of Break e = lies_wrong
    lies_of Blank e = lies_wrong
    lies_of LineFeed e = lies_wrong
    lies_of Other e = lies_wrong

  lies_either : (b : Bool) (x y : T.Lexeme) → Lies s p x → Lies s p y → Lies s p (when b (λ _. x) (λ _. y))
  lies_either true x y f g = f
  lies_either false x y f g = g

  lies_or_end : (b : Bool) (x : T.Lexeme) → leb (length s) p ≡ b → (p < length s → Lies s p x) → Lies s p (when b (λ _. T.lexeme T.nothing p p) (λ _. x))
  lies_or_end true x e f = lies_not (T.lexeme T.nothing p p) refl (omega arith)
  lies_or_end false x e f = f (leb-false (length s) p e)

lies_later : (s : List ℕ) (e p : ℕ) (x : T.Lexeme) → e ≤ p → Lies s p x → Lies s e x
lies_later s e p x h l = record { low = omega (arith, l.low); past = l.past; inside = l.inside }

lies_at : (s : List ℕ) (e : ℕ) (g : T.Spaces) → e ≤ reached g → Lies s e (T.lexeme_at mixed s e g)
unfolding T.lexeme_at reached
lies_at s e (T.open_comment p) h = lies_later s e p (T.lexeme T.wrong p p) h (lies_wrong s p)
lies_at s e (T.up_to p) h =
    lies_later s e p _ h
    (lies_or_end s p (leb (length s) p) _ refl
    (λ k. lies_either s p (eqb e p && T.is_touching mixed s p) (T.lexeme T.wrong p p) _ (lies_wrong s p) (lies_of s p k (class_of mixed (get_or s p 0)) refl)))

lies : (s : List ℕ) (e : ℕ) → Lies s e (T.token_at mixed s e)
unfolding T.token_at
lies s e = lies_at s e (T.spaces (length s) s e) (spaces_low (length s) s e)

module _ (s : List ℕ) (e : ℕ) (l : Lexeme) (h : Lexed s e l) where
  pub token_low : e ≤ l.from
  token_low = rw h.from (lies s e).low

  pub token_past : is_token l.kind ≡ true → l.from < l.to
  token_past f = rw (h.from, h.to) ((lies s e).past (ap is_token (sym h.kind) ∙ f))

  pub token_inside : is_token l.kind ≡ true → l.to ≤ length s
  token_inside f = rw h.to ((lies s e).inside (ap is_token (sym h.kind) ∙ f))
