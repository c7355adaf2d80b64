-- Ends lie past their place and within the source: of text tokens, of statement tokens, of expressions.
-- Assumes nothing.
use Prim.Native.Nat.{ℕ, zero, suc, ◌+◌, ◌≤◌, ◌<◌}
use Prim.Native.Char.{code}
use Prim.Native.String.{String}
use native.Mathlib.Omega.{arith}
use mathlib.Core.Bool.{Bool, true, false, ◌&&◌, ◌||◌, and-false, false≢true}
use mathlib.Core.List.{List, [], ◌∷◌, ◌++◌}
use mathlib.Core.Path.{◌≡◌, refl, sym, ap, ◌∙◌}
use lib.Dec.{leb, eqb}
use lib.ListN.{length, get_or, drop, length-drop, get_or-eq_default}
use lib.Seq.{drop-cons}
use borrow.Author.Tests.{leb-true, leb-false}
use Rattle.definition.specs.Choice.{when}
use Rattle.definition.specs.Refusal.{Why, over_limit}
use Rattle.definition.specs.Limits.{name_length, open_parentheses}
use Rattle.definition.specs.Expressions.{Reading, read, refused, then, Operator, Prefix, Tree, binary, Parsed, Maybe, is, no_operator, infix_of, prefix_of, expect_sign, expect_word, Named, name_of, name_at, Reader, arguments, reference_at, primitive, prefixed, operand, chained, chain, levels, expression, whole_expression}
use Rattle.definition.proofs.Choices.{when_has, cond_has}
use Rattle.definition.specs.Lists.{part, all, leading}
use Rattle.definition.specs.Bytes.{mixed, is_small, capital, is_letter, is_digit, is_alphameric, is_blank, is_mark, class_of}
use Rattle.definition.specs.declared.Class.{Class}
use Rattle.definition.specs.declared.Class.TheVariants.{Letter, Digit, Break, Blank, LineFeed, Percent, Quote, Mark, Other}
use Rattle.definition.specs.Tokens.{Closed, closed_at, never_closed, comment_end, quote_end, is_comment, past_comment, Token, word, integer, string, bits, sign, nothing, wrong, Lexeme, lexeme, is_sign, is_word, Spaces, up_to, open_comment, after_comment, is_space, spaces, Quoted, quoted, unquoted, quoted_at, is_bit, constant_at, is_pair, sign_at, run_at, lexeme_of, is_touching, lexeme_at, token_at, Cut, closed_cut, piece_of, piece_at}

-- a place past another and within the source
pub record Past (s : List ℕ) (at to : ℕ) : Type 0 where
  pub above : at < to
  pub within : to ≤ length s

-- ---- bytes: past the end each is 0, which begins nothing
below : (s : List ℕ) (p : ℕ) (test : ℕ → Bool) → test 0 ≡ false → test (get_or s p 0) ≡ true → p < length s
below s p test n e = go (leb (length s) p) refl
  where
    go : (t : Bool) → leb (length s) p ≡ t → p < length s
    go true z = absurd (false≢true (sym n ∙ ap test (sym (get_or-eq_default s 0 (leb-true (length s) p z))) ∙ e))
    go false z = leb-false (length s) p z

-- what is so of a class by its tests is so of the class of a byte
class_has : (b : ℕ) (Q : Class → Type 0) → (is_letter mixed b ≡ true → Q Letter) → (is_digit b ≡ true → Q Digit) → Q Break → Q Blank → Q LineFeed → Q Percent → Q Quote → Q Mark → Q Other → Q (class_of mixed b)
unfolding class_of
class_has b Q letter digit break blank feed percent quote mark other =
    cond_has Q (is_letter mixed b) _ _ letter λ _. cond_has Q (is_digit b) _ _ digit λ _. cond_has Q (eqb b (code "_")) _ _ (λ _. break) λ _.
    cond_has Q (is_blank b) _ _ (λ _. blank) λ _. cond_has Q (eqb b 10) _ _ (λ _. feed) λ _. cond_has Q (eqb b (code "%")) _ _ (λ _. percent) λ _.
    cond_has Q (eqb b (code "'")) _ _ (λ _. quote) λ _. cond_has Q (is_mark b) _ _ (λ _. mark) λ _. other

-- ---- runs of bytes
leading_within : (p : ℕ → Bool) (l : List ℕ) → length (leading p l) ≤ length l
leading_within p [] = omega arith
leading_within p (b ∷ l) = cond_has (λ x. length x ≤ suc (length l)) (p b) _ _ (λ _. omega (arith, leading_within p l)) λ _. omega arith

run_past : (test : ℕ → Bool) (s : List ℕ) (p : ℕ) → p < length s → test (get_or s p 0) ≡ true → Past s p (p + length (leading test (drop p s)))
run_past test s p h e =
    let q : leading test (drop p s) ≡ get_or s p 0 ∷ leading test (drop (suc p) s) = rw (drop-cons s p 0 h, e) in
    record { above = omega (arith, ap length q); within = omega (arith, leading_within test (drop p s), length-drop p s) }

letter_alphameric : (b : ℕ) → is_letter mixed b ≡ true → is_alphameric mixed b ≡ true
unfolding is_alphameric
letter_alphameric b e = rw e

digit_alphameric : (b : ℕ) → is_digit b ≡ true → is_alphameric mixed b ≡ true
unfolding is_alphameric
digit_alphameric b e = rw e (go (is_letter mixed b))
  where
    go : (t : Bool) → (t || true || eqb b (code "_")) ≡ true
    go true = refl
    go false = refl

-- ---- strings and comments, from a place that the bytes l follow
abbrev ClosedIn : ℕ → ℕ → Closed → Type 0
ClosedIn low high (closed_at q) = (low < q) × (q ≤ high)
ClosedIn low high never_closed = Unit {0}

closed_step : (t : Bool) (n p : ℕ) (c : Closed) → ClosedIn (p + 1) (p + 1 + n) c → ClosedIn p (p + suc n) (when t (λ _. closed_at (p + 1)) (λ _. c))
closed_step true n p c h = omega arith
closed_step false n p (closed_at q) h = omega arith
closed_step false n p never_closed h = tt

comment_in : (star : Bool) (l : List ℕ) (p : ℕ) → ClosedIn p (p + length l) (comment_end star l p)
unfolding comment_end
comment_in star [] p = tt
comment_in star (b ∷ l) p = closed_step (star && eqb b (code "/")) (length l) p (comment_end (eqb b (code "*")) l (p + 1)) (comment_in (eqb b (code "*")) l (p + 1))

quote_in : (l : List ℕ) (p : ℕ) → ClosedIn p (p + length l) (quote_end l p)
unfolding quote_end
quote_in [] p = tt
quote_in (b ∷ l) p = closed_step (eqb b (code "'")) (length l) p (quote_end l (p + 1)) (quote_in l (p + 1))

-- the same in a source
abbrev pub ClosedPast : List ℕ → ℕ → Closed → Type 0
ClosedPast s p (closed_at q) = Past s p q
ClosedPast s p never_closed = Unit {0}

closed_past : (s : List ℕ) (p : ℕ) (c : Closed) → ClosedIn p (p + length (drop p s)) c → ClosedPast s p c
closed_past s p (closed_at q) h = record { above = h.0; within = omega (arith, h.0, h.1, length-drop p s) }
closed_past s p never_closed h = tt

pub comment_past : (s : List ℕ) (p : ℕ) → ClosedPast s (p + 2) (past_comment s p)
comment_past s p = closed_past s (p + 2) (past_comment s p) (comment_in false (drop (p + 2) s) (p + 2))

quote_past : (s : List ℕ) (p : ℕ) → ClosedPast s p (quote_end (drop p s) p)
quote_past s p = closed_past s p (quote_end (drop p s) p) (quote_in (drop p s) p)

-- ---- THE TEXT TOKEN at p ends past p and within the source
cut_past : (s : List ℕ) (p q : ℕ) (c : Closed) → p < length s → p ≤ q → ClosedPast s q c → Past s p (closed_cut s c).to
cut_past s p q (closed_at x) h k z = omega arith
cut_past s p q never_closed h k z = omega arith

pub piece_at_past : (s : List ℕ) (p : ℕ) → p < length s → Past s p (piece_at mixed s p).to
unfolding piece_at piece_of
piece_at_past s p h =
    let one : Past s p (p + 1) = omega arith in
    class_has (get_or s p 0) (λ c. Past s p (piece_of mixed c s p).to)
    (λ e. run_past (is_alphameric mixed) s p h (letter_alphameric (get_or s p 0) e))
    (λ e. run_past (is_alphameric mixed) s p h (digit_alphameric (get_or s p 0) e))
    one one one one
    (cut_past s p (p + 1) (quote_end (drop (p + 1) s) (p + 1)) h (omega arith) (quote_past s (p + 1)))
    (when_has (λ (x : Cut). Past s p x.to) (is_comment s p) _ _ (λ _. cut_past s p (p + 2) (past_comment s p) h (omega arith) (comment_past s p)) λ _. one)
    one

-- ---- spaces
abbrev SpacesIn : ℕ → ℕ → Spaces → Type 0
SpacesIn low high (up_to p) = (low ≤ p) × (p ≤ high)
SpacesIn low high (open_comment p) = (low ≤ p) × (p ≤ high)

spaces_more : (low mid high : ℕ) (x : Spaces) → low ≤ mid → SpacesIn mid high x → SpacesIn low high x
spaces_more low mid high (up_to p) h k = omega arith
spaces_more low mid high (open_comment p) h k = omega arith

space_below : (s : List ℕ) (p : ℕ) → is_space (get_or s p 0) ≡ true → p < length s
unfolding is_space is_blank
space_below s p e = below s p is_space refl e

after_comment_lem : (s : List ℕ) (p : ℕ) (g : ℕ → Spaces) → ((q : ℕ) → q ≤ length s → SpacesIn q (length s) (g q)) → p ≤ length s → (c : Closed) → ClosedPast s (p + 2) c → SpacesIn p (length s) (after_comment c p g)
after_comment_lem s p g k h (closed_at q) z = spaces_more p q (length s) (g q) (omega arith) (k q z.within)
after_comment_lem s p g k h never_closed z = omega arith

spaces_in : (f : ℕ) (s : List ℕ) (p : ℕ) → p ≤ length s → SpacesIn p (length s) (spaces f s p)
unfolding spaces
spaces_in zero s p h = omega arith
spaces_in (suc f) s p h =
    when_has (SpacesIn p (length s)) (is_space (get_or s p 0)) _ _
    (λ e. spaces_more p (p + 1) (length s) (spaces f s (p + 1)) (omega arith) (spaces_in f s (p + 1) (omega (arith, space_below s p e)))) λ _.
    when_has (SpacesIn p (length s)) (is_comment s p) _ _ (λ _. after_comment_lem s p (spaces f s) (spaces_in f s) h (past_comment s p) (comment_past s p)) λ _.
    omega arith

-- ---- constants in quotes
abbrev QuotedIn : ℕ → ℕ → Quoted → Type 0
QuotedIn low high (quoted bs q) = (low < q) × (q ≤ high)
QuotedIn low high unquoted = Unit {0}

quoted_more : (low mid high top : ℕ) (x : Quoted) → low ≤ mid → high ≤ top → QuotedIn mid high x → QuotedIn low top x
quoted_more low mid high top (quoted bs q) h k z = omega arith
quoted_more low mid high top unquoted h k z = tt

quoted_in : (l bs : List ℕ) (p : ℕ) → QuotedIn p (p + length l) (quoted_at l bs p)
unfolding quoted_at
quoted_in [] bs p = tt
quoted_in (b ∷ []) bs p = cond_has (QuotedIn p (p + 1)) (eqb b (code "'")) _ _ (λ _. omega arith) λ _. tt
quoted_in (b ∷ c ∷ l) bs p =
    when_has (QuotedIn p (p + suc (suc (length l)))) (eqb b (code "'")) _ _
    (λ _. when_has (QuotedIn p (p + suc (suc (length l)))) (eqb c (code "'")) _ _
    (λ _. quoted_more p (p + 2) (p + 2 + length l) (p + suc (suc (length l))) (quoted_at l (bs ++ b ∷ []) (p + 2)) (omega arith) (omega arith) (quoted_in l (bs ++ b ∷ []) (p + 2))) λ _. omega arith)
    λ _. quoted_more p (p + 1) (p + 1 + suc (length l)) (p + suc (suc (length l))) (quoted_at (c ∷ l) (bs ++ b ∷ []) (p + 1)) (omega arith) (omega arith) (quoted_in (c ∷ l) (bs ++ b ∷ []) (p + 1))

-- ---- THE STATEMENT TOKEN behind e lies between e and the source's end, and has a byte, unless it is `nothing` or `wrong`
abbrev pub Real : Token → Type 0
Real (word w) = Unit {0}
Real (integer w) = Unit {0}
Real (string w) = Unit {0}
Real (bits w) = Unit {0}
Real (sign w) = Unit {0}
Real nothing = ⊥
Real wrong = ⊥

pub record Lies (s : List ℕ) (e : ℕ) (t : Lexeme) : Type 0 where
  pub low : e ≤ t.from
  pub order : t.from ≤ t.to
  pub high : t.to ≤ length s
  pub some : Real t.token → t.from < t.to

no_token : (s : List ℕ) (e p : ℕ) (t : Token) → (Real t → ⊥) → e ≤ p → p ≤ length s → Lies s e (lexeme t p p)
no_token s e p t n h k = record { low = h; order = omega arith; high = k; some = λ x. absurd (n x) }

a_token_lem : (s : List ℕ) (e p q : ℕ) (t : Token) → e ≤ p → Past s p q → Lies s e (lexeme t p q)
a_token_lem s e p q t h k = record { low = h; order = omega arith; high = omega arith; some = λ _. k.above }

pair_none : (b : ℕ) → is_pair (b ∷ 0 ∷ []) ≡ false
unfolding is_pair
pair_none b = simp and-false

pair_below : (s : List ℕ) (p : ℕ) → is_pair (part 2 p s) ≡ true → suc p < length s
pair_below s p e = below s (suc p) (λ b. is_pair (get_or s p 0 ∷ b ∷ [])) (pair_none (get_or s p 0)) e

module _ (s : List ℕ) (e p : ℕ) (h : e ≤ p) (k : p < length s) where
  constant_lies : (x : Quoted) → QuotedIn (p + 1) (p + 1 + length (drop (p + 1) s)) x → Lies s e (constant_at mixed s p x)
  unfolding constant_at capital is_small
  constant_lies unquoted z = no_token s e p wrong (λ x. x) h (omega arith)
  constant_lies (quoted bs q) z =
      let y : Past s p q = record { above = omega arith; within = omega (arith, z.0, z.1, length-drop (p + 1) s) } in
      cond_has (Lies s e) (all is_bit bs && eqb (capital mixed (get_or s q 0)) (code "B")) _ _
      (λ t. a_token_lem s e p (q + 1) (bits bs) h (omega (arith, below s q (λ b. all is_bit bs && eqb (capital mixed b) (code "B")) (and-false (all is_bit bs)) t, y))) λ _.
      a_token_lem s e p q (string bs) h y

  sign_lies : Lies s e (sign_at s p)
  unfolding sign_at
  sign_lies =
      cond_has (Lies s e) (is_pair (part 2 p s)) _ _ (λ t. a_token_lem s e p (p + 2) _ h (omega (arith, pair_below s p t))) λ _.
      a_token_lem s e p (p + 1) _ h (omega arith)

  token_lies : Lies s e (lexeme_of mixed (class_of mixed (get_or s p 0)) s p)
  unfolding lexeme_of run_at
  token_lies =
      let none : Lies s e (lexeme wrong p p) = no_token s e p wrong (λ x. x) h (omega arith) in
      class_has (get_or s p 0) (λ c. Lies s e (lexeme_of mixed c s p))
      (λ t. a_token_lem s e p _ _ h (run_past (is_alphameric mixed) s p k (letter_alphameric (get_or s p 0) t)))
      (λ t. a_token_lem s e p _ _ h (run_past is_digit s p k t))
      none none none sign_lies
      (constant_lies (quoted_at (drop (p + 1) s) [] (p + 1)) (quoted_in (drop (p + 1) s) [] (p + 1)))
      sign_lies none

lexeme_lies : (s : List ℕ) (e : ℕ) (x : Spaces) → SpacesIn e (length s) x → Lies s e (lexeme_at mixed s e x)
unfolding lexeme_at
lexeme_lies s e (open_comment p) h = no_token s e p wrong (λ x. x) h.0 h.1
lexeme_lies s e (up_to p) h =
    when_has (Lies s e) (leb (length s) p) _ _ (λ _. no_token s e p nothing (λ x. x) h.0 h.1) λ t.
    when_has (Lies s e) (eqb e p && is_touching mixed s p) _ _ (λ _. no_token s e p wrong (λ x. x) h.0 h.1) λ _.
    token_lies s e p h.0 (leb-false (length s) p t)

pub token_at_lies : (s : List ℕ) (e : ℕ) → e ≤ length s → Lies s e (token_at mixed s e)
unfolding token_at
token_at_lies s e h = lexeme_lies s e (spaces (length s) s e) (spaces_in (length s) s e h)

-- ---- what is read, if anything is, has a property
pub data Reads {A : Type 0} (P : A → Type 0) : Reading A → Type 0 where
  reads : {a : A} → P a → Reads P (read a)
  refuses : {w : Why} {p : ℕ} → Reads P (refused w p)

then_reads : {A B : Type 0} {P : A → Type 0} {Q : B → Type 0} {r : Reading A} (f : A → Reading B) → Reads P r → ((a : A) → P a → Reads Q (f a)) → Reads Q (then r f)
then_reads f (reads {a} h) k = k a h
then_reads f refuses k = refuses

read_has : {A : Type 0} {P : A → Type 0} {a : A} → Reads P (read a) → P a
read_has (reads h) = h

pub reads_it : {A : Type 0} {P : A → Type 0} {r : Reading A} {a : A} → Reads P r → r ≡ read a → P a
reads_it h e = read_has (rw e at h)

sign_real : (w : String) (t : Token) → is_sign w t ≡ true → Real t
sign_real w (word x) e = tt
sign_real w (integer x) e = tt
sign_real w (string x) e = tt
sign_real w (bits x) e = tt
sign_real w (sign x) e = tt
sign_real w nothing e = absurd (false≢true e)
sign_real w wrong e = absurd (false≢true e)

word_real : (w : String) (t : Token) → is_word w t ≡ true → Real t
word_real w (word x) e = tt
word_real w (integer x) e = tt
word_real w (string x) e = tt
word_real w (bits x) e = tt
word_real w (sign x) e = tt
word_real w nothing e = absurd (false≢true e)
word_real w wrong e = absurd (false≢true e)

-- a name is a word, and ends where it does
pub name_has : (P : Named → Type 0) (t : Token) (from to : ℕ) → (Real t → (w : List ℕ) → P (record { spelling = w; place = from; to = to })) → Reads P (name_of t from to)
name_has P (word w) from to h = cond_has (Reads P) (leb (length w) name_length) _ _ (λ _. reads (h tt w)) λ _. refuses
name_has P (integer w) from to h = refuses
name_has P (string w) from to h = refuses
name_has P (bits w) from to h = refuses
name_has P (sign w) from to h = refuses
name_has P nothing from to h = refuses
name_has P wrong from to h = refuses

module _ (s : List ℕ) where
  real_past : (at : ℕ) → at ≤ length s → Real (token_at mixed s at).token → Past s at (token_at mixed s at).to
  real_past at h r = let t : Lies s at (token_at mixed s at) = token_at_lies s at h in omega (arith, t, t.some r)

  pub expect_sign_past : (w : String) (at : ℕ) → at ≤ length s → Reads (Past s at) (expect_sign mixed w s at)
  unfolding expect_sign
  expect_sign_past w at h = cond_has (Reads (Past s at)) (is_sign w (token_at mixed s at).token) _ _ (λ e. reads (real_past at h (sign_real w (token_at mixed s at).token e))) λ _. refuses

  pub expect_word_past : (w : String) (at : ℕ) → at ≤ length s → Reads (Past s at) (expect_word mixed w s at)
  unfolding expect_word
  expect_word_past w at h = cond_has (Reads (Past s at)) (is_word w (token_at mixed s at).token) _ _ (λ e. reads (real_past at h (word_real w (token_at mixed s at).token e))) λ _. refuses

  pub name_at_past : (at : ℕ) → at ≤ length s → Reads (λ (n : Named). Past s at n.to) (name_at mixed s at)
  unfolding name_at
  name_at_past at h = name_has (λ n. Past s at n.to) (token_at mixed s at).token (token_at mixed s at).from (token_at mixed s at).to λ r w. real_past at h r

  -- ---- expressions, where what is inside parentheses ends so
  abbrev pub Ends : ℕ → Reading Parsed → Type 0
  Ends at r = Reads (λ (x : Parsed). Past s at x.to) r

  abbrev pub Ended : Reader → Type 0
  Ended rd = (at : ℕ) → at ≤ length s → Ends at (rd at)

  ends_from : (low at : ℕ) {r : Reading Parsed} → low ≤ at → Ends at r → Ends low r
  ends_from low at h (reads {a} k) = let z : Past s low a.to = omega arith in reads z
  ends_from low at h refuses = refuses

  pub arguments_end : (inside : Reader) → Ended inside → (f : ℕ) → Ended (arguments mixed inside s f)
  unfolding arguments
  arguments_end inside h zero at k = refuses
  arguments_end inside h (suc f) at k =
      then_reads _ (h at k) λ a e.
      let t : Lies s a.to (token_at mixed s a.to) = token_at_lies s a.to e.within in
      when_has (Ends at) (is_sign "," (token_at mixed s a.to).token) _ _
      (λ _. then_reads _ (arguments_end inside h f (token_at mixed s a.to).to t.high) λ r g. reads (omega arith))
      λ _. then_reads _ (expect_sign_past ")" a.to e.within) λ q g. reads (omega arith)

  module _ (inside : ℕ → Reader) (h : (p : ℕ) → Ended (inside p)) where
    reference_end : (at : ℕ) (n : Named) (u : Lexeme) → Past s at n.to → n.to ≤ u.to → u.to ≤ length s → Ends at (reference_at mixed inside s n u)
    unfolding reference_at
    reference_end at n u k l m =
        when_has (Ends at) (is_sign "(" u.token) _ _
        (λ _. then_reads _ (arguments_end (inside u.from) (h u.from) (length s) u.to m) λ r g. reads (omega arith))
        λ _. reads k

    pub primitive_end : (at : ℕ) (t : Token) (from to : ℕ) → (Real t → Past s at to) → Ends at (primitive mixed inside s t from to)
    unfolding primitive
    primitive_end at (word w) from to k = then_reads _ (name_has (λ n. n.to ≡ to) (word w) from to λ _ _. refl) λ n e.
        let t : Lies s to (token_at mixed s to) = token_at_lies s to (k tt).within in
        reference_end at n (token_at mixed s to) (rw e (k tt)) (omega (arith, t)) t.high
    primitive_end at (integer w) from to k = reads (k tt)
    primitive_end at (string w) from to k = reads (k tt)
    primitive_end at (bits w) from to k = reads (k tt)
    primitive_end at (sign w) from to k =
        when_has (Ends at) (is_sign "(" (sign w)) _ _
        (λ _. then_reads _ (h from to (k tt).within) λ r e. then_reads _ (expect_sign_past ")" r.to e.within) λ q g. reads (omega (arith, k tt, e, g)))
        λ _. refuses
    primitive_end at nothing from to k = refuses
    primitive_end at wrong from to k = refuses

    prefixed_end : (at : ℕ) (o : Maybe Prefix) (again first : Unit {0} → Reading Parsed) → Ends at (again tt) → Ends at (first tt) → Ends at (prefixed o again first)
    prefixed_end at (is o) again first k l = then_reads _ k λ r e. reads e
    prefixed_end at no_operator again first k l = l

    pub operand_end : (f : ℕ) → Ended (operand mixed inside s f)
    unfolding operand
    operand_end zero at k = refuses
    operand_end (suc f) at k =
        let t : Lies s at (token_at mixed s at) = token_at_lies s at k in
        prefixed_end at (prefix_of (token_at mixed s at).token) _ _
        (ends_from at (token_at mixed s at).to (omega (arith, t)) (operand_end f (token_at mixed s at).to t.high))
        (primitive_end at (token_at mixed s at).token (token_at mixed s at).from (token_at mixed s at).to (real_past at k))

  chained_end : (low : ℕ) (o : Maybe Operator) (go : Operator → Reading Parsed) (stop : Reading Parsed) → ((o : Operator) → Ends low (go o)) → Ends low stop → Ends low (chained o go stop)
  chained_end low (is o) go stop h k = h o
  chained_end low no_operator go stop h k = k

  pub chain_end : (l : ℕ) (next : Reader) → Ended next → (f : ℕ) (t : Tree) (low at : ℕ) → Past s low at → Ends low (chain mixed l next s f t at)
  unfolding chain
  chain_end l next h zero t low at k = refuses
  chain_end l next h (suc f) t low at k =
      let u : Lies s at (token_at mixed s at) = token_at_lies s at k.within in
      chained_end low (infix_of l (token_at mixed s at).token) _ _
      (λ o. then_reads _ (h (token_at mixed s at).to u.high) λ r e. chain_end l next h f (binary o t r.tree) low r.to (omega (arith, k, u, e)))
      (reads k)

  pub levels_end : (inner : Reader) → Ended inner → (l : ℕ) → Ended (levels mixed inner s l)
  unfolding levels
  levels_end inner h zero at k = h at k
  levels_end inner h (suc l) at k =
      then_reads _ (levels_end inner h l at k) λ r e. chain_end l (levels mixed inner s l) (levels_end inner h l) (suc (length s)) r.tree at r.to e

  pub expression_end : (d : ℕ) → Ended (expression mixed d s)
  unfolding expression
  expression_end zero at k = levels_end _ (operand_end (λ p q. refused over_limit p) (λ p q _. refuses) (suc (length s))) 6 at k
  expression_end (suc d) at k = levels_end _ (operand_end (λ p q. expression mixed d s q) (λ p. expression_end d) (suc (length s))) 6 at k

-- THE EXPRESSION at a place ends past it and within the source
pub whole_expression_past : (s : List ℕ) (at : ℕ) (r : Parsed) → whole_expression mixed s at ≡ read r → at ≤ length s → (at < r.to) × (r.to ≤ length s)
whole_expression_past s at r e h = let p : Past s at r.to = reads_it (expression_end s open_parentheses at h) e in (p.above, p.within)
