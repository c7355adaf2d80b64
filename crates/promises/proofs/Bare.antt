-- In a text without lower-case letters outside strings and comments the tokens of 01's letters are those of C-15's, at every
-- place that they lead to.
-- Assumes nothing.
use Prim.Native.Nat.{ℕ, zero, suc, ◌+◌, ◌-◌, ◌≤◌, ◌<◌}
use Prim.Native.Char.{code}
use native.Mathlib.Nat.{add-zero}
use native.Mathlib.Numerals.{add-one}
use native.Mathlib.Omega.{arith}
use mathlib.Core.Bool.{Bool, true, false, cond, not, ◌&&◌, and-false, false≢true}
use mathlib.Core.List.{List, [], ◌∷◌, ◌++◌}
use mathlib.Core.Path.{◌≡◌, refl, sym, ap, ◌∙◌}
use lib.Dec.{leb, eqb}
use lib.ListN.{length, get_or, drop, length-drop, drop_of_length-le, get_or-eq_default}
use lib.Seq.{drop-cons}
use borrow.Author.Tests.{leb-true, leb-false, eqb-true, ne_eqb}
use Rattle.definition.specs.declared.Class.{Class}
use Rattle.definition.specs.declared.Class.TheVariants.{Letter, Digit, Break, Blank, LineFeed, Percent, Quote, Mark, Other}
use Rattle.definition.specs.Bytes.{capitals, mixed, is_small, is_letter, capital, folded, is_digit, is_alphameric, is_blank, is_mark, class_of}
use Rattle.definition.specs.Choice.{when}
use Rattle.definition.specs.Lists.{part, all, leading}
use Rattle.definition.specs.Tokens.{Closed, closed_at, never_closed, comment_end, quote_end, is_comment, past_comment, Lexeme, lexeme, nothing, wrong, Spaces, up_to, open_comment, after_comment, is_space, spaces, Quoted, quoted, unquoted, quoted_at, is_bit, constant_at, is_pair, sign_at, run_at, lexeme_of, is_touching, lexeme_at, token_at, Piece, name, plain, unclosed, Cut, cut, closed_cut, piece_of, piece_at, TextEnd, text_on, text_end}
use Rattle.definition.specs.Program.{Stretch}
use Rattle.definition.specs.Reading.{read_member}
use Rattle.definition.proofs.Choices.{when_both, when_by, when_has, cond_has}
use Rattle.definition.proofs.Keeping.{and_left, and_right}
use Rattle.definition.proofs.Folded.{folded_capitals}
use Rattle.definition.proofs.AlikeMembers.{EndsAlike, at_percent, at_end_lem as at_end_of, at_open, SameMember, member_alike}
use Rattle.definition.proofs.Ends.{ClosedPast, comment_past}
use Rattle.promises.specs.LowerCase.{Stand, outside, behind_slash, in_string, in_comment, behind_star, begun, next, is_outside, is_bare_from, is_bare}

-- a place outside strings and comments; of the byte before it something is asked only where one stands at it
pub record Clear (s : List ℕ) (p : ℕ) : Type 0 where
  pub rest : is_bare (drop p s) ≡ true
  pub before : p < length s → is_small mixed (get_or s (p - 1) 0) ≡ false

-- ---- one byte on
pub not_true : (x : Bool) → not x ≡ true → x ≡ false
not_true true h = absurd (false≢true h)
not_true false h = refl

bare_step : (x : Stand) (s : List ℕ) (p : ℕ) → is_bare_from x (drop p s) ≡ true → (not (is_outside x && is_small mixed (get_or s p 0)) ≡ true) × (is_bare_from (next x (get_or s p 0)) (drop (p + 1) s) ≡ true)
unfolding is_bare_from is_small
bare_step x s p h = go (leb (length s) p) refl
  where
    go : (t : Bool) → leb (length s) p ≡ t → (not (is_outside x && is_small mixed (get_or s p 0)) ≡ true) × (is_bare_from (next x (get_or s p 0)) (drop (p + 1) s) ≡ true)
    go true e =
        let k : length s ≤ p = leb-true (length s) p e in
        let l : length s ≤ p + 1 = omega arith in
        (rw (get_or-eq_default s 0 k, and-false (is_outside x)), rw (drop_of_length-le s l))
    go false e =
        let n : Bool = not (is_outside x && is_small mixed (get_or s p 0)) in
        let r : Bool = is_bare_from (next x (get_or s p 0)) (drop (suc p) s) in
        let k : (n && r) ≡ true = rw (drop-cons s p 0 (leb-false (length s) p e)) at h in
        (and_left n r k, rw add-one (and_right n r k))

slash_out : (s : List ℕ) (p : ℕ) → is_bare_from behind_slash (drop p s) ≡ true → eqb (get_or s p 0) (code "*") ≡ false → is_bare (drop p s) ≡ true
unfolding is_bare_from
slash_out s p h n = go (leb (length s) p) refl
  where
    go : (t : Bool) → leb (length s) p ≡ t → is_bare_from outside (drop p s) ≡ true
    go true e = rw (drop_of_length-le s (leb-true (length s) p e))
    go false e =
        let c : drop p s ≡ get_or s p 0 ∷ drop (suc p) s = drop-cons s p 0 (leb-false (length s) p e) in
        let k : (not (is_small mixed (get_or s p 0)) && is_bare_from (cond (eqb (get_or s p 0) (code "*")) in_comment (begun (get_or s p 0))) (drop (suc p) s)) ≡ true = rw c at h in
        rw c (rw n at k)

pub not_small : {s : List ℕ} {p : ℕ} → Clear s p → is_small mixed (get_or s p 0) ≡ false
not_small {s} {p} h = not_true (is_small mixed (get_or s p 0)) (bare_step outside s p h.rest).0

-- the place behind a byte that is no small letter
pub behind : (s : List ℕ) (p : ℕ) → is_small mixed (get_or s p 0) ≡ false → is_bare (drop (p + 1) s) ≡ true → Clear s (p + 1)
behind s p n h = let e : p + 1 - 1 ≡ p = omega arith in record { rest = h; before = λ _. rw e n }

at_end_lem : (s : List ℕ) → Clear s (length s)
unfolding is_bare_from
at_end_lem s = record { rest = rw (drop_of_length-le s {i = length s} (omega arith)); before = λ h. absurd (omega arith) }

pub at_start : (s : List ℕ) → is_bare s ≡ true → Clear s 0
at_start s h = record { rest = h; before = λ _. not_true (is_small mixed (get_or s 0 0)) (bare_step outside s 0 h).0 }

-- a byte that begins neither a string nor a comment
pub one_on : (s : List ℕ) (p : ℕ) → eqb (get_or s p 0) (code "'") ≡ false → is_comment s p ≡ false → Clear s p → Clear s (p + 1)
unfolding is_comment
one_on s p q c h = behind s p (not_small h) (go (eqb (get_or s p 0) (code "/")) (rw q at (bare_step outside s p h.rest).1) c)
  where
    go : (t : Bool) → is_bare_from (cond t behind_slash outside) (drop (p + 1) s) ≡ true → (t && eqb (get_or s (p + 1) 0) (code "*")) ≡ false → is_bare (drop (p + 1) s) ≡ true
    go true k e = slash_out s (p + 1) k e
    go false k e = k

abbrev Plain : ℕ → Type 0
Plain b = (eqb b (code "'") ≡ false) × (eqb b (code "/") ≡ false)

unlike : (test : ℕ → Bool) (c : ℕ) → test c ≡ false → (b : ℕ) → test b ≡ true → eqb b c ≡ false
unlike test c n b e = ne_eqb b c λ z. false≢true (sym n ∙ ap test (sym z) ∙ e)

pub plain_by : (test : ℕ → Bool) → test (code "'") ≡ false → test (code "/") ≡ false → (b : ℕ) → test b ≡ true → Plain b
plain_by test n m b e = (unlike test (code "'") n b e, unlike test (code "/") m b e)

pub plain_on : (s : List ℕ) (p : ℕ) → Plain (get_or s p 0) → Clear s p → Clear s (p + 1)
unfolding is_comment
plain_on s p k h = one_on s p k.0 (rw k.1) h

-- ---- what follows a place
following : (s : List ℕ) (p b : ℕ) (l : List ℕ) → b ∷ l ≡ drop p s → (l ≡ drop (p + 1) s) × (get_or s p 0 ≡ b)
following s p b l e =
    let k : p < length s = omega (arith, ap length e, length-drop p s) in
    let z : b ∷ l ≡ get_or s p 0 ∷ drop (suc p) s = e ∙ drop-cons s p 0 k in
    (rw add-one (cc), cc)

pub run_clear : (test : ℕ → Bool) → ((b : ℕ) → test b ≡ true → Plain b) → (s l : List ℕ) (p : ℕ) → l ≡ drop p s → Clear s p → Clear s (p + length (leading test l))
run_clear test k s [] p e h = rw add-zero h
run_clear test k s (b ∷ l) p e h = go (test b) refl (run_clear test k s l (p + 1) (following s p b l e).0)
  where
    go : (t : Bool) → test b ≡ t → (Clear s (p + 1) → Clear s (p + 1 + length (leading test l))) → Clear s (p + length (cond t (b ∷ leading test l) []))
    go true z i =
        let q : p + suc (length (leading test l)) ≡ p + 1 + length (leading test l) = omega arith in
        rw q (i (plain_on s p (rw (following s p b l e).1 (k b z)) h))
    go false z i = rw add-zero h

-- ---- strings and comments
abbrev ClosedClear : List ℕ → Closed → Type 0
ClosedClear s (closed_at q) = Clear s q
ClosedClear s never_closed = Unit {0}

-- behind a byte that is known
closes : (s : List ℕ) (p b c : ℕ) (l : List ℕ) → b ∷ l ≡ drop p s → eqb b c ≡ true → is_small mixed c ≡ false → is_bare l ≡ true → Clear s (p + 1)
closes s p b c l e z n h =
    let f : (l ≡ drop (p + 1) s) × (get_or s p 0 ≡ b) = following s p b l e in
    behind s p (rw (f.1, eqb-true b c z) n) (rw f.0 at h)

comment_step : (s : List ℕ) (star t : Bool) (b : ℕ) (l : List ℕ) (p : ℕ) → eqb b (code "/") ≡ t → b ∷ l ≡ drop p s → is_bare_from (cond star behind_star in_comment) (b ∷ l) ≡ true → (is_bare_from (cond (eqb b (code "*")) behind_star in_comment) l ≡ true → ClosedClear s (comment_end (eqb b (code "*")) l (p + 1))) → ClosedClear s (when (star && t) (λ _. closed_at (p + 1)) (λ _. comment_end (eqb b (code "*")) l (p + 1)))
unfolding is_bare_from is_small
comment_step s true true b l p z e h k = closes s p b (code "/") l e z refl (rw z at h)
comment_step s true false b l p z e h k = k (rw z at h)
comment_step s false t b l p z e h k = k h

comment_clear : (s : List ℕ) (star : Bool) (l : List ℕ) (p : ℕ) → l ≡ drop p s → is_bare_from (cond star behind_star in_comment) l ≡ true → ClosedClear s (comment_end star l p)
unfolding comment_end
comment_clear s star [] p e h = tt
comment_clear s star (b ∷ l) p e h = comment_step s star (eqb b (code "/")) b l p refl e h (comment_clear s (eqb b (code "*")) l (p + 1) (following s p b l e).0)

pub past_comment_lem : (s : List ℕ) (p : ℕ) → is_comment s p ≡ true → Clear s p → ClosedClear s (past_comment s p)
unfolding is_comment
past_comment_lem s p c h =
    let b : ℕ = get_or s p 0 in
    let e : p + 1 + 1 ≡ p + 2 = omega arith in
    let z : b ≡ 47 = eqb-true b (code "/") (and_left (eqb b (code "/")) _ c) in
    let y : get_or s (p + 1) 0 ≡ 42 = eqb-true (get_or s (p + 1) 0) (code "*") (and_right (eqb b (code "/")) _ c) in
    let k : is_bare_from behind_slash (drop (p + 1) s) ≡ true = rw z at (bare_step outside s p h.rest).1 in
    let i : is_bare_from in_comment (drop (p + 1 + 1) s) ≡ true = rw y at (bare_step behind_slash s (p + 1) k).1 in
    comment_clear s false (drop (p + 2) s) (p + 2) refl (rw e at i)

quote_step : (s : List ℕ) (t : Bool) (b : ℕ) (l : List ℕ) (p : ℕ) → eqb b (code "'") ≡ t → b ∷ l ≡ drop p s → is_bare_from in_string (b ∷ l) ≡ true → (is_bare_from in_string l ≡ true → ClosedClear s (quote_end l (p + 1))) → ClosedClear s (when t (λ _. closed_at (p + 1)) (λ _. quote_end l (p + 1)))
unfolding is_bare_from is_small
quote_step s true b l p z e h k = closes s p b (code "'") l e z refl (rw z at h)
quote_step s false b l p z e h k = k (rw z at h)

quote_clear : (s l : List ℕ) (p : ℕ) → l ≡ drop p s → is_bare_from in_string l ≡ true → ClosedClear s (quote_end l p)
unfolding quote_end
quote_clear s [] p e h = tt
quote_clear s (b ∷ l) p e h = quote_step s (eqb b (code "'")) b l p refl e h (quote_clear s l (p + 1) (following s p b l e).0)

in_string_lem : (s : List ℕ) (p : ℕ) → eqb (get_or s p 0) (code "'") ≡ true → Clear s p → is_bare_from in_string (drop (p + 1) s) ≡ true
in_string_lem s p q h = rw q at (bare_step outside s p h.rest).1

abbrev QuotedClear : List ℕ → Quoted → Type 0
QuotedClear s (quoted bs q) = Clear s q
QuotedClear s unquoted = Unit {0}

quoted_clear : (s l bs : List ℕ) (p : ℕ) → l ≡ drop p s → is_bare_from in_string l ≡ true → QuotedClear s (quoted_at l bs p)
unfolding quoted_at is_bare_from is_small
quoted_clear s [] bs p e h = tt
quoted_clear s (b ∷ []) bs p e h = cond_has (QuotedClear s) (eqb b (code "'")) _ _ (λ z. closes s p b (code "'") [] e z refl refl) λ _. tt
quoted_clear s (b ∷ c ∷ l) bs p e h =
    let f : c ∷ l ≡ drop (p + 1) s = (following s p b (c ∷ l) e).0 in
    let n : p + 1 + 1 ≡ p + 2 = omega arith in
    when_has (QuotedClear s) (eqb b (code "'")) _ _
    (λ z. when_has (QuotedClear s) (eqb c (code "'")) _ _
    (λ y. quoted_clear s l (bs ++ b ∷ []) (p + 2) (rw n at (following s (p + 1) c l f).0) (and_right (not (is_small mixed c)) (is_bare_from in_string l) (rw (z, y) at h)))
    λ _. closes s p b (code "'") (c ∷ l) e z refl (rw z at h))
    λ z. quoted_clear s (c ∷ l) (bs ++ b ∷ []) (p + 1) f (rw z at h)

-- ---- a byte that is no small letter is to 01 what it is to C-15
module _ (b : ℕ) (n : is_small mixed b ≡ false) where
  pub letter_same : is_letter capitals b ≡ is_letter mixed b
  unfolding is_letter is_small
  letter_same = rw n

  pub alphameric_same : is_alphameric capitals b ≡ is_alphameric mixed b
  unfolding is_alphameric
  alphameric_same = rw letter_same

  class_same : class_of capitals b ≡ class_of mixed b
  unfolding class_of
  class_same = rw letter_same

  pub capital_same : capital mixed b ≡ b
  unfolding capital
  capital_same = rw n

capital_none : (b : ℕ) → capital capitals b ≡ b
unfolding capital is_small
capital_none b = refl

alphameric_plain : (b : ℕ) → is_alphameric mixed b ≡ true → Plain b
unfolding is_alphameric is_letter is_digit is_small
alphameric_plain b e = plain_by (is_alphameric mixed) refl refl b e

digit_plain : (b : ℕ) → is_digit b ≡ true → Plain b
unfolding is_digit
digit_plain b e = plain_by is_digit refl refl b e

pub blank_plain : (b : ℕ) → is_blank b ≡ true → Plain b
unfolding is_blank
blank_plain b e = plain_by is_blank refl refl b e

space_plain : (b : ℕ) → is_space b ≡ true → Plain b
unfolding is_space is_blank
space_plain b e = plain_by is_space refl refl b e

mark_plain : (b : ℕ) → is_mark b ≡ false → eqb b (code "/") ≡ false
unfolding is_mark
mark_plain b e = ne_eqb b (code "/") λ z. false≢true (sym (rw z at e))

-- what is so of a class by what its byte begins is so of the class of a byte
class_tells : (b : ℕ) (Q : Class → Type 0) → Q Letter → Q Digit → (eqb b (code "'") ≡ true → Q Quote) → (eqb b (code "'") ≡ false → Q Mark) → (Plain b → Q Break) → (Plain b → Q Blank) → (Plain b → Q LineFeed) → (Plain b → Q Percent) → (Plain b → Q Other) → Q (class_of mixed b)
unfolding class_of
class_tells b Q letter digit quote mark break blank feed percent other =
    cond_has Q (is_letter mixed b) _ _ (λ _. letter) λ _. cond_has Q (is_digit b) _ _ (λ _. digit) λ _.
    cond_has Q (eqb b (code "_")) _ _ (λ e. break (plain_by (λ x. eqb x (code "_")) refl refl b e)) λ _.
    cond_has Q (is_blank b) _ _ (λ e. blank (blank_plain b e)) λ _. cond_has Q (eqb b 10) _ _ (λ e. feed (plain_by (λ x. eqb x 10) refl refl b e)) λ _.
    cond_has Q (eqb b (code "%")) _ _ (λ e. percent (plain_by (λ x. eqb x (code "%")) refl refl b e)) λ _.
    cond_has Q (eqb b (code "'")) _ _ quote λ n. cond_has Q (is_mark b) _ _ (λ _. mark n) λ m. other (n, mark_plain b m)

-- the run of letters, digits and `_` at a place
record SameRun (l : List ℕ) : Type 0 where
  equal : leading (is_alphameric capitals) l ≡ leading (is_alphameric mixed) l
  unfolded : folded mixed (leading (is_alphameric mixed) l) ≡ leading (is_alphameric mixed) l

run_same : (l : List ℕ) → is_bare l ≡ true → SameRun l
unfolding folded is_bare_from
run_same [] h = record { equal = refl; unfolded = refl }
run_same (b ∷ l) h = go (is_alphameric mixed b) refl (run_same l)
  where
    small : is_small mixed b ≡ false
    small = not_true (is_small mixed b) (and_left (not (is_small mixed b)) (is_bare_from (begun b) l) h)

    go : (t : Bool) → is_alphameric mixed b ≡ t → (is_bare l ≡ true → SameRun l) → SameRun (b ∷ l)
    go true e i =
        let k : Plain b = alphameric_plain b e in
        let r : SameRun l = i (and_right (not (is_small mixed b)) (is_bare_from outside l) (rw (k.0, k.1) at h)) in
        record { equal = rw (alphameric_same b small, e) (ap (λ (t : List ℕ). b ∷ t) r.equal); unfolded = rw (e, capital_same b small) (ap (λ (t : List ℕ). b ∷ t) r.unfolded) }
    go false e i = record { equal = rw (alphameric_same b small, e); unfolded = rw e }

-- ---- THE TEXT TOKEN is the same, and leads to such a place
pub data Pieces (s : List ℕ) : Cut → Cut → Type 0 where
  pieces : {c : Cut} → Clear s c.to → Pieces s c c

closed_piece_lem : (s : List ℕ) (c : Closed) → ClosedClear s c → Pieces s (closed_cut s c) (closed_cut s c)
closed_piece_lem s (closed_at q) h = pieces h
closed_piece_lem s never_closed h = pieces (at_end_lem s)

pub piece_same : (s : List ℕ) (p : ℕ) → Clear s p → Pieces s (piece_at mixed s p) (piece_at capitals s p)
unfolding piece_at piece_of
piece_same s p h =
    let b : ℕ = get_or s p 0 in
    let r : SameRun (drop p s) = run_same (drop p s) h.rest in
    let ran : Clear s (p + length (leading (is_alphameric mixed) (drop p s))) = run_clear (is_alphameric mixed) alphameric_plain s (drop p s) p refl h in
    let one : Plain b → Pieces s (cut plain (p + 1)) (cut plain (p + 1)) = λ k. pieces (plain_on s p k h) in
    rw (class_same b (not_small h)) (class_tells b (λ c. Pieces s (piece_of mixed c s p) (piece_of capitals c s p))
    (rw (r.equal, folded_capitals (leading (is_alphameric mixed) (drop p s)), r.unfolded) (pieces ran))
    (rw r.equal (pieces ran))
    (λ q. closed_piece_lem s (quote_end (drop (p + 1) s) (p + 1)) (quote_clear s (drop (p + 1) s) (p + 1) refl (in_string_lem s p q h)))
    (λ q. when_has (λ x. Pieces s x x) (is_comment s p) _ _ (λ c. closed_piece_lem s (past_comment s p) (past_comment_lem s p c h)) λ c. pieces (one_on s p q c h))
    one one one one one)

-- ---- THE STATEMENT TOKEN, too
abbrev SpacesClear : List ℕ → Spaces → Type 0
SpacesClear s (up_to q) = Clear s q × (is_comment s q ≡ false)
SpacesClear s (open_comment q) = Clear s q

no_comment : (s : List ℕ) (p : ℕ) → length s ≤ p → is_comment s p ≡ false
unfolding is_comment
no_comment s p k = rw (get_or-eq_default s 0 k)

after_clear : (s : List ℕ) (p : ℕ) (g : ℕ → Spaces) → Clear s p → ((q : ℕ) → p < q → Clear s q → SpacesClear s (g q)) → (c : Closed) → ClosedClear s c → ClosedPast s (p + 2) c → SpacesClear s (after_comment c p g)
after_clear s p g h k (closed_at q) c z = k q (omega arith) c
after_clear s p g h k never_closed c z = h

spaces_clear : (f : ℕ) (s : List ℕ) (p : ℕ) → length s ≤ p + f → Clear s p → SpacesClear s (spaces f s p)
unfolding spaces
spaces_clear zero s p k h = (h, no_comment s p (omega arith))
spaces_clear (suc f) s p k h =
    when_has (SpacesClear s) (is_space (get_or s p 0)) _ _ (λ e. spaces_clear f s (p + 1) (omega arith) (plain_on s p (space_plain (get_or s p 0) e) h)) λ _.
    when_has (SpacesClear s) (is_comment s p) _ _ (λ c. after_clear s p (spaces f s) h (λ q i. spaces_clear f s q (omega arith)) (past_comment s p) (past_comment_lem s p c h) (comment_past s p)) λ c. (h, c)

pub data Lexemes (s : List ℕ) : Lexeme → Lexeme → Type 0 where
  lexemes : {t : Lexeme} → Clear s t.to → Lexemes s t t

-- `B` behind a string
bit_plain : (b : ℕ) (t : Bool) → (t && eqb b (code "B")) ≡ true → Plain b
bit_plain b t e = plain_by (λ x. eqb x (code "B")) refl refl b (and_right t _ e)

constant_same : (s : List ℕ) (p : ℕ) → Clear s p → (x : Quoted) → QuotedClear s x → Lexemes s (constant_at mixed s p x) (constant_at capitals s p x)
unfolding constant_at
constant_same s p h unquoted k = lexemes h
constant_same s p h (quoted bs q) k =
    rw (capital_same (get_or s q 0) (not_small k), capital_none (get_or s q 0))
    (cond_has (λ x. Lexemes s x x) (all is_bit bs && eqb (get_or s q 0) (code "B")) _ _ (λ e. lexemes (plain_on s q (bit_plain (get_or s q 0) (all is_bit bs) e) k)) λ _. lexemes k)

pair_plain : (b c : ℕ) → is_pair (b ∷ c ∷ []) ≡ true → Plain c
unfolding is_pair
pair_plain b c e = plain_by (λ x. is_pair (b ∷ x ∷ [])) (simp and-false) (simp and-false) c e

sign_same : (s : List ℕ) (p : ℕ) → Clear s (p + 1) → Lexemes s (sign_at s p) (sign_at s p)
unfolding sign_at
sign_same s p h =
    let n : p + 1 + 1 ≡ p + 2 = omega arith in
    cond_has (λ x. Lexemes s x x) (is_pair (part 2 p s)) _ _ (λ e. lexemes (rw n at (plain_on s (p + 1) (rw add-one (pair_plain (get_or s p 0) (get_or s (suc p) 0) e)) h))) λ _. lexemes h

lexeme_of_lem : (s : List ℕ) (p : ℕ) → is_comment s p ≡ false → Clear s p → Lexemes s (lexeme_of mixed (class_of mixed (get_or s p 0)) s p) (lexeme_of capitals (class_of capitals (get_or s p 0)) s p)
unfolding lexeme_of run_at
lexeme_of_lem s p c h =
    let b : ℕ = get_or s p 0 in
    let r : SameRun (drop p s) = run_same (drop p s) h.rest in
    rw (class_same b (not_small h)) (class_tells b (λ x. Lexemes s (lexeme_of mixed x s p) (lexeme_of capitals x s p))
    (rw (r.equal, folded_capitals (leading (is_alphameric mixed) (drop p s)), r.unfolded) (lexemes (run_clear (is_alphameric mixed) alphameric_plain s (drop p s) p refl h)))
    (lexemes (run_clear is_digit digit_plain s (drop p s) p refl h))
    (λ q. constant_same s p h (quoted_at (drop (p + 1) s) [] (p + 1)) (quoted_clear s (drop (p + 1) s) [] (p + 1) refl (in_string_lem s p q h)))
    (λ q. sign_same s p (one_on s p q c h))
    (λ _. lexemes h) (λ _. lexemes h) (λ _. lexemes h) (λ k. sign_same s p (plain_on s p k h)) (λ _. lexemes h))

touching_same : (s : List ℕ) (p : ℕ) → p < length s → Clear s p → is_touching capitals s p ≡ is_touching mixed s p
unfolding is_touching
touching_same s p k h = rw (alphameric_same (get_or s (p - 1) 0) (h.before k), alphameric_same (get_or s p 0) (not_small h))

lexeme_same : (s : List ℕ) (e : ℕ) (x : Spaces) → SpacesClear s x → Lexemes s (lexeme_at mixed s e x) (lexeme_at capitals s e x)
unfolding lexeme_at
lexeme_same s e (open_comment p) h = lexemes h
lexeme_same s e (up_to p) h = go (leb (length s) p) refl
  where
    go : (t : Bool) → leb (length s) p ≡ t → Lexemes s (when t (λ _. lexeme nothing p p) (λ _. when (eqb e p && is_touching mixed s p) (λ _. lexeme wrong p p) (λ _. lexeme_of mixed (class_of mixed (get_or s p 0)) s p))) (when t (λ _. lexeme nothing p p) (λ _. when (eqb e p && is_touching capitals s p) (λ _. lexeme wrong p p) (λ _. lexeme_of capitals (class_of capitals (get_or s p 0)) s p)))
    go true z = lexemes h.0
    go false z = rw (touching_same s p (leb-false (length s) p z) h.0) (when_both (Lexemes s) (eqb e p && is_touching mixed s p) _ _ _ _ (lexemes h.0) (lexeme_of_lem s p h.1 h.0))

token_same : (s : List ℕ) (e : ℕ) → Clear s e → Lexemes s (token_at mixed s e) (token_at capitals s e)
unfolding token_at
token_same s e h = lexeme_same s e (spaces (length s) s e) (spaces_clear (length s) s e (omega arith) h)

-- ---- a text that begins at such a place has no small letter outside strings and comments either
part_bare : (x : Stand) (n at : ℕ) (s : List ℕ) → is_bare_from x (drop at s) ≡ true → is_bare_from x (part n at s) ≡ true
unfolding is_bare_from
part_bare x zero at s h = refl
part_bare x (suc n) at s h = rw (bare_step x s at h).0 (part_bare (next x (get_or s at 0)) n (suc at) s (rw add-one at (bare_step x s at h).1))

abbrev pub BareText : List ℕ → Stretch → Type 0
BareText s x = is_bare (part (x.to - x.from) x.from s) ≡ true

abbrev Ends : List ℕ → ℕ → TextEnd → TextEnd → Type 0
Ends s e x y = EndsAlike (Clear s) (BareText s) s e x y

text_on_lem : (s : List ℕ) (e p : ℕ) {c d : Cut} (f g : ℕ → TextEnd) → Clear s e → Pieces s c d → ((q : ℕ) → Clear s q → Ends s e (f q) (g q)) → Ends s e (text_on c.piece p c.to f) (text_on d.piece p d.to g)
text_on_lem s e p f g h (pieces {c} k) i = go c.piece
  where
    go : (x : Piece) → Ends s e (text_on x p c.to f) (text_on x p c.to g)
    go (name w) = i c.to k
    go plain = i c.to k
    go unclosed = at_open (part_bare outside (p - e) e s h.rest)

text_same : (s : List ℕ) (e f p : ℕ) → Clear s e → Clear s p → Ends s e (text_end mixed f s p) (text_end capitals f s p)
unfolding text_end
text_same s e zero p h k = at_end_of (part_bare outside (length s - e) e s h.rest)
text_same s e (suc f) p h k =
    when_both (Ends s e) (leb (length s) p) _ _ _ _ (at_end_of (part_bare outside (length s - e) e s h.rest))
    (when_by (Ends s e) (eqb (get_or s p 0) (code "%")) _ _ _ _ (λ z. at_percent (plain_on s p (plain_by (λ x. eqb x (code "%")) refl refl (get_or s p 0) z) k) (part_bare outside (p - e) e s h.rest))
    λ _. text_on_lem s e p (text_end mixed f s) (text_end capitals f s) h (piece_same s p k) (λ q i. text_same s e f q h i))

-- ---- THE MEMBER is the same, and none of its texts has a small letter outside strings and comments
tokens : (s : List ℕ) (e : ℕ) → Clear s e → (token_at mixed s e ≡ token_at capitals s e) × Clear s (token_at capitals s e).to
tokens s e h = go (token_same s e h)
  where
    go : {t u : Lexeme} → Lexemes s t u → (t ≡ u) × Clear s u.to
    go (lexemes k) = (refl, k)

pub no_text : (s : List ℕ) → BareText s (record { from = 0; to = 0 })
unfolding is_bare_from
no_text s = refl

pub member_same : (s : List ℕ) → is_bare s ≡ true → SameMember (BareText s) (no_text s) (read_member mixed s) (read_member capitals s)
member_same s h = member_alike mixed capitals s (Clear s) (tokens s) (BareText s) (no_text s) (λ e k. text_same s e (suc (length s)) e k k) (at_start s h)
