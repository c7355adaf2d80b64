-- SUBSTR's test, and that it is the definition's.
-- Assumes nothing.
use Rattle.std.proofs.Common.{Option, Some, None}
use mathlib.Core.Path.{◌≡◌, refl, sym, ap, ◌∙◌}
use mathlib.Core.Logic.{inl, inr}
use mathlib.Core.Bool.{Bool, true, false, not, cond}
use mathlib.Core.List.{List, [], ◌∷◌}
use Prim.Native.Nat.{ℕ, zero, suc, ◌+◌, ◌-◌, ◌<◌, ◌≤◌}
use native.Mathlib.Nat.{add-zero, not-suc-le-zero, le_of_suc-le-suc}
use native.Mathlib.Omega.{arith}
use borrow.Author.Tests.{le-leb, lt-leb}
use lib.Dec.{leb}
use lib.IntN.{ℤ, pos, negsuc, nat_abs}
use lib.ListN.{get_or, take, drop}
use lib.Signed.{non_neg}
use Rattle.std.proofs.lemmas.Bool.{cases_lt}
use Rattle.definition.specs.Lists.{part}
use Rattle.definition.specs.declared.Why.TheVariants.{SubstrOutside as substr_outside}
use Rattle.definition.specs.Values.{Value, gives, fails, size_of, as_number, piece, cut_out, start_from, length_from, substr}
use Rattle.values.specs.Substr.{stretch, cut_at, cut_part, cut_rest, piece_for}

-- ---- by places counted from 1
module _ (size : ℕ) where
  pub cut_not : (i n : ℕ) → (0 < i → i - 1 + n ≤ size → ⊥) → None ≡ cut_at size i n
  unfolding cut_at stretch
  cut_not zero n h = refl
  cut_not (suc i) n h = rw (lt-leb (i + n) size (elim (cases_lt size (i + n)) [ inl l ↦ l | inr l ↦ absurd (h (omega arith) (omega arith)) ]))

  pub cut_in : (i n : ℕ) → 0 < i → i - 1 + n ≤ size → Some ((i - 1), n) ≡ cut_at size i n
  unfolding cut_at stretch
  cut_in zero n h l = absurd (omega arith)
  cut_in (suc i) n h l = let e : suc i - 1 ≡ i = omega arith in rw (e, le-leb (i + n) size (omega arith))

-- ---- by numbers
from_below : (size : ℕ) (z w : ℤ) → not (non_neg z) ≡ true → None ≡ cut_part size z w
unfolding cut_part
from_below size (pos i) w e = cc
from_below size (negsuc i) w e = refl

count_below : (size : ℕ) (z w : ℤ) → not (non_neg w) ≡ true → None ≡ cut_part size z w
unfolding cut_part
count_below size (pos i) (pos n) e = cc
count_below size (pos i) (negsuc n) e = refl
count_below size (negsuc i) w e = refl

both_above : (size : ℕ) (z w : ℤ) → not (non_neg z) ≡ false → not (non_neg w) ≡ false → cut_part size z w ≡ cut_at size (nat_abs z) (nat_abs w)
unfolding cut_part
both_above size (pos i) (pos n) e f = refl
both_above size (pos i) (negsuc n) e f = cc
both_above size (negsuc i) w e f = cc

rest_under : (size : ℕ) (z : ℤ) → not (non_neg z) ≡ true → None ≡ cut_rest size z
unfolding cut_rest
rest_under size (pos i) e = cc
rest_under size (negsuc i) e = refl

rest_above : (size : ℕ) (z : ℤ) → not (non_neg z) ≡ false → cut_rest size z ≡ cut_at size (nat_abs z) (size - (nat_abs z - 1))
unfolding cut_rest
rest_above size (pos i) e = refl
rest_above size (negsuc i) e = cc

module _ (size : ℕ) (z : ℤ) (t : Bool) (e : t ≡ not (non_neg z)) where
  pub part_from : (w : ℤ) → t ≡ true → None ≡ cut_part size z w
  part_from w f = from_below size z w (sym e ∙ f)

  pub rest_from : t ≡ true → None ≡ cut_rest size z
  rest_from f = rest_under size z (sym e ∙ f)

  pub rest_is : (i k n : ℕ) (c : Option (ℕ × ℕ)) → t ≡ false → i ≡ nat_abs z → k ≡ i - 1 → n ≡ size - k → c ≡ cut_at size i n → c ≡ cut_rest size z
  rest_is i k n c f p q r g = g ∙ rw (r, q, p) (sym (rest_above size z (sym e ∙ f)))

  module _ (w : ℤ) (u : Bool) (d : u ≡ not (non_neg w)) where
    pub part_count : u ≡ true → None ≡ cut_part size z w
    part_count f = count_below size z w (sym d ∙ f)

    pub part_is : (i n : ℕ) (c : Option (ℕ × ℕ)) → t ≡ false → u ≡ false → i ≡ nat_abs z → n ≡ nat_abs w → c ≡ cut_at size i n → c ≡ cut_part size z w
    part_is i n c f g p q k = k ∙ rw (p, q) (sym (both_above size z w (sym e ∙ f) (sym d ∙ g)))

-- ---- the definition's SUBSTR takes what the cut takes
either : (v : Value) (i n : ℕ) (t : Bool) → cond t (gives (piece v i n)) (fails substr_outside) ≡ piece_for v (cond t (Some (i, n)) None)
either v i n true = refl
either v i n false = refl

taken : (v : Value) (i n : ℕ) → cut_out v i n ≡ piece_for v (stretch (size_of v) i n)
unfolding cut_out stretch
taken v i n = either v i n (leb (i + n) (size_of v))

rest_taken : (s : Value) (z : ℤ) → start_from z (λ j. cut_out s j (size_of s - j)) ≡ piece_for s (cut_rest (size_of s) z)
unfolding cut_rest cut_at
rest_taken s (pos zero) = refl
rest_taken s (pos (suc i)) = let e : suc i - 1 ≡ i = omega arith in taken s i (size_of s - i) ∙ rw e
rest_taken s (negsuc i) = refl

part_taken : (s : Value) (z w : ℤ) → start_from z (λ j. length_from w (cut_out s j)) ≡ piece_for s (cut_part (size_of s) z w)
unfolding cut_part cut_at
part_taken s (pos zero) (pos n) = refl
part_taken s (pos zero) (negsuc n) = refl
part_taken s (pos (suc i)) (pos n) = taken s i n
part_taken s (pos (suc i)) (negsuc n) = refl
part_taken s (negsuc i) w = refl

pub substr_rest : (s i : Value) → substr (s ∷ i ∷ []) ≡ piece_for s (cut_rest (size_of s) (as_number i))
unfolding substr
substr_rest s i = rest_taken s (as_number i)

pub substr_part : (s i n : Value) (vs : List Value) → substr (s ∷ i ∷ n ∷ vs) ≡ piece_for s (cut_part (size_of s) (as_number i) (as_number n))
unfolding substr
substr_part s i n vs = part_taken s (as_number i) (as_number n)

-- a stretch of the bytes at a place is bytes at a place
drop_part : (i n at : ℕ) (s : List ℕ) → drop i (part n at s) ≡ part (n - i) (at + i) s
drop_part zero n at s = let e : n - 0 ≡ n = omega arith in rw (e, add-zero)
drop_part (suc i) zero at s = let e : 0 - suc i ≡ 0 = omega arith in rw e
drop_part (suc i) (suc n) at s =
    let e : suc n - suc i ≡ n - i = omega arith in
    let f : suc at + i ≡ at + suc i = omega arith in
    drop_part i n (suc at) s ∙ rw (e, f)

take_part : (n m at : ℕ) (s : List ℕ) → n ≤ m → take n (part m at s) ≡ part n at s
take_part zero m at s h = refl
take_part (suc n) zero at s h = absurd (not-suc-le-zero h)
take_part (suc n) (suc m) at s h = ap (λ (l : List ℕ). get_or s at 0 ∷ l) (take_part n m (suc at) s (le_of_suc-le-suc h))

pub piece_part : (size i n at : ℕ) (s : List ℕ) → i + n ≤ size → take n (drop i (part size at s)) ≡ part n (at + i) s
piece_part size i n at s h = rw drop_part (take_part n (size - i) (at + i) s (omega arith))
