-- One law for each way out of a function on rooms; a loop's invariant is a record.
-- Assumes nothing.
use mathlib.Core.Path.{◌≡◌, refl, sym, ap, ◌∙◌}
use mathlib.Core.Logic.{inl, inr}
use mathlib.Core.Bool.{◌&&◌}
use mathlib.Core.List.{List, [], ◌∷◌, ◌++◌}
use Prim.Native.Nat.{ℕ, zero, suc, ◌+◌, ◌-◌, ◌/◌, ◌%◌, ◌<◌, ◌≤◌}
use native.Mathlib.Nat.{add-zero, sub-zero, div-div-eq-div-mul}
use native.Mathlib.Omega.{arith}
use borrow.Rule.Slice.PartMut.{put_mid}
use lib.Dec.{eqb}
use lib.ListN.{length, get_or, set, take, drop, length-replicate}
use lib.Seq.{drop-cons}
use Rattle.std.specs.List.{list_all, range_with_len}
use Rattle.std.proofs.lemmas.List.{take_more, length-take-le}
use Rattle.std.proofs.lemmas.Bool.{cases_lt}
use Rattle.definition.specs.Lists.{part, bytes, same}
use Rattle.definition.specs.Room.{over, zeros}
use Rattle.definition.proofs.Rooms.{length_over, over_nil, over_next_at, over_past, over_all, set_is_over}
use Rattle.definition.proofs.Parts.{length_part, part_more}

pub put_is : (r r' : List ℕ) (i x : ℕ) → (i < length r → r' ≡ set r i x) → (length r ≤ i → r' ≡ r) → r' ≡ over r i (x ∷ [])
put_is r r' i x p q = elim (cases_lt i (length r)) [ inl h ↦ p h ∙ set_is_over r i x | inr h ↦ q h ∙ sym (over_past r i (x ∷ []) h) ]

-- ---- zeroing from a place on: all that stands there is written over
over_rest : (r : List ℕ) (at : ℕ) (xs : List ℕ) → length xs ≡ length r - at → take at r ++ xs ≡ over r at xs
over_rest r zero xs e = sym (over_all r xs (omega (arith, e)))
over_rest [] (suc at) [] e = refl
over_rest [] (suc at) (x ∷ xs) e = absurd (omega arith)
over_rest (r ∷ rs) (suc at) xs e = ap (λ (t : List ℕ). r ∷ t) (over_rest rs at xs (omega arith))

pub rest_zeroed : (r : List ℕ) (from : ℕ) → take from r ++ zeros (length r - from) ≡ over r from (zeros (length r - from))
rest_zeroed r from = over_rest r from (zeros (length r - from)) (length-replicate (length r - from) 0)

-- ---- copying: the first j bytes are there
pub record Copied (s : List ℕ) (from : ℕ) (r₀ : List ℕ) (at : ℕ) (r : List ℕ) (j : ℕ) : Type 0 where
  pub is : r ≡ over r₀ at (part j from s)
  pub size : length r ≡ length r₀

pub copied_start : (s : List ℕ) (from : ℕ) (r : List ℕ) (at : ℕ) → Copied s from r at r 0
copied_start s from r at = record { is = sym (over_nil r at); size = refl }

module _ (s : List ℕ) (from : ℕ) (r₀ : List ℕ) (at : ℕ) (r : List ℕ) (j : ℕ) (k : Copied s from r₀ at r j) where
  pub copied_more : (r' : List ℕ) (b : ℕ) → b ≡ get_or s (from + j) 0 → r' ≡ over r (at + j) (b ∷ []) → Copied s from r₀ at r' (j + 1)
  copied_more r' b e f =
      let l : length (part j from s) ≡ j = length_part j from s in
      let g : r' ≡ over r₀ at (part (j + 1) from s) =
      f ∙ rw (e, k.is, part_more) (over_next_at r₀ at (at + j) (part j from s) (get_or s (from + j) 0 ∷ []) (omega arith)) in
      record { is = g; size = ap length g ∙ length_over r₀ at (part (j + 1) from s) }

  pub copied_all : (n : ℕ) → j ≤ n → n ≤ j → r ≡ over r₀ at (part n from s)
  copied_all n l h =
      let e : j ≡ n = omega arith in
      k.is ∙ rw e

-- ---- copying in one piece: what lies inside is what was taken from there, and stands between what stays
front_over : (r xs : List ℕ) → length xs ≤ length r → xs ++ drop (length xs) r ≡ over r 0 xs
front_over [] [] h = refl
front_over (r ∷ rs) [] h = refl
front_over [] (x ∷ xs) h = absurd (omega arith)
front_over (r ∷ rs) (x ∷ xs) h = ap (λ (t : List ℕ). x ∷ t) (front_over rs xs (omega arith))

mid_over : (r : List ℕ) (at : ℕ) (xs : List ℕ) → at + length xs ≤ length r → put_mid at (length xs) r xs ≡ over r at xs
mid_over r zero xs h = front_over r xs (omega arith)
mid_over [] (suc at) xs h = absurd (omega arith)
mid_over (r ∷ rs) (suc at) xs h = ap (λ (t : List ℕ). r ∷ t) (mid_over rs at xs (omega arith))

part_is : (n from : ℕ) (s : List ℕ) → from + n ≤ length s → take n (drop from s) ≡ part n from s
part_is zero from s h = refl
part_is (suc n) from s h =
    let e : drop from s ≡ get_or s from 0 ∷ drop (suc from) s = drop-cons s from 0 (omega arith) in
    ap (take (suc n)) e ∙ ap (λ (t : List ℕ). get_or s from 0 ∷ t) (part_is n (suc from) s (omega arith))

pub copied_whole : (s : List ℕ) (from n : ℕ) (r : List ℕ) (at : ℕ) (xs : List ℕ) → xs ≡ take (from + n - from) (drop from s) → from + n ≤ length s → at + n ≤ length r → put_mid at (at + n - at) r xs ≡ over r at (part n from s)
copied_whole s from n r at xs e h k =
    let l : length (part n from s) ≡ n = length_part n from s in
    let f : from + n - from ≡ n = omega arith in
    let g : at + n - at ≡ length (part n from s) = omega arith in
    let x : xs ≡ part n from s = e ∙ rw f (part_is n from s h) in
    rw (x, g) (mid_over r at (part n from s) (omega arith))

-- ---- writing numbers: the first k are there
pub numbers_more : (r r₁ r₂ xs : List ℕ) (at k : ℕ) → r₁ ≡ over r at (take k xs) → k < length xs → r₂ ≡ over r₁ (at + k) (get_or xs k 0 ∷ []) → r₂ ≡ over r at (take (k + 1) xs)
numbers_more r r₁ r₂ xs at k e h f =
    let l : length (take k xs) ≡ k = length-take-le k xs (omega arith) in
    f ∙ rw e (over_next_at r at (at + k) (take k xs) (get_or xs k 0 ∷ []) (omega (arith, l))) ∙ ap (over r at) (sym (take_more xs k 0 h))

-- ---- comparing
same_from : (a b : List ℕ) (i k c n : ℕ) → list_all (λ j. eqb (get_or a (i + j) 0) (get_or b (k + j) 0)) (range_with_len c n) ≡ same (part n (i + c) a) (part n (k + c) b)
same_from a b i k c zero = refl
same_from a b i k c (suc n) =
    let e : i + (c + 1) ≡ suc (i + c) = omega arith in
    let f : k + (c + 1) ≡ suc (k + c) = omega arith in
    ap (λ t. eqb (get_or a (i + c) 0) (get_or b (k + c) 0) && t) (same_from a b i k (c + 1) n ∙ rw (e, f))

pub same_is : (a b : List ℕ) (i k n : ℕ) → list_all (λ j. eqb (get_or a (i + j) 0) (get_or b (k + j) 0)) (range_with_len 0 (n - 0)) ≡ same (part n i a) (part n k b)
same_is a b i k n = rw sub-zero (same_from a b i k 0 n ∙ rw (add-zero, add-zero))

-- ---- the bytes of a number, by the powers that each is divided by
pub bytes4 : (n : ℕ) → n % 256 ∷ n / 256 % 256 ∷ n / 65536 % 256 ∷ n / 16777216 % 256 ∷ [] ≡ bytes 4 n
bytes4 n = rw (div-div-eq-div-mul n 256 256, div-div-eq-div-mul n 65536 256)
