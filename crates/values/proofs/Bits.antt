-- The bit operations, where the bits stand: what is written goes behind what is still to be read.
-- Assumes nothing.
use mathlib.Core.Path.{◌≡◌, refl, sym, ap, ◌∙◌}
use mathlib.Core.Bool.{Bool, true, false, not, cond}
use mathlib.Core.List.{List, [], ◌∷◌}
use Prim.Native.Nat.{ℕ, zero, suc, ◌+◌, ◌<◌, ◌≤◌, max}
use native.Mathlib.Nat.{not-suc-le-zero, le_of_suc-le-suc}
use native.Mathlib.Numerals.{add-one}
use native.Mathlib.Omega.{arith}
use borrow.Author.Tests.{lt-ltb, le-ltb, ltb-true, ltb-false}
use lib.Dec.{ltb, leb-suc-suc}
use lib.ListN.{length, get_or, take, get_or-eq_default}
use lib.Seq.{take-suc, take_all, length-take-le}
use Rattle.definition.specs.Lists.{part}
use Rattle.definition.specs.Room.{over}
use Rattle.definition.specs.Values.{bit_of, is_one, bitwise, inverted}
use Rattle.definition.proofs.Parts.{length_part}
use Rattle.definition.proofs.Rooms.{length_over, over_nil, over_next_at}
use Rattle.values.specs.declared.Logic.{Logic}
use Rattle.values.specs.Bits.{longer, logic_of}
use Rattle.values.specs.Digits.{Wrote}
use Rattle.values.proofs.Bytes.{part_at, part_past}

-- ---- a list goes over a room from its first number to its last
-- from the end of what was written on, the room is as it was
over_keeps : (r : List ℕ) (at : ℕ) (xs : List ℕ) (k : ℕ) → at + length xs ≤ k → get_or (over r at xs) k 0 ≡ get_or r k 0
over_keeps [] at xs k h = refl
over_keeps (r ∷ rs) zero [] k h = refl
over_keeps (r ∷ rs) zero (x ∷ xs) zero h = absurd (omega arith)
over_keeps (r ∷ rs) zero (x ∷ xs) (suc k) h = over_keeps rs zero xs k (omega arith)
over_keeps (r ∷ rs) (suc at) xs zero h = absurd (omega arith)
over_keeps (r ∷ rs) (suc at) xs (suc k) h = over_keeps rs at xs k (omega arith)

pub record Filling (l r₀ : List ℕ) (at : ℕ) (r : List ℕ) (j : ℕ) : Type 0 where
  pub low : j ≤ length l
  pub is : r ≡ over r₀ at (take j l)
  pub size : length r ≡ length r₀

pub filling_start : (l r : List ℕ) (at : ℕ) → Filling l r at r 0
filling_start l r at = record { low = omega arith; is = sym (over_nil r at); size = refl }

module _ (l r₀ : List ℕ) (at : ℕ) (r : List ℕ) (j : ℕ) (c : Filling l r₀ at r j) where
  filling_more : (r' : List ℕ) (x : ℕ) → j < length l → x ≡ get_or l j 0 → r' ≡ over r (at + j) (x ∷ []) → Filling l r₀ at r' (j + 1)
  filling_more r' x h e f =
      let n : length (take j l) ≡ j = length-take-le j l c.low in
      let g : r' ≡ over r₀ at (take (j + 1) l) =
      f ∙ rw (c.is, add-one, take-suc l j 0 h, e) (over_next_at r₀ at (at + j) (take j l) (get_or l j 0 ∷ []) (omega arith)) in
      record { low = omega arith; is = g; size = ap length g ∙ length_over r₀ at (take (j + 1) l) }

  filling_done : length l ≤ j → r ≡ over r₀ at l
  filling_done h = c.is ∙ ap (over r₀ at) (take_all j l h)

  keeps : (k : ℕ) → at + j ≤ k → get_or r k 0 ≡ get_or r₀ k 0
  keeps k h = rw c.is (over_keeps r₀ at (take j l) k (rw (length-take-le j l c.low) h))

-- ---- inverted
pub length_inverted : (xs : List ℕ) → length (inverted xs) ≡ length xs
unfolding inverted
length_inverted [] = refl
length_inverted (x ∷ xs) = ap suc (length_inverted xs)

inverted_at : (xs : List ℕ) (j : ℕ) → j < length xs → get_or (inverted xs) j 0 ≡ bit_of (not (is_one (get_or xs j 0)))
unfolding inverted
inverted_at [] j h = absurd (not-suc-le-zero h)
inverted_at (x ∷ xs) zero h = refl
inverted_at (x ∷ xs) (suc j) h = inverted_at xs j (le_of_suc-le-suc h)

module _ (r₀ : List ℕ) (at n : ℕ) (r : List ℕ) (j : ℕ) (c : Filling (inverted (part n at r₀)) r₀ at r j) where
  size : length (inverted (part n at r₀)) ≡ n
  size = length_inverted (part n at r₀) ∙ length_part n at r₀

  pub inverting_more : (r' : List ℕ) (b x : ℕ) → j < n → b ≡ get_or r (at + j) 0 → x ≡ bit_of (not (is_one b)) → r' ≡ over r (at + j) (x ∷ [])
      → Filling (inverted (part n at r₀)) r₀ at r' (j + 1)
  inverting_more r' b x h e f g =
      let p : b ≡ get_or (part n at r₀) j 0 = e ∙ keeps _ r₀ at r j c (at + j) (omega arith) ∙ sym (part_at n at j 0 r₀ h) in
      let q : j < length (part n at r₀) = rw length_part h in
      let y : x ≡ get_or (inverted (part n at r₀)) j 0 = rw (f, p) (sym (inverted_at (part n at r₀) j q)) in
      filling_more _ r₀ at r j c r' x (omega (arith, size)) y g

  pub inverting_done : n ≤ j → r ≡ over r₀ at (inverted (part n at r₀))
  inverting_done h = filling_done _ r₀ at r j c (omega (arith, size))

-- ---- two strings
longer_is : (n m : ℕ) → max n m ≡ longer n m
unfolding longer
longer_is n m = go (ltb n m) refl
  where
    go : (t : Bool) → ltb n m ≡ t → max n m ≡ cond t m n
    go true e = omega (arith, ltb-true n m e)
    go false e = omega (arith, ltb-false n m e)

longer_suc : (n m : ℕ) → longer (suc n) (suc m) ≡ suc (longer n m)
unfolding longer
longer_suc n m = rw leb-suc-suc (go (ltb n m))
  where
    go : (t : Bool) → cond t (suc m) (suc n) ≡ suc (cond t m n)
    go true = refl
    go false = refl

longer_none : (n : ℕ) → longer n 0 ≡ n
unfolding longer
longer_none n = rw (le-ltb n 0 (omega arith))

none_longer : (n : ℕ) → longer 0 n ≡ n
unfolding longer
none_longer zero = refl
none_longer (suc n) = rw (lt-ltb 0 (suc n) (omega arith))

pub length_bitwise : (f : Bool → Bool → Bool) (xs ys : List ℕ) → length (bitwise f xs ys) ≡ longer (length xs) (length ys)
unfolding bitwise
length_bitwise f [] [] = sym (longer_none 0)
length_bitwise f [] (y ∷ ys) = ap suc (length_bitwise f [] ys ∙ none_longer (length ys)) ∙ sym (none_longer (suc (length ys)))
length_bitwise f (x ∷ xs) [] = ap suc (length_bitwise f xs [] ∙ longer_none (length xs)) ∙ sym (longer_none (suc (length xs)))
length_bitwise f (x ∷ xs) (y ∷ ys) = ap suc (length_bitwise f xs ys) ∙ sym (longer_suc (length xs) (length ys))

bitwise_at : (f : Bool → Bool → Bool) (xs ys : List ℕ) (j : ℕ) → j < length (bitwise f xs ys)
    → get_or (bitwise f xs ys) j 0 ≡ bit_of (f (is_one (get_or xs j 48)) (is_one (get_or ys j 48)))
unfolding bitwise
bitwise_at f [] [] j h = absurd (not-suc-le-zero h)
bitwise_at f [] (y ∷ ys) zero h = refl
bitwise_at f (x ∷ xs) [] zero h = refl
bitwise_at f (x ∷ xs) (y ∷ ys) zero h = refl
bitwise_at f [] (y ∷ ys) (suc j) h = bitwise_at f [] ys j (le_of_suc-le-suc h)
bitwise_at f (x ∷ xs) [] (suc j) h = bitwise_at f xs [] j (le_of_suc-le-suc h)
bitwise_at f (x ∷ xs) (y ∷ ys) (suc j) h = bitwise_at f xs ys j (le_of_suc-le-suc h)

-- what a part has at a place, where the room has there what it had
part_kept : (n p j d : ℕ) (r r₀ : List ℕ) → get_or r (p + j) 0 ≡ get_or r₀ (p + j) 0 → get_or (part n p r) j d ≡ get_or (part n p r₀) j d
part_kept n p j d r r₀ e = go (ltb j n) refl
  where
    go : (t : Bool) → ltb j n ≡ t → get_or (part n p r) j d ≡ get_or (part n p r₀) j d
    go true h = part_at n p j d r (ltb-true j n h) ∙ e ∙ sym (part_at n p j d r₀ (ltb-true j n h))
    go false h = part_past n p j d r (ltb-false j n h) ∙ sym (part_past n p j d r₀ (ltb-false j n h))

abbrev pub both : Logic → List ℕ → ℕ → ℕ → ℕ → List ℕ
both op r at n m = bitwise (logic_of op) (part n at r) (part m (at + n) r)

module _ (op : Logic) (r₀ : List ℕ) (at n m most : ℕ) (r : List ℕ) (j : ℕ) (c : Filling (both op r₀ at n m) r₀ at r j) (l : most ≡ max n m) where
  both_size : most ≡ length (both op r₀ at n m)
  both_size = rw (length_bitwise, length_part, length_part) (l ∙ longer_is n m)

  pub combining_more : (r' : List ℕ) (x y b : ℕ) (v : Bool) → j < most → x ≡ get_or (part n at r) j 48 → y ≡ get_or (part m (at + n) r) j 48
      → v ≡ logic_of op (is_one x) (is_one y) → b ≡ bit_of v → r' ≡ over r (at + j) (b ∷ []) → Filling (both op r₀ at n m) r₀ at r' (j + 1)
  combining_more r' x y b v h p q e f g =
      let i : j < length (both op r₀ at n m) = omega (arith, both_size) in
      let u : x ≡ get_or (part n at r₀) j 48 = p ∙ part_kept n at j 48 r r₀ (keeps _ r₀ at r j c (at + j) (omega arith)) in
      let w : y ≡ get_or (part m (at + n) r₀) j 48 = q ∙ part_kept m (at + n) j 48 r r₀ (keeps _ r₀ at r j c (at + n + j) (omega arith)) in
      let z : b ≡ get_or (both op r₀ at n m) j 0 = rw (f, e, u, w) (sym (bitwise_at (logic_of op) (part n at r₀) (part m (at + n) r₀) j i)) in
      filling_more _ r₀ at r j c r' b i z g

  pub combining_done : most ≤ j → Wrote (both op r₀ at n m) r₀ at r most
  combining_done h = record { size = both_size; is = filling_done _ r₀ at r j c (omega (arith, both_size)) }

-- ---- a byte past two lengths
pub far_past : (s : List ℕ) (at n k : ℕ) → length s ≤ at + n → 0 ≡ get_or s (at + n + k) 0
far_past s at n k h = sym (get_or-eq_default s 0 {n = at + n + k} (omega arith))
