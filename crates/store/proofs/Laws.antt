-- One law for each way out of a function on values; what is stored is read back.
-- Assumes nothing.
use Rattle.fixed.specs.declared.FixedError.TheVariants.{OutOfRange, ZeroDivisor}
use Rattle.fixed.specs.declared.FixedError.{FixedError}
use Rattle.std.proofs.Common.{Option, Some, None, Result, Ok, Err}
use Rattle.std.specs.Result.{result_ok}
use Rattle.std.specs.Option.{SomeIff}
use mathlib.Core.Path.{◌≡◌, refl, sym, ◌∙◌}
use mathlib.Core.Bool.{true}
use mathlib.Core.List.{List, [], ◌∷◌}
use Prim.Native.Nat.{ℕ, zero, suc, ◌+◌, ◌-◌, ◌<◌, ◌≤◌}
use native.Mathlib.Nat.{add-zero}
use native.Mathlib.Omega.{arith}
use borrow.Author.Tests.{lt-ltb, le-ltb}
use lib.ListN.{length, get_or}
use Rattle.definition.specs.Lists.{part}
use Rattle.definition.specs.Room.{over}
use Rattle.definition.specs.Fixed as F
use Rattle.definition.specs.Values.{fixed}
use Rattle.definition.specs.World as W
use Rattle.definition.specs.declared.ValueType.TheVariants.{FixedType}
use Rattle.definition.proofs.Parts.{length_part}
use Rattle.definition.proofs.Rooms.{get_d_over_at}
use Rattle.fixed.specs.declared.Fixed.{Fixed}
use Rattle.fixed.specs.Answer.{result_of}
use Rattle.fixed.specs.Signed.{stored_of, from_stored}
use Rattle.fixed.proofs.Magnitude.{stored_back}
use Rattle.store.specs.Cells.{slot, half, fixed_cell, character_cell, cell_in, number_cell, length_cell, LengthAt, Stored}

-- ---- FIXED: the stored number tells the value
cell_of : (r : Result Fixed FixedError) → number_cell (result_ok r) ≡ fixed_cell (result_of r)
cell_of (Ok x) = refl
cell_of (Err OutOfRange) = refl
cell_of (Err ZeroDivisor) = refl

pub number_is : (c : List ℕ) (a k n : ℕ) (r : Result Fixed FixedError) (o : Option Fixed) → k ≡ a → n ≡ get_or c (k + 0) 0 → result_of r ≡ from_stored n → o ≡ result_ok r
    → number_cell o ≡ cell_in c [] [] FixedType a
unfolding cell_in
number_is c a k n r o h e f g = rw (g, cell_of, f, e, h, add-zero)

-- ---- CHARACTER: one more than the length, or 0
module _ (c : List ℕ) (a k n : ℕ) (h : k ≡ a) (e : n ≡ get_or c (k + 0) 0) where
  cell : get_or c a 0 ≡ n
  cell = sym (rw (add-zero, h) at e)

  pub length_is : (r : Option ℕ) → SomeIff r (1 ≤ n) (n - 1) → LengthAt c a r
  unfolding cell_in
  length_is r z = record { is = λ low high. rw cell (by n r z (slot a) (half a low high)) }
    where
      by : (m : ℕ) (r : Option ℕ) → SomeIff r (1 ≤ m) (m - 1) → (at : ℕ) (l : List ℕ) → length_cell r at l ≡ character_cell m at l
      by zero None z at l = refl
      by zero (Some k) z at l = absurd (omega (arith, z.0))
      by (suc m) None z at l = absurd (z (omega arith))
      by (suc m) (Some k) z at l = let d : k ≡ m = omega (arith, z.1) in rw d

-- ---- low or high
module _ (low high : List ℕ) (a : ℕ) where
  pub low_half : a < 128 → low ≡ half a low high
  low_half h = rw (lt-ltb a 128 h)

  pub high_half : 128 ≤ a → high ≡ half a low high
  high_half h = rw (le-ltb a 128 h)

module _ (c low high c' : List ℕ) (a k p n m : ℕ) (s : List ℕ) (at : ℕ) (h : k ≡ a) (g : m ≡ n) (cell : c' ≡ over c (k + 0) ((m + 1) ∷ [])) (e : p ≡ slot a) where
  in_cell : c' ≡ over c a ((length (part n at s) + 1) ∷ [])
  in_cell = cell ∙ rw (add-zero, length_part, h, g)

  pub stored_low : (low' : List ℕ) (q : ℕ) → q ≡ n → a < 128 → low' ≡ over low p (part q at s) → Stored c low high a (part n at s) c' low' high
  stored_low low' q d l f = record { cell = in_cell; low = f ∙ rw (e, d, lt-ltb a 128 l); high = rw (lt-ltb a 128 l) }

  pub stored_high : (high' : List ℕ) (q : ℕ) → q ≡ n → 128 ≤ a → high' ≡ over high p (part q at s) → Stored c low high a (part n at s) c' low high'
  stored_high high' q d l f = record { cell = in_cell; low = rw (le-ltb a 128 l); high = f ∙ rw (e, d, le-ltb a 128 l) }

-- ---- what is stored is read back
pub number_back : (c : List ℕ) (a : ℕ) (x : Fixed) → F.in_range x.value ≡ true → a < length c
    → cell_in (over c (a + 0) (stored_of x.value ∷ [])) [] [] FixedType a ≡ W.holds (fixed x.value)
unfolding cell_in
number_back c a x h k =
    let g : get_or (over c a (stored_of x.value ∷ [])) (a + 0) 0 ≡ stored_of x.value = get_d_over_at c a 0 (stored_of x.value ∷ []) (omega arith) (omega arith) in
    rw (add-zero, rw add-zero at g, stored_back x.value h)
