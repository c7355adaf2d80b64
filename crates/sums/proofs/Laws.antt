-- Sums that stop at the most: within it, and at it.
-- Assumes nothing.
use mathlib.Core.Path.{◌≡◌, sym}
use mathlib.Core.Logic.{inl, inr}
use Prim.Native.Nat.{ℕ, ◌+◌, ◌<◌, ◌≤◌, min}
use native.Mathlib.Omega.{arith}
use borrow.Author.Tests.{le-leb, lt-leb}
use Rattle.std.proofs.lemmas.Bool.{cases_lt}
use Rattle.sums.specs.Numbers.{greatest, sum_to}

pub sum_in : (most a b : ℕ) → a + b ≤ most → a + b ≡ sum_to most a b
unfolding sum_to
sum_in most a b h = rw (le-leb (a + b) most h)

pub sum_out : (most a b : ℕ) → most < a + b → most ≡ sum_to most a b
unfolding sum_to
sum_out most a b h = rw (lt-leb (a + b) most h)

-- by the smaller of the two
pub sum_is : (most a b r : ℕ) → r ≡ min (a + b) most → r ≡ sum_to most a b
sum_is most a b r e = elim (cases_lt most (a + b)) [ inl h ↦ omega (arith, sum_out most a b h) | inr h ↦ omega (arith, sum_in most a b h) ]

-- places and lengths in rooms stay far below the most
pub sum_fits : (a b : ℕ) → a + b ≤ greatest → sum_to greatest a b ≡ a + b
sum_fits a b h = sym (sum_in greatest a b h)
