-- Signed numbers for crates that know none: equality, and the form that a room of unsigned numbers holds.
use Rattle.std.specs.Prelude.{ℕ, ◌≤◌, ◌≡◌, Bool, false, cond, eqb, ℤ, pos, negsuc, nat_abs, ◌+ℤ◌, ◌-ℤ◌}
use Rattle.definition.specs.Fixed.{Result, in_range, ranged}

abbrev pub eq_z : ℤ → ℤ → Bool
eq_z (pos a) (pos b) = eqb a b
eq_z (pos a) (negsuc b) = false
eq_z (negsuc a) (pos b) = false
eq_z (negsuc a) (negsuc b) = eqb a b

-- what is stored for 0
abbrev pub stored_zero : ℤ
stored_zero = pos 100000

-- 1 to 199,999 for -99,999 to 99,999; 0 for a number out of range
unfoldable pub stored_of : ℤ → ℕ
stored_of z = cond (in_range z) (nat_abs (z +ℤ stored_zero)) 0

unfoldable pub from_stored : ℕ → Result
from_stored n = ranged (pos n -ℤ stored_zero)

-- a number whose magnitude 32 bits with a sign hold
abbrev pub Narrow : ℤ → Type 0
Narrow z = nat_abs z ≤ 2147483648

-- r is z, which is narrow
pub record Widened (z r : ℤ) : Type 0 where
  pub same : r ≡ z
  pub small : Narrow z
