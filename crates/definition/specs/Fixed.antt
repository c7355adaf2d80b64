-- 01, "Values": "FIXED is a signed whole number from -99,999 to 99,999; every result, conversions too, must lie there.
-- Division cuts towards zero." Table, 9: "FIXED out of range"; 10: "zero divisor".
use Rattle.std.specs.Prelude.{ℕ, Bool, cond, ◌&&◌, eqb, ℤ, neg_ℤ, nat_abs, ◌+ℤ◌, ◌-ℤ◌, ◌*ℤ◌}
use Rattle.std.specs.Int.Signed.{le_z, quot_z}
use Rattle.definition.specs.Limits.{least_fixed, most_fixed}
use Rattle.definition.specs.Refusal as Why
use Rattle.definition.specs.Refusal.{number_of}

-- what arithmetic gives: a number, or why there is none
pub data Result : Type 0 where
  is : ℤ → Result
  out_of_range : Result
  zero_divisor : Result

-- the number in 01's table; 0 where there is no refusal
abbrev pub refusal : Result → ℕ
refusal (is z) = 0
refusal out_of_range = number_of Why.out_of_range
refusal zero_divisor = number_of Why.zero_divisor

unfoldable pub in_range : ℤ → Bool
in_range z = le_z least_fixed z && le_z z most_fixed

-- a result "must lie there"
unfoldable pub ranged : ℤ → Result
ranged z = cond (in_range z) (is z) out_of_range

unfoldable pub sum : ℤ → ℤ → Result
sum x y = ranged (x +ℤ y)

unfoldable pub difference : ℤ → ℤ → Result
difference x y = ranged (x -ℤ y)

unfoldable pub product : ℤ → ℤ → Result
product x y = ranged (x *ℤ y)

unfoldable pub negative : ℤ → Result
negative x = ranged (neg_ℤ x)

-- "Division cuts towards zero": quot_z divides the magnitudes and then sets the sign
unfoldable pub quotient : ℤ → ℤ → Result
quotient x y = cond (eqb (nat_abs y) 0) zero_divisor (ranged (quot_z x y))
