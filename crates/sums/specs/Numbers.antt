-- Numbers that stop at the most.
use Rattle.std.specs.Prelude.{ℕ, ◌+◌, cond, leb}

-- the greatest number of 64 bits
abbrev pub greatest : ℕ
greatest = 18446744073709551615

-- a sum that stops at the most
unfoldable pub sum_to : ℕ → ℕ → ℕ → ℕ
sum_to most a b = cond (leb (a + b) most) (a + b) most
