-- 01, "Running": the meter of steps. Table, 18: "a step due with none left; it is not counted".
use Rattle.std.specs.Prelude.{ℕ, ◌+◌, Bool, cond, ltb}

-- whether a step that is due can be charged, where `used` of `limit` steps are charged already
unfoldable pub is_left : ℕ → ℕ → Bool
is_left limit used = ltb used limit

-- the steps charged after a step was due
unfoldable pub used_after : ℕ → ℕ → ℕ
used_after limit used = cond (is_left limit used) (used + 1) used
