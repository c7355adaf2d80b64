-- The bit operations.
use Rattle.std.specs.Prelude.{ℕ, Bool, cond, ◌&&◌, ◌||◌, ltb}
use Rattle.values.specs.declared.Logic.{Logic}
use Rattle.values.specs.declared.Logic.TheVariants.{And, Or}

unfoldable pub longer : ℕ → ℕ → ℕ
longer n m = cond (ltb n m) m n

abbrev pub logic_of : Logic → Bool → Bool → Bool
logic_of And x y = x && y
logic_of Or x y = x || y
