-- What answers of the code are, as the library has them.
use Rattle.std.specs.Prelude.{ℕ, Result}
use Rattle.definition.specs.declared.Why.{Why}
use Rattle.meter.specs.declared.Meter.{Meter}
use Rattle.operators.specs.declared.Value.{Value}

abbrev pub Evaluated : Type 0
Evaluated = Result (Value × ℕ × Meter) (Why × Meter)
