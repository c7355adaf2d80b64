-- What answers of the code are, as the library has them.
use Rattle.std.specs.Prelude.{ℕ, Bool, Result}
use Rattle.definition.specs.declared.Why.{Why}
use Rattle.fixed.specs.declared.Fixed.{Fixed}
use Rattle.flow.specs.declared.Frame.{Frame}
use Rattle.meter.specs.declared.Meter.{Meter}

abbrev pub Done : Type 0
Done = Result Meter (Why × Meter)

abbrev pub Tested : Type 0
Tested = Result (Bool × Meter) (Why × Meter)

abbrev pub Bound : Type 0
Bound = Result (Fixed × ℕ × Meter) (Why × Meter)

abbrev pub Widened : Type 0
Widened = Result (Frame × ℕ × Meter) (Why × Meter)

abbrev pub Started : Type 0
Started = Result (Frame × Bool × Meter) (Why × Meter)
