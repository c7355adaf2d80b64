-- What answers of the code are, as the library has them.
use Rattle.std.specs.Prelude.{ℕ, Option, Result}
use Rattle.definition.specs.declared.Why.{Why}
use Rattle.meter.specs.declared.Meter.{Meter}

abbrev pub Listing : Type 0
Listing = Option (ℕ × ℕ × ℕ)

abbrev pub Scanned : Type 0
Scanned = Result (ℕ × Meter) (Why × Meter)

abbrev pub Replaced : Type 0
Replaced = Result (ℕ × ℕ × Meter) (Why × Meter)
