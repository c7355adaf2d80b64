-- What comes of a step that is due at the meter m: r, as the definition's `is_left` and `used_after` say.
use Rattle.std.specs.Prelude.{◌≡◌, Bool, true, false, Result, Ok, Err}
use Rattle.definition.specs.Steps.{is_left, used_after}
use Rattle.definition.specs.declared.Why.{Why}
use Rattle.definition.specs.declared.Why.TheVariants.{NoStep}
use Rattle.meter.specs.declared.Meter.{Meter}

-- whether it was paid, and the meter after it
pub record Charged : Type 0 where
  pub paid : Bool
  pub meter : Meter

pub record Charges (m : Meter) (r : Charged) : Type 0 where
  pub paid : r.paid ≡ is_left m.limit m.used
  pub limit : r.meter.limit ≡ m.limit
  pub used : r.meter.used ≡ used_after m.limit m.used

-- the same by value: the meter after it, or the refusal
abbrev pub charged_for : Result Meter (Why × Meter) → Charged
charged_for (Ok m) = record { paid = true; meter = m }
charged_for (Err (w, m)) = record { paid = false; meter = m }

pub record ChargedAs (m : Meter) (r : Result Meter (Why × Meter)) : Type 0 where
  pub is : Charges m (charged_for r)
  pub why : (w : Why) (k : Meter) → r ≡ Err (w, k) → w ≡ NoStep
