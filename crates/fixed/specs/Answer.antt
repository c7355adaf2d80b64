-- What an answer of the code stands for in the definition, and the refusal that an error is.
use Rattle.fixed.specs.declared.FixedError.TheVariants.{OutOfRange, ZeroDivisor}
use Rattle.std.specs.Prelude.{Result, Ok, Err}
use Rattle.fixed.specs.declared.FixedError.{FixedError}
use Rattle.fixed.specs.declared.Fixed.{Fixed}
use Rattle.definition.specs.Fixed as F
use Rattle.definition.specs.declared.Why.{Why}
use Rattle.definition.specs.declared.Why.TheVariants as W
use Rattle.definition.specs.Fixed.{is, out_of_range, zero_divisor}

abbrev pub result_of : Result Fixed FixedError → F.Result
result_of (Ok x) = is x.value
result_of (Err OutOfRange) = out_of_range
result_of (Err ZeroDivisor) = zero_divisor

abbrev pub why_of : FixedError → Why
why_of OutOfRange = W.OutOfRange
why_of ZeroDivisor = W.ZeroDivisor
