-- Whether a step is left.
use mathlib.Core.Path.{◌∙◌, refl}
use Rattle.texts.proofs.step_here.Goals as goal

pub returns-in-Ok : goal.returns-in-Ok
returns-in-Ok c = (_, c.in-Ok.ensures.is, c.with_meter.ensures)

pub returns-in-Err : goal.returns-in-Err
returns-in-Err c = (_, c.in-Err.ensures.is, c.halted.ensures ∙ rw (c.with_meter-in-Err.ensures, c.in-Err.ensures.why _ _ refl))
