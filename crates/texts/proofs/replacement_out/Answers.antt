-- By the case.
use Rattle.texts.proofs.Replacing.{replacement_good, replacement_bad}
use Rattle.texts.proofs.replacement_out.Goals as goal

pub returns-in-Ok : goal.returns-in-Ok
returns-in-Ok c = replacement_good _ _ _ _ _ _ _ _ _ _ c.with_meter.ensures _ _ _ c.in-Ok.is c.replaced_out-after.ensures

pub returns-in-Err : goal.returns-in-Err
returns-in-Err c = replacement_bad _ _ _ _ _ _ _ _ _ _ c.with_meter-in-Err.ensures _ _ c.in-Err.is c.halted.ensures
