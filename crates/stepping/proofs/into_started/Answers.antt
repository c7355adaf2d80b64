-- By the first test.
use Rattle.stepping.proofs.Grouping.{started_in, started_out, started_bad}
use Rattle.stepping.proofs.into_started.Goals as goal

pub returns-then-begins : goal.returns-then-begins
returns-then-begins c = started_in _ _ _ _ _ _ _ _ _ _ _ _ _ _ _ _ _ _ _ _ c.in-Ok.is _ c.with_meter-h.ensures c.if-begins.true _ c.with_frame-inner.ensures _ _ _ _ _ _ _ c.into.ensures

pub returns-else-begins : goal.returns-else-begins
returns-else-begins c = started_out _ _ _ _ _ _ _ _ _ _ _ _ _ _ _ _ _ _ _ _ c.in-Ok.is _ c.with_meter-h.ensures c.if-begins.false _ c.with_step.ensures

pub returns-in-Err : goal.returns-in-Err
returns-in-Err c = started_bad _ _ _ _ _ _ _ _ _ _ _ _ _ _ _ _ _ _ _ c.in-Err.is _ c.with_meter.ensures _ c.refused.ensures
