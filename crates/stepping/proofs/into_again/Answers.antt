-- By the test.
use Rattle.stepping.proofs.Grouping.{again_in_lem, again_out, again_bad}
use Rattle.stepping.proofs.into_again.Goals as goal

pub returns-then-b : goal.returns-then-b
returns-then-b c = again_in_lem _ _ _ _ _ _ _ _ _ _ _ _ _ _ _ _ c.frame_of.ensures _ _ c.stepped-t.ensures c.stepped-t.auto.cells _ _ c.in-Ok.is c.if-b.true _ c.with_meter-h.ensures _ _ _ _ _ _ _ c.into.ensures

pub returns-else-b : goal.returns-else-b
returns-else-b c = again_out _ _ _ _ _ _ _ _ _ _ _ _ _ _ _ _ c.frame_of.ensures _ _ c.stepped-t.ensures c.stepped-t.auto.cells _ _ c.in-Ok.is c.if-b.false _ c.with_meter-h.ensures _ c.with_step.ensures

pub returns-in-Err : goal.returns-in-Err
returns-in-Err c = again_bad _ _ _ _ _ _ _ _ _ _ _ _ _ _ _ _ c.frame_of.ensures _ _ c.stepped-t.ensures c.stepped-t.auto.cells _ _ c.in-Err.is _ c.with_meter.ensures _ c.row_at-r.ensures _ c.refused.ensures
