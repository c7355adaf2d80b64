use Rattle.std.proofs.Common.{◌∙◌}
use Rattle.stepping.proofs.Walking.{follow_start, follow_arrived, follow_out, follow_bad, follow_more}
use Rattle.stepping.proofs.follow.Goals as goal

pub loop-init : goal.loop-init
loop-init c = follow_start _ _ _ _ _ _ _ _ _ _ _ _ _ _ _

pub shape_of-cells-in-To : goal.shape_of-cells-in-To
shape_of-cells-in-To c = c.loop.invariant.cells

pub shape_of-low-in-To : goal.shape_of-low-in-To
shape_of-low-in-To c = c.loop.invariant.low

pub shape_of-high-in-To : goal.shape_of-high-in-To
shape_of-high-in-To c = c.loop.invariant.high

pub shape_of-work-in-To : goal.shape_of-work-in-To
shape_of-work-in-To c = c.loop.invariant.work

pub shape_of-text-in-To : goal.shape_of-text-in-To
shape_of-text-in-To c = c.loop.invariant.long

pub shape_of-list-in-To : goal.shape_of-list-in-To
shape_of-list-in-To c = c.loop.invariant.list

pub returns-in-To : goal.returns-in-To
returns-in-To c = follow_arrived _ _ _ _ _ _ _ _ _ _ _ _ _ _ _ _ _ _ _ _ _ _ _ _ c.loop.invariant _ c.in-To.is

pub loop-preserved : goal.loop-preserved
loop-preserved c = follow_more _ _ _ _ _ _ _ _ _ _ _ _ _ _ _ _ _ _ _ _ _ _ _ _ c.loop.invariant _ c.in-Up.is _ _ _ _ _ _ _ c.text_behind-r.ensures _ c.in-Ok.is _ c.walk_behind-w.ensures c.text_behind-r.auto.cells c.text_behind-r.auto.low c.text_behind-r.auto.high c.text_behind-r.auto.work c.text_behind-r.auto.text c.text_behind-r.auto.list

pub shape_of-cells-in-Err : goal.shape_of-cells-in-Err
shape_of-cells-in-Err c = c.text_behind-r.auto.cells ∙ c.loop.invariant.cells

pub shape_of-low-in-Err : goal.shape_of-low-in-Err
shape_of-low-in-Err c = c.text_behind-r.auto.low ∙ c.loop.invariant.low

pub shape_of-high-in-Err : goal.shape_of-high-in-Err
shape_of-high-in-Err c = c.text_behind-r.auto.high ∙ c.loop.invariant.high

pub shape_of-work-in-Err : goal.shape_of-work-in-Err
shape_of-work-in-Err c = c.text_behind-r.auto.work ∙ c.loop.invariant.work

pub shape_of-text-in-Err : goal.shape_of-text-in-Err
shape_of-text-in-Err c = c.text_behind-r.auto.text ∙ c.loop.invariant.long

pub shape_of-list-in-Err : goal.shape_of-list-in-Err
shape_of-list-in-Err c = c.text_behind-r.auto.list ∙ c.loop.invariant.list

pub returns-in-Err : goal.returns-in-Err
returns-in-Err c = follow_bad _ _ _ _ _ _ _ _ _ _ _ _ _ _ _ _ _ _ _ _ _ _ _ _ c.loop.invariant _ c.in-Up.is _ _ _ _ _ _ _ c.text_behind-r.ensures _ _ c.in-Err.is

pub shape_of-cells : goal.shape_of-cells
shape_of-cells c = c.loop.invariant.cells

pub shape_of-low : goal.shape_of-low
shape_of-low c = c.loop.invariant.low

pub shape_of-high : goal.shape_of-high
shape_of-high c = c.loop.invariant.high

pub shape_of-work : goal.shape_of-work
shape_of-work c = c.loop.invariant.work

pub shape_of-text : goal.shape_of-text
shape_of-text c = c.loop.invariant.long

pub shape_of-list : goal.shape_of-list
shape_of-list c = c.loop.invariant.list

pub returns : goal.returns
returns c = follow_out _ _ _ _ _ _ _ _ _ _ _ _ _ _ _ _ _ _ _ _ _ _ _ _ c.loop.invariant c.loop-test.false _
