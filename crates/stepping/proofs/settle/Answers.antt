-- By the step.
use Rattle.stepping.proofs.Settling.{settle_next, settle_refused, settle_went, settle_bad}
use Rattle.std.proofs.Common.{Ok, ap, ◌∙◌}
use Rattle.stepping.proofs.settle.Goals as goal

pub returns-in-Ok : goal.returns-in-Ok
returns-in-Ok c = settle_next _ _ _ _ _ _ _ _ _ _ _ _ _ _ _ (c.in-Ok-On.is ∙ ap Ok (rw c.in-Ok-On.is at c.in-Ok-On.field-0-is)) _ c.part_here.ensures _ _ _ _ _ _ _ c.follow-o.ensures _ _ c.in-Ok.is c.follow-o.auto.cells

pub returns-in-Err-o : goal.returns-in-Err-o
returns-in-Err-o c = settle_refused _ _ _ _ _ _ _ _ _ _ _ _ _ _ _ (c.in-Ok-On.is ∙ ap Ok (rw c.in-Ok-On.is at c.in-Ok-On.field-0-is)) _ c.part_here.ensures _ _ _ _ _ _ _ c.follow-o.ensures _ _ c.in-Err-o.is

pub returns-in-Ok-Went : goal.returns-in-Ok-Went
returns-in-Ok-Went c = settle_went _ _ _ _ _ _ _ _ _ _ _ _ _ _ _ (c.in-Ok-Went.is ∙ ap Ok (rw c.in-Ok-Went.is at c.in-Ok-Went.field-0-is))

pub returns-in-Err : goal.returns-in-Err
returns-in-Err c = settle_bad _ _ _ _ _ _ _ _ _ _ _ _ _ _ _ c.in-Err.is
