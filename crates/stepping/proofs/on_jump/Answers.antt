-- To a label here, out of the member, or a refusal.
use Rattle.stepping.proofs.Leading.{jump_here, jump_away_lem, jump_bad}
use Rattle.std.proofs.Common.{Ok, ap, ◌∙◌}
use Rattle.stepping.proofs.on_jump.Goals as goal

pub returns-in-Ok-Here : goal.returns-in-Ok-Here
returns-in-Ok-Here c = jump_here _ _ _ _ _ _ _ (c.in-Ok-Here.is ∙ ap Ok (rw c.in-Ok-Here.is at c.in-Ok-Here.field-0-is)) _ c.landing.ensures _ c.with_step.ensures

pub returns-in-Ok-Away : goal.returns-in-Ok-Away
returns-in-Ok-Away c = jump_away_lem _ _ _ _ _ _ _ (c.in-Ok-Away.is ∙ ap Ok (rw c.in-Ok-Away.is at c.in-Ok-Away.field-0-is)) _ c.with_step-in-Ok-Away.ensures

pub returns-in-Err : goal.returns-in-Err
returns-in-Err c = search jump_bad
