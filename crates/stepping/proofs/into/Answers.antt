-- The text, then the first row.
use Rattle.stepping.proofs.Grouping.{into_good, into_bad}
use Rattle.stepping.proofs.into.Goals as goal

pub returns-in-Ok : goal.returns-in-Ok
returns-in-Ok c = into_good _ _ _ _ _ _ _ _ _ _ _ _ _ _ _ _ c.row_at-r.ensures _ _ _ _ _ _ _ c.lead_out-x.ensures _ c.in-Ok.is c.lead_out-x.auto.cells _ c.first_in.ensures _ c.with_step.ensures

pub returns-in-Err : goal.returns-in-Err
returns-in-Err c = into_bad _ _ _ _ _ _ _ _ _ _ _ _ _ _ _ _ c.row_at-r.ensures _ _ _ _ _ _ _ c.lead_out-x.ensures _ _ c.in-Err.is _ c.with_step-in-Err.ensures
