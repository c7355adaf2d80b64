-- By what the table has.
use Rattle.outcomes.proofs.Naming.{name_known, name_unknown}
use Rattle.outcomes.proofs.active_name.Goals as goal

pub returns : goal.returns
returns c = name_known _ _ _ _ _ c.find.ensures _ _ _ c.in_ok-a.was c.name_at.ensures c.active_as.ensures

pub returns-in_err-a : goal.returns-in_err-a
returns-in_err-a c = rw c.from_residual.ensures (name_unknown _ _ _ _ _ c.find.ensures c.in_err-a.was)
