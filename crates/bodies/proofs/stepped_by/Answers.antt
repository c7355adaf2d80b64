-- One law for each way out.
use Rattle.std.proofs.lemmas.Result.{err_from_is_err_and}
use Rattle.bodies.proofs.Stepping.{added_paid, added_due, added_none}
use Rattle.bodies.proofs.stepped_by.Goals as goal

pub returns-in_default : goal.returns-in_default
returns-in_default c = added_none _ _ _ _ _ _ c.summed.ensures c.in_default.not-Ok

pub returns-in_err-k : goal.returns-in_err-k
returns-in_err-k c = let p = err_from_is_err_and c.from_residual.result c.from_residual.ensures.1 in rw (p.1, p.2) (search (added_due, c.in_err-k.ensures))

pub returns : goal.returns
returns c = search (added_paid, c.in_ok-k.ensures)
