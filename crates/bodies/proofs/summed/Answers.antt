-- One law for each way out.
use Rattle.bodies.proofs.Stepping.{summed_some, summed_none}
use Rattle.bodies.proofs.summed.Goals as goal

pub returns-in_err-n : goal.returns-in_err-n
returns-in_err-n c = summed_none _ _ _ c.in_err-n.was _

pub returns : goal.returns
returns c = let e = c.in_ok-n.was in search summed_some
