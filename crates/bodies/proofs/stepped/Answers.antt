-- One law for each way out.
use Rattle.bodies.proofs.Stepping.{stepped_nowhere, stepped_some, stepped_none}
use Rattle.bodies.proofs.stepped.Goals as goal

pub returns-in_default : goal.returns-in_default
returns-in_default c = stepped_nowhere _ _ _ c.in_default.not-Some _

pub returns-in-Some-number_at : goal.returns-in-Some-number_at
returns-in-Some-number_at c = search stepped_some

pub returns-in-None : goal.returns-in-None
returns-in-None c = search stepped_none
