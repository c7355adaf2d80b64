-- A name that is known, or one that is not.
use Rattle.entering.proofs.Laws.{declares_known, declares_unknown}
use Rattle.entering.proofs.declare.Goals as goal

pub returns-in-Some : goal.returns-in-Some
returns-in-Some c = search declares_known

pub returns-in-None : goal.returns-in-None
returns-in-None c = search declares_unknown
