-- As the definition opens it.
use Rattle.openings.proofs.Stacked.{opens}
use Rattle.openings.proofs.opening.Goals as goal

pub returns : goal.returns
returns c = search opens
