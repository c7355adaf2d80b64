-- The top is another, the rest is not.
use Rattle.openings.proofs.Stacked.{last_there}
use Rattle.openings.proofs.at_last.Goals as goal

pub returns : goal.returns
returns c = search last_there
