-- The kind of the one on top.
use Rattle.openings.proofs.Stacked.{kind_there}
use Rattle.openings.proofs.top_kind.Goals as goal

pub returns : goal.returns
returns c = search kind_there
