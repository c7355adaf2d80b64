-- The last of the list.
use Rattle.openings.proofs.Stacked.{top_there, top_none}
use Rattle.openings.proofs.top.Goals as goal

pub returns-then-n-gt0 : goal.returns-then-n-gt0
returns-then-n-gt0 c = search top_there

pub returns : goal.returns
returns c = search top_none
