-- One more, if there is room.
use Rattle.openings.proofs.Stacked.{as_long, pushes, pushes_none}
use Rattle.openings.proofs.push.Goals as goal

pub returns-then-n-lt20 : goal.returns-then-n-lt20
returns-then-n-lt20 c = search (pushes, as_long)

pub returns : goal.returns
returns c = search pushes_none
