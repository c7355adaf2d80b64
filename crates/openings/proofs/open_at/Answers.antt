-- There are 20.
use Rattle.openings.proofs.Stacked.{as_long, open_there, open_past}
use Rattle.openings.proofs.open_at.Goals as goal

pub returns-then-i-lt20 : goal.returns-then-i-lt20
returns-then-i-lt20 c = search (open_there, as_long)

pub returns : goal.returns
returns c = search (open_past, as_long)
