-- Only the last row is new.
use Rattle.openings.proofs.Stacked.{lasts}
use Rattle.openings.proofs.with_last.Goals as goal

pub returns : goal.returns
returns c = search lasts
