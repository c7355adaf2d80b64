-- The first of an empty list.
use Rattle.openings.proofs.Stacked.{first_new}
use Rattle.openings.proofs.first_behind.Goals as goal

pub returns-in-None : goal.returns-in-None
returns-in-None c = search first_new
