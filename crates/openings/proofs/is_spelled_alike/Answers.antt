-- As many bytes, and the same.
use Rattle.openings.proofs.Labelling.{spelled_so, spelled_not}
use Rattle.openings.proofs.is_spelled_alike.Goals as goal

pub returns-then-width-n : goal.returns-then-width-n
returns-then-width-n c = search spelled_so

pub returns-else-width-n : goal.returns-else-width-n
returns-else-width-n c = search spelled_not
