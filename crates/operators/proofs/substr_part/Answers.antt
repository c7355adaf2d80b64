-- The cut, and what it takes.
use Rattle.operators.proofs.Pieces.{part_took}
use Rattle.operators.proofs.substr_part.Goals as goal

pub returns : goal.returns
returns c = search part_took
