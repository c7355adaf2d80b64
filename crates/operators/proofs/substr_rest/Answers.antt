-- The cut, and what it takes.
use Rattle.operators.proofs.Pieces.{rest_took}
use Rattle.operators.proofs.substr_rest.Goals as goal

pub returns : goal.returns
returns c = search rest_took
