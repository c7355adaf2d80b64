-- The place above, and the move.
use Rattle.operators.proofs.Room.{raise_is}
use Rattle.operators.proofs.raise.Goals as goal

pub returns : goal.returns
returns c = search raise_is
