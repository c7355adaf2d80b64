-- A stretch comes down, or there is none.
use Rattle.operators.proofs.Pieces.{took_piece, took_none}
use Rattle.operators.proofs.taken.Goals as goal

pub returns-in_default : goal.returns-in_default
returns-in_default c = search (took_none, c.in_default.not-Some)

pub returns : goal.returns
returns c = search took_piece
