-- Where the text lies in its room, or not.
use Rattle.outcomes.proofs.Sources.{piece_in, piece_none}
use Rattle.outcomes.proofs.piece_of.Goals as goal

pub returns-in-Some : goal.returns-in-Some
returns-in-Some c = piece_in _ _ _ _ _ _ c.in-Some.ensures c.piece_at.ensures

pub returns-in-None : goal.returns-in-None
returns-in-None c = piece_none _ _ _ _ _ c.in-None.ensures
