-- Where the text lies in its room, or not.
use Rattle.outcomes.proofs.Cutting.{end_in, end_out}
use Rattle.outcomes.proofs.end_of.Goals as goal

pub returns-in-Some : goal.returns-in-Some
returns-in-Some c = end_in _ _ _ _ _ _ _ c.in-Some.ensures c.argument_end.ensures c.end_place.ensures

pub returns-in-None : goal.returns-in-None
returns-in-None c = end_out _ _ _ _ _ c.in-None.ensures
