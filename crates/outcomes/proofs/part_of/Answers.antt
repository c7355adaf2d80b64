-- Field by field.
use Rattle.outcomes.proofs.Sources.{part_of_is}
use Rattle.outcomes.proofs.part_of.Goals as goal

pub returns : goal.returns
returns c = search part_of_is
