-- Field by field.
use Rattle.outcomes.proofs.Putting.{after_is}
use Rattle.outcomes.proofs.after.Goals as goal

pub returns : goal.returns
returns c = search after_is
