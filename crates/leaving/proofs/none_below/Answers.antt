-- No slot is taken.
use Rattle.leaving.proofs.Standing.{none_is}
use Rattle.leaving.proofs.none_below.Goals as goal

pub returns : goal.returns
returns c = search none_is
