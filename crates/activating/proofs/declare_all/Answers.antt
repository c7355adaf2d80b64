-- As the definition reads it.
use Rattle.activating.proofs.Readers.{declares}
use Rattle.activating.proofs.declare_all.Goals as goal

pub returns : goal.returns
returns c = search declares
