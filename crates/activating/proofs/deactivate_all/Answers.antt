-- As the definition reads it.
use Rattle.activating.proofs.Readers.{deactivates}
use Rattle.activating.proofs.deactivate_all.Goals as goal

pub returns : goal.returns
returns c = search deactivates
