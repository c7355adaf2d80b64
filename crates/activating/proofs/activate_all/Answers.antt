-- As the definition reads it.
use Rattle.activating.proofs.Readers.{activates}
use Rattle.activating.proofs.activate_all.Goals as goal

pub returns : goal.returns
returns c = search activates
