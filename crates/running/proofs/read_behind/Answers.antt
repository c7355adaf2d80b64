-- The part behind the rows is lent, and comes back there.
use Rattle.running.proofs.Entering.{read_behind}
use Rattle.running.proofs.read_behind.Goals as goal

pub returns : goal.returns
returns c = search read_behind
