-- The program alone is open.
use Rattle.reading.proofs.Turning.{begins_so}
use Rattle.reading.proofs.start.Goals as goal

pub returns : goal.returns
returns c = search begins_so
