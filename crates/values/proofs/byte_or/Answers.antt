-- A byte inside, and the filling past the end.
use Rattle.values.proofs.Compare.{byte_in, byte_out}
use Rattle.values.proofs.byte_or.Goals as goal

pub returns-then-j-n : goal.returns-then-j-n
returns-then-j-n c = search byte_in

pub returns-else-j-n : goal.returns-else-j-n
returns-else-j-n c = search byte_out
