-- A byte inside, and the filling past the end.
use Rattle.values.proofs.Compare.{byte_in, byte_out}
use Rattle.values.proofs.far_byte_or.Goals as goal

pub returns-then-j-m : goal.returns-then-j-m
returns-then-j-m c = search byte_in

pub returns-else-j-m : goal.returns-else-j-m
returns-else-j-m c = search byte_out
