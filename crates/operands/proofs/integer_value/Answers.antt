-- By the answer.
use Rattle.operands.proofs.Leaves.{integer_some, integer_wrong}
use Rattle.operands.proofs.integer_value.Goals as goal

pub returns-in-Ok : goal.returns-in-Ok
returns-in-Ok c = search integer_some

pub returns-in-Err : goal.returns-in-Err
returns-in-Err c = search integer_wrong
