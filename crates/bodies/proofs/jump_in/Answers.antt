-- One law for each way out.
use Rattle.bodies.proofs.Jumping.{jump_done, jump_wrong, jump_bad}
use Rattle.bodies.proofs.jump_in.Goals as goal

pub returns-then-may_go : goal.returns-then-may_go
returns-then-may_go c = search jump_done

pub returns-else-may_go : goal.returns-else-may_go
returns-else-may_go c = search jump_wrong

pub returns-in-Err : goal.returns-in-Err
returns-in-Err c = search jump_bad
