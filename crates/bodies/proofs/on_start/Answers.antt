-- By the first test.
use Rattle.bodies.proofs.Going.{start_in_lem, start_out, start_bad}
use Rattle.bodies.proofs.on_start.Goals as goal

pub returns-then-begins : goal.returns-then-begins
returns-then-begins c = search start_in_lem

pub returns-else-begins : goal.returns-else-begins
returns-else-begins c = search start_out

pub returns-in-Err : goal.returns-in-Err
returns-in-Err c = search start_bad
