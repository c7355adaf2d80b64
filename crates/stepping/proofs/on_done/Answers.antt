-- By the case.
use Rattle.stepping.proofs.Leading.{done_good, done_bad}
use Rattle.stepping.proofs.on_done.Goals as goal

pub returns-in-Ok : goal.returns-in-Ok
returns-in-Ok c = search done_good

pub returns-in-Err : goal.returns-in-Err
returns-in-Err c = search done_bad
