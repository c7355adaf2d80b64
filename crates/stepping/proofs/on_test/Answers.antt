-- By the test.
use Rattle.stepping.proofs.Leading.{test_is, test_bad}
use Rattle.stepping.proofs.on_test.Goals as goal

pub returns-in-Ok : goal.returns-in-Ok
returns-in-Ok c = search test_is

pub returns-in-Err : goal.returns-in-Err
returns-in-Err c = search test_bad
