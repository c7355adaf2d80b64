-- By what the value became.
use Rattle.bodies.proofs.Doing.{return_is}
use Rattle.bodies.proofs.on_return.Goals as goal

pub returns-in-Ok : goal.returns-in-Ok
returns-in-Ok c = return_is _ _ _ _ _ _ _ c.in-Ok.ensures _ c.with_step.ensures

pub returns-in-Err : goal.returns-in-Err
returns-in-Err c = return_is _ _ _ _ _ _ _ c.in-Err.ensures _ c.with_step-in-Err.ensures
