-- One law for each way out.
use Rattle.std.proofs.lemmas.Result.{err_from_is_err_and}
use Rattle.bodies.proofs.Doing.{stored_some, stored_fails, stored_none}
use Rattle.bodies.proofs.stored.Goals as goal

pub returns-in_err-v : goal.returns-in_err-v
returns-in_err-v c = let p = err_from_is_err_and c.from_residual.result c.from_residual.ensures.1 in rw (p.1, p.2) (stored_none _ _ _ _ _ _ _ _ _ c.in_err-v.was)

pub returns-in-Ok : goal.returns-in-Ok
returns-in-Ok c = let e = c.in_ok-v.was in search stored_some

pub returns-in-Err : goal.returns-in-Err
returns-in-Err c = let e = c.in_ok-v.was in search stored_fails
