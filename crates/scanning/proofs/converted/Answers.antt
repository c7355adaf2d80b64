-- By the outcome, and by what becomes of it.
use Rattle.std.proofs.lemmas.Result.{err_from_is_err_and}
use Rattle.scanning.proofs.Converting.{converted_is, converted_fails, converted_bad}
use Rattle.scanning.proofs.converted.Goals as goal

pub returns-in-Ok : goal.returns-in-Ok
returns-in-Ok c = let w = c.in_ok-n.was in search converted_is

pub returns-in-Err : goal.returns-in-Err
returns-in-Err c = let w = c.in_ok-n.was in search converted_fails

pub returns-in_err-n : goal.returns-in_err-n
returns-in_err-n c =
    let p = err_from_is_err_and c.from_residual.result c.from_residual.ensures.1 in
    rw (p.1, p.2) (converted_bad _ _ _ _ _ _ c.in_err-n.was)
