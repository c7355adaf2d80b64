-- As far as it says.
use Rattle.std.proofs.lemmas.Result.{err_from_is_err_and}
use Rattle.statements.proofs.Laws.{up_past, up_refused}
use Rattle.statements.proofs.read_up_to.Goals as goal

pub returns : goal.returns
returns c = let w = c.in_ok-to.was in search up_past

pub returns-in_err-to : goal.returns-in_err-to
returns-in_err-to c =
    let p = err_from_is_err_and c.from_residual.result c.from_residual.ensures.1 in
    let w = c.in_err-to.was in
    rw (p.1, p.2) (search up_refused)
