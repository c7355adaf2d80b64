-- A name, or why there is none.
use Rattle.std.proofs.lemmas.Result.{err_from_is_err_and}
use Rattle.statements.proofs.Laws.{name_there, name_refused}
use Rattle.statements.proofs.name_past.Goals as goal

pub returns : goal.returns
returns c = let w = c.in_ok-to.was in search name_there

pub returns-in_err-to : goal.returns-in_err-to
returns-in_err-to c =
    let p = err_from_is_err_and c.from_residual.result c.from_residual.ensures.1 in
    let w = c.in_err-to.was in
    rw (p.1, p.2) (search name_refused)
