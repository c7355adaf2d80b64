-- As the definition reads it.
use Rattle.std.proofs.lemmas.Result.{err_from_is_err_and}
use mathlib.Core.Path.{refl}
use Rattle.statements.proofs.Clauses.{goes}
use Rattle.statements.proofs.Laws.{up_refused, sign_past, sign_refused}
use Rattle.statements.proofs.goto_clause.Goals as goal

pub returns-in_err-q : goal.returns-in_err-q
returns-in_err-q c =
    let p = err_from_is_err_and c.from_residual.result c.from_residual.ensures.1 in
    rw (p.1, p.2) (goes _ _ _ _ _ c.in_err-q.ensures (sign_refused _ _ _ _ refl) (up_refused _ _ _ _ _ refl))

pub returns : goal.returns
returns c = goes _ _ _ _ _ c.in_ok-q.ensures (sign_past _ _ _ _ _ refl c.expect_sign.ensures) c.read_up_to.ensures
