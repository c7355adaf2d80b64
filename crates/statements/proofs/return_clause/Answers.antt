-- As the definition reads it.
use Rattle.std.proofs.lemmas.Result.{err_from_is_err_and}
use mathlib.Core.Path.{refl}
use Rattle.statements.proofs.Clauses.{returns_value}
use Rattle.statements.proofs.Laws.{up_refused, expression_past, expression_refused, sign_past, sign_refused}
use Rattle.statements.proofs.return_clause.Goals as goal

pub returns-in_err-open : goal.returns-in_err-open
returns-in_err-open c =
    let p = err_from_is_err_and c.from_residual.result c.from_residual.ensures.1 in
    rw (p.1, p.2) (returns_value _ _ _ _ _ _ _ c.in_err-open.ensures (expression_refused _ _ _ refl) (sign_refused _ _ _ _ refl) (sign_refused _ _ _ _ refl) (up_refused _ _ _ _ _ refl))

pub returns-in_err-value : goal.returns-in_err-value
returns-in_err-value c =
    let p = err_from_is_err_and c.from_residual-in_err-value.result c.from_residual-in_err-value.ensures.1 in
    rw (p.1, p.2) (returns_value _ _ _ _ _ _ _ c.in_ok-open.ensures (expression_past _ _ _ _ refl c.in_err-value.ensures) (sign_refused _ _ _ _ refl) (sign_refused _ _ _ _ refl) (up_refused _ _ _ _ _ refl))

pub returns-in_err-close : goal.returns-in_err-close
returns-in_err-close c =
    let p = err_from_is_err_and c.from_residual-in_err-close.result c.from_residual-in_err-close.ensures.1 in
    rw (p.1, p.2) (returns_value _ _ _ _ _ _ _ c.in_ok-open.ensures (expression_past _ _ _ _ refl c.in_ok-value.ensures) (sign_past _ _ _ _ _ refl c.in_err-close.ensures) (sign_refused _ _ _ _ refl) (up_refused _ _ _ _ _ refl))

pub returns : goal.returns
returns c = returns_value _ _ _ _ _ _ _ c.in_ok-open.ensures (expression_past _ _ _ _ refl c.in_ok-value.ensures) (sign_past _ _ _ _ _ refl c.in_ok-close.ensures) (sign_past _ _ _ _ _ refl c.expect_sign-3.ensures) c.read_up_to.ensures
