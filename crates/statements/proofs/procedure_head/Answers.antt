-- Up to the semicolon.
use Rattle.std.proofs.lemmas.Result.{err_from_is_err_and}
use mathlib.Core.Path.{refl}
use Rattle.statements.proofs.Clauses.{head_there, head_stopped, head_refused}
use Rattle.statements.proofs.Laws.{sign_past, sign_refused}
use Rattle.statements.proofs.procedure_head.Goals as goal

pub returns-in_err-value_type : goal.returns-in_err-value_type
returns-in_err-value_type c =
    let p = err_from_is_err_and c.from_residual.result c.from_residual.ensures.1 in
    rw (p.1, p.2) (head_refused _ _ _ _ c.in_err-value_type.ensures _ refl)

pub returns-in_err-close : goal.returns-in_err-close
returns-in_err-close c =
    let p = err_from_is_err_and c.from_residual-in_err-close.result c.from_residual-in_err-close.ensures.1 in
    rw (p.1, p.2) (head_stopped _ _ _ _ c.in_ok-value_type.ensures _ _ refl _ _ c.in_err-close.ensures (sign_refused _ _ _ _ refl) _ refl)

pub returns-in_err-to : goal.returns-in_err-to
returns-in_err-to c =
    let p = err_from_is_err_and c.from_residual-in_err-to.result c.from_residual-in_err-to.ensures.1 in
    rw (p.1, p.2) (head_stopped _ _ _ _ c.in_ok-value_type.ensures _ _ refl _ _ c.in_ok-close.ensures (sign_past _ _ _ _ _ refl c.in_err-to.ensures) _ refl)

pub returns : goal.returns
returns c = head_there _ _ _ _ c.in_ok-value_type.ensures _ _ refl _ _ c.in_ok-close.ensures (sign_past _ _ _ _ _ refl c.in_ok-to.ensures) _ refl
