-- As the definition reads it.
use Rattle.std.proofs.lemmas.Result.{err_from_is_err_and}
use mathlib.Core.Path.{refl}
use Rattle.statements.proofs.Clauses.{do_group, do_iterated}
use Rattle.statements.proofs.Laws.{up_refused, sign_past, sign_refused, expression_past, expression_refused, bounds_refused}
use Rattle.statements.proofs.do_clause.Goals as goal

pub returns-then-is_sign : goal.returns-then-is_sign
returns-then-is_sign c = search do_group

pub returns-in_err-name : goal.returns-in_err-name
returns-in_err-name c =
    let p = err_from_is_err_and c.from_residual.result c.from_residual.ensures.1 in
    rw (p.1, p.2) (do_iterated _ _ _ c.token_at-t.ensures _ c.is_sign.ensures c.if-is_sign.false _ _ _ _ _ _ c.in_err-name.ensures (sign_refused _ _ _ _ refl) (expression_refused _ _ _ refl) (bounds_refused _ _ _ refl) (sign_refused _ _ _ _ refl) (up_refused _ _ _ _ _ refl))

pub returns-in_err-equals : goal.returns-in_err-equals
returns-in_err-equals c =
    let p = err_from_is_err_and c.from_residual-in_err-equals.result c.from_residual-in_err-equals.ensures.1 in
    rw (p.1, p.2) (do_iterated _ _ _ c.token_at-t.ensures _ c.is_sign.ensures c.if-is_sign.false _ _ _ _ _ _ c.in_ok-name.ensures (sign_past _ _ _ _ _ refl c.in_err-equals.ensures) (expression_refused _ _ _ refl) (bounds_refused _ _ _ refl) (sign_refused _ _ _ _ refl) (up_refused _ _ _ _ _ refl))

pub returns-in_err-start : goal.returns-in_err-start
returns-in_err-start c =
    let p = err_from_is_err_and c.from_residual-in_err-start.result c.from_residual-in_err-start.ensures.1 in
    rw (p.1, p.2) (do_iterated _ _ _ c.token_at-t.ensures _ c.is_sign.ensures c.if-is_sign.false _ _ _ _ _ _ c.in_ok-name.ensures (sign_past _ _ _ _ _ refl c.in_ok-equals.ensures) (expression_past _ _ _ _ refl c.in_err-start.ensures) (bounds_refused _ _ _ refl) (sign_refused _ _ _ _ refl) (up_refused _ _ _ _ _ refl))

pub returns-in_err-e : goal.returns-in_err-e
returns-in_err-e c =
    let p = err_from_is_err_and c.from_residual-in_err-e.result c.from_residual-in_err-e.ensures.1 in
    rw (p.1, p.2) (do_iterated _ _ _ c.token_at-t.ensures _ c.is_sign.ensures c.if-is_sign.false _ _ _ _ _ _ c.in_ok-name.ensures (sign_past _ _ _ _ _ refl c.in_ok-equals.ensures) (expression_past _ _ _ _ refl c.in_ok-start.ensures) c.in_err-e.ensures (sign_refused _ _ _ _ refl) (up_refused _ _ _ _ _ refl))

pub returns : goal.returns
returns c = do_iterated _ _ _ c.token_at-t.ensures _ c.is_sign.ensures c.if-is_sign.false _ _ _ _ _ _ c.in_ok-name.ensures (sign_past _ _ _ _ _ refl c.in_ok-equals.ensures) (expression_past _ _ _ _ refl c.in_ok-start.ensures) c.in_ok-e.ensures (sign_past _ _ _ _ _ refl c.expect_sign-2.ensures) c.read_up_to-2.ensures
