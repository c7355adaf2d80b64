-- A member in parentheses, or none.
use Rattle.std.proofs.lemmas.Result.{err_from_is_err_and}
use mathlib.Core.Path.{refl}
use Rattle.statements.proofs.Laws.{member_there, member_absent, member_refused, sign_past, sign_refused}
use Rattle.statements.proofs.member_past.Goals as goal

pub returns-in_err-q : goal.returns-in_err-q
returns-in_err-q c =
    let p = err_from_is_err_and c.from_residual.result c.from_residual.ensures.1 in
    rw (p.1, p.2) (member_refused _ _ _ c.in_err-q.was)

pub returns-in_err-member : goal.returns-in_err-member
returns-in_err-member c =
    let p = err_from_is_err_and c.from_residual-in_err-member.result c.from_residual-in_err-member.ensures.1 in
    rw (p.1, p.2) (member_there _ _ _ c.in_ok-q.was _ c.token_at-t.ensures _ c.is_sign.ensures c.if-is_sign.true _ _ c.in_err-member.ensures (sign_refused _ _ _ _ refl))

pub returns-then-is_sign : goal.returns-then-is_sign
returns-then-is_sign c = member_there _ _ _ c.in_ok-q.was _ c.token_at-t.ensures _ c.is_sign.ensures c.if-is_sign.true _ _ c.in_ok-member.ensures (sign_past _ _ _ _ _ refl c.expect_sign.ensures)

pub returns : goal.returns
returns c = member_absent _ _ _ c.in_ok-q.was _ c.token_at-t.ensures _ c.is_sign.ensures c.if-is_sign.false
