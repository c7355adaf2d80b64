-- As the definition reads it.
use Rattle.std.proofs.lemmas.Result.{err_from_is_err_and}
use mathlib.Core.Path.{refl}
use Rattle.statements.proofs.Clauses.{if_inside, if_out, if_wrong}
use Rattle.statements.proofs.Laws.{up_refused, sign_past, word_past, word_refused}
use Rattle.statements.proofs.if_clause.Goals as goal

pub returns-in_err-q : goal.returns-in_err-q
returns-in_err-q c =
    let p = err_from_is_err_and c.from_residual.result c.from_residual.ensures.1 in
    rw (p.1, p.2) (if_wrong _ _ _ _ c.in_err-q.ensures)

pub returns-then-in_body : goal.returns-then-in_body
returns-then-in_body c = if_inside _ _ _ _ _ _ c.if-in_body.true c.in_ok-q.ensures (word_past _ _ _ _ _ refl c.expect_word-e.ensures) c.read_up_to.ensures

pub returns-in_err-sign : goal.returns-in_err-sign
returns-in_err-sign c =
    let p = err_from_is_err_and c.from_residual-in_err-sign.result c.from_residual-in_err-sign.ensures.1 in
    rw (p.1, p.2) (if_out _ _ _ _ _ _ _ c.if-in_body.false c.in_ok-q.ensures (sign_past _ _ _ _ _ refl c.in_err-sign.ensures) (word_refused _ _ _ _ refl) (up_refused _ _ _ _ _ refl))

pub returns : goal.returns
returns c = if_out _ _ _ _ _ _ _ c.if-in_body.false c.in_ok-q.ensures (sign_past _ _ _ _ _ refl c.in_ok-sign.ensures) (word_past _ _ _ _ _ refl c.expect_word-e-2.ensures) c.read_up_to-2.ensures
