-- By the first of them.
use Rattle.std.proofs.lemmas.Result.{err_from_is_err_and}
use mathlib.Core.Path.{refl}
use Rattle.statements.proofs.Laws.{bounds_by, bounds_to, bound_refused}
use Rattle.statements.proofs.do_bounds.Goals as goal

pub returns-in_err-by : goal.returns-in_err-by
returns-in_err-by c =
    let p = err_from_is_err_and c.from_residual.result c.from_residual.ensures.1 in
    rw (p.1, p.2) (bounds_by _ _ _ refl _ c.token_at-t.ensures _ c.is_word.ensures c.if-is_word.true _ _ c.in_err-by.ensures (bound_refused _ _ _ _ refl))

pub returns-then-is_word : goal.returns-then-is_word
returns-then-is_word c = bounds_by _ _ _ refl _ c.token_at-t.ensures _ c.is_word.ensures c.if-is_word.true _ _ c.in_ok-by.ensures c.bound_at.ensures

pub returns-in_err-to : goal.returns-in_err-to
returns-in_err-to c =
    let p = err_from_is_err_and c.from_residual-in_err-to.result c.from_residual-in_err-to.ensures.1 in
    rw (p.1, p.2) (bounds_to _ _ _ refl _ c.token_at-t.ensures _ c.is_word.ensures c.if-is_word.false _ _ c.in_err-to.ensures (bound_refused _ _ _ _ refl))

pub returns : goal.returns
returns c = bounds_to _ _ _ refl _ c.token_at-t.ensures _ c.is_word.ensures c.if-is_word.false _ _ c.in_ok-to.ensures c.bound_at-3.ensures
