-- Two numbers, or none.
use Rattle.std.proofs.lemmas.Result.{err_from_is_err_and}
use Rattle.operators.proofs.Sides.{numeric_is, numeric_not}
use Rattle.operators.proofs.numeric_order.Goals as goal

pub returns-in_err-a : goal.returns-in_err-a
returns-in_err-a c =
    let p = err_from_is_err_and c.from_residual.result c.from_residual.ensures.1 in
    rw (p.1, p.2) (numeric_not _ _ _ c.in_err-a.ensures)

pub returns : goal.returns
returns c = numeric_is _ _ _ _ _ c.in_ok-a.ensures c.numbers_order.ensures
