-- Two numbers, or none.
use Rattle.std.proofs.lemmas.Result.{err_from_is_err_and}
use Rattle.operators.proofs.Sides.{calculated_is, calculated_out, calculated_not}
use Rattle.operators.proofs.calculated.Goals as goal

pub returns-in_err-a : goal.returns-in_err-a
returns-in_err-a c =
    let p = err_from_is_err_and c.from_residual.result c.from_residual.ensures.1 in
    rw (p.1, p.2) (calculated_not _ _ _ _ _ _ c.in_err-a.ensures)

pub returns-in_err-arithmetic : goal.returns-in_err-arithmetic
returns-in_err-arithmetic c =
    let p = err_from_is_err_and c.from_residual-in_err-arithmetic.result c.from_residual-in_err-arithmetic.ensures.1 in
    rw (p.1, p.2) (calculated_out _ _ _ _ _ _ _ c.in_ok-a.ensures _ c.in_err-arithmetic.ensures)

pub returns : goal.returns
returns c = calculated_is _ _ _ _ _ _ _ c.in_ok-a.ensures _ c.in_ok-arithmetic.ensures
