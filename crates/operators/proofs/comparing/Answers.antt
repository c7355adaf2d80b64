-- An order, and room for a bit.
use Rattle.std.proofs.lemmas.Result.{err_from_is_err_and}
use Rattle.std.proofs.Common.{refl}
use Rattle.operators.proofs.Sides.{comparing_is, comparing_out, comparing_not}
use Rattle.operators.proofs.comparing.Goals as goal

pub returns-in_err-order : goal.returns-in_err-order
returns-in_err-order c =
    let p = err_from_is_err_and c.from_residual.result c.from_residual.ensures.1 in
    rw (p.1, p.2) (comparing_not _ _ _ _ _ _ c.in_err-order.ensures _ refl)

pub returns-then-fits : goal.returns-then-fits
returns-then-fits c = comparing_is _ _ _ _ _ _ c.in_ok-order.ensures _ refl _ c.fits.ensures _ _ _ c.if-fits.true c.is_wanted.ensures c.bit_of.ensures c.put_byte.ensures

pub returns : goal.returns
returns c = comparing_out _ _ _ _ _ _ c.in_ok-order.ensures _ refl _ c.fits.ensures c.if-fits.false
