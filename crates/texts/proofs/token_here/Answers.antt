-- The step, then the copy or the replacement.
use mathlib.Core.Path.{refl}
use Rattle.std.proofs.lemmas.Result.{err_from_is_err_and}
use Rattle.texts.proofs.Turning.{turn_none, turn_copied, turn_replaced}
use Rattle.texts.proofs.token_here.Goals as goal

pub returns-in_err-g : goal.returns-in_err-g
returns-in_err-g c =
    let p = err_from_is_err_and c.from_residual.result c.from_residual.ensures.1 in
    rw (p.1, p.2) (turn_none _ _ _ _ _ _ _ _ _ _ _ _ _ _ _ _ c.sum-place.ensures _ c.in_err-g.ensures.1 refl _ refl c.in_err-g.ensures.2)

pub returns-in_err-h-in-None : goal.returns-in_err-h-in-None
returns-in_err-h-in-None c =
    let p = err_from_is_err_and c.from_residual-in_err-h-in-None.result c.from_residual-in_err-h-in-None.ensures.1 in
    rw (p.1, p.2) (turn_copied _ _ _ _ _ _ _ _ _ _ _ _ _ _ _ _ c.sum-place.ensures _ c.in_ok-g.ensures.1 c.in_ok-g.ensures.2 _ _ c.piece_of-y.ensures c.active_in-active.ensures refl _ _ _ _ c.in-None.is c.sum-to.ensures c.in_err-h-in-None.ensures)

pub returns-in_ok-h-in-None : goal.returns-in_ok-h-in-None
returns-in_ok-h-in-None c = turn_copied _ _ _ _ _ _ _ _ _ _ _ _ _ _ _ _ c.sum-place.ensures _ c.in_ok-g.ensures.1 c.in_ok-g.ensures.2 _ _ c.piece_of-y.ensures c.active_in-active.ensures refl _ _ _ _ c.in-None.is c.sum-to.ensures c.in_ok-h-in-None.ensures

pub returns-in-Some : goal.returns-in-Some
returns-in-Some c = turn_replaced _ _ _ _ _ _ _ _ _ _ _ _ _ _ _ _ c.sum-place.ensures _ c.in_ok-g.ensures.1 c.in_ok-g.ensures.2 _ _ c.piece_of-y.ensures c.active_in-active.ensures refl _ _ _ _ _ _ _ _ _ c.in-Some.is c.replace_here.ensures
