-- The first that has no bits decides.
use Rattle.std.proofs.lemmas.Result.{err_from_is_err_and}
use Rattle.std.proofs.Common.{refl}
use Rattle.operators.proofs.Bitwise.{logical_is, logical_half, logical_none}
use Rattle.operators.proofs.logical.Goals as goal

pub returns-in_err-first : goal.returns-in_err-first
returns-in_err-first c =
    let p = err_from_is_err_and c.from_residual.result c.from_residual.ensures.1 in
    rw (p.1, p.2) (logical_none _ _ _ _ _ _ c.size_of.ensures _ _ c.in_err-first.ensures _ refl)

pub returns-in_err-second : goal.returns-in_err-second
returns-in_err-second c =
    let p = err_from_is_err_and c.from_residual-in_err-second.result c.from_residual-in_err-second.ensures.1 in
    rw (p.1, p.2) (logical_half _ _ _ _ _ _ c.size_of.ensures _ _ c.in_ok-first.ensures _ refl _ c.size_of-n.ensures _ c.above.ensures _ _ c.in_err-second.ensures _ refl)

pub returns : goal.returns
returns c = logical_is _ _ _ _ _ _ c.size_of.ensures _ _ c.in_ok-first.ensures _ refl _ c.size_of-n.ensures _ c.above.ensures _ _ c.in_ok-second.ensures _ _ _ _ refl c.size_of-2.ensures c.combine.ensures
