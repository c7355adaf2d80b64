-- The bits are looked at, or there are none.
use Rattle.std.proofs.lemmas.Result.{err_from_is_err_and}
use Rattle.std.proofs.Common.{refl}
use Rattle.operators.proofs.Texts.{holds_is, holds_not}
use Rattle.operators.proofs.holds.Goals as goal

pub returns-in_err-bits : goal.returns-in_err-bits
returns-in_err-bits c =
    let p = err_from_is_err_and c.from_residual.result c.from_residual.ensures.1 in
    rw (p.1, p.2) (holds_not _ _ _ _ _ _ _ c.in_err-bits.ensures _ refl)

pub returns : goal.returns
returns c = holds_is _ _ _ _ _ _ _ c.in_ok-bits.ensures _ _ _ refl c.size_of.ensures c.any_one.ensures
