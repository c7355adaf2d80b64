-- Both sides go to their places, or there is no room.
use Rattle.std.proofs.lemmas.Result.{err_from_is_err_and}
use Rattle.std.proofs.Common.{refl}
use Rattle.operators.proofs.Joining.{joined_is, joined_none}
use Rattle.operators.proofs.joined.Goals as goal

pub returns-in_err-v : goal.returns-in_err-v
returns-in_err-v c =
    let p = err_from_is_err_and c.from_residual.result c.from_residual.ensures.1 in
    rw (p.1, p.2) (joined_none _ _ _ _ _ _ _ c.text_size-n.ensures c.text_size-m.ensures c.above.ensures _ c.joined_value.ensures _ c.in_err-v.ensures _ refl)

pub returns : goal.returns
returns c = joined_is _ _ _ _ _ _ _ c.text_size-n.ensures c.text_size-m.ensures c.above.ensures _ c.joined_value.ensures _ c.in_ok-v.ensures _ _ _ _ _ refl c.size_of.ensures c.write_first.ensures c.above-2.ensures c.write_number.ensures
