-- The place as it is told.
use Rattle.origin.proofs.Telling.{replaced_told}
use Rattle.origin.proofs.tell_replaced.Goals as goal

pub returns : goal.returns
returns c = replaced_told _ _ _ _ _ _ _ _ _ _ _ c.told_place.ensures c.put_replaced.ensures
