-- The place as it is told.
use Rattle.origin.proofs.Telling.{blank_told}
use Rattle.origin.proofs.tell_blank.Goals as goal

pub returns : goal.returns
returns c = blank_told _ _ _ _ _ _ _ _ _ _ _ c.told_place.ensures c.put_blank.ensures
