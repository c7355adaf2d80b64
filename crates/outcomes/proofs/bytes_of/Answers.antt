-- What the library looks up is the stretch.
use Rattle.outcomes.proofs.Sources.{bytes_there}
use Rattle.outcomes.proofs.bytes_of.Goals as goal

pub returns : goal.returns
returns c = bytes_there _ _ _ _ c.room_of.ensures _ c.get.ensures.lookup.0
