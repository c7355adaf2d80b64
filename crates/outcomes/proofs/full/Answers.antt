-- By the room.
use Rattle.outcomes.proofs.Putting.{full_work, full_text}
use Rattle.outcomes.proofs.full.Goals as goal

pub returns-then-d : goal.returns-then-d
returns-then-d c = search full_work

pub returns : goal.returns
returns c = search full_text
