-- By the room.
use Rattle.outcomes.proofs.Putting.{waiting_work, waiting_text}
use Rattle.outcomes.proofs.waiting.Goals as goal

pub returns-then-d : goal.returns-then-d
returns-then-d c = search waiting_work

pub returns : goal.returns
returns c = search waiting_text
