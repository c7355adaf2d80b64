-- In one piece where both stretches lie inside; the other way is copy_each's contract.
use Rattle.std.proofs.Common.{arith}
use Rattle.rooms.proofs.Laws.{copied_whole}
use Rattle.rooms.proofs.copy.Goals as goal

pub returns-then-n-room : goal.returns-then-n-room
returns-then-n-room c = copied_whole _ _ _ _ _ _ c.copy_from_slice.ensures.after (omega arith) (omega arith)
