-- Zeros behind what stays; past the end nothing.
use Rattle.std.proofs.Common.{arith, sym}
use Rattle.std.proofs.lemmas.Grind.{common_steps}
use Rattle.definition.proofs.Rooms.{over_past}
use Rattle.rooms.proofs.Laws.{rest_zeroed}
use Rattle.rooms.proofs.zero_from.Goals as goal

pub returns-then-from-room : goal.returns-then-from-room
returns-then-from-room c = rw (sym (rest_zeroed c.args.room.now c.args.from)) (grind (arith, common_steps))

pub returns-else-from-room : goal.returns-else-from-room
returns-else-from-room c = sym (over_past _ _ _ c.if-from-room.false)
