-- The bytes go out one after the other, the least first.
use Rattle.std.proofs.Common.{ap, ◌∙◌}
use Rattle.definition.specs.Lists.{part}
use Rattle.definition.specs.Room.{over}
use Rattle.rooms.proofs.Laws.{bytes4}
use Rattle.rooms.proofs.put_u32.Goals as goal

pub returns : goal.returns
returns c = c.copy.ensures ∙ ap (over c.args.room.now c.args.at) (ap (part 4 0) c.to_le_bytes.ensures ∙ bytes4 c.args.n)
