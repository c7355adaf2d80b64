-- What was written so far.
use Rattle.std.proofs.Common.{◌≡◌, take}
use Rattle.definition.specs.Room.{over}
use Rattle.rooms.proofs.put_numbers16.Given as goal

abbrev pub invariant-loop-k : goal.invariant-loop-k
invariant-loop-k l = l.room ≡ over l.initial.room l.at (take l.k l.numbers)
