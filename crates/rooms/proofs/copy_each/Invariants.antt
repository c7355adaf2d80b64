-- The first j bytes are copied.
use Rattle.rooms.proofs.Laws.{Copied}
use Rattle.rooms.proofs.copy_each.Given as goal

abbrev pub invariant-loop-j : goal.invariant-loop-j
invariant-loop-j l = Copied l.src l.from l.initial.room l.at l.room l.j
