-- The bytes from j on are there.
use Rattle.operators.proofs.Room.{Raising}
use Rattle.operators.proofs.move_up.Given as goal

abbrev pub invariant-loop-j : goal.invariant-loop-j
invariant-loop-j l = Raising l.initial.room l.from l.n l.to l.room l.j
