-- The first j bytes are there.
use Rattle.operators.proofs.Room.{Lowering}
use Rattle.operators.proofs.move_down.Given as goal

abbrev pub invariant-loop-j : goal.invariant-loop-j
invariant-loop-j l = Lowering l.initial.room l.from l.n l.to l.room l.j
