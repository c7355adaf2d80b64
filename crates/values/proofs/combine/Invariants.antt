-- The first j bits are joined, and the others as they were.
use Rattle.values.proofs.Bits.{Filling, both}
use Rattle.values.proofs.combine.Given as goal

abbrev pub invariant-loop-j : goal.invariant-loop-j
invariant-loop-j l = Filling (both l.op l.initial.room l.at l.n l.m) l.initial.room l.at l.room l.j
