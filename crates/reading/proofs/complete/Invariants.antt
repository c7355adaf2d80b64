-- What is left to do is what was to do.
use Rattle.reading.proofs.Endings.{Completing}
use Rattle.reading.proofs.complete.Given as goal

abbrev pub invariant-loop-left : goal.invariant-loop-left
invariant-loop-left l = Completing l.s l.initial.st l.n l.e l.st l.i l.left
