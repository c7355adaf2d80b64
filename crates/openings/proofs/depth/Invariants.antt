-- The sum so far is the depth of what was counted.
use Rattle.openings.proofs.Stacked.{Deepening}
use Rattle.openings.proofs.depth.Given as goal

abbrev pub invariant-loop-i : goal.invariant-loop-i
invariant-loop-i l = Deepening l.o l.n l.i
