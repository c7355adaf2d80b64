-- What is left to look at decides.
use Rattle.cards.proofs.Laws.{Looking}
use Rattle.cards.proofs.uneven.Given as goal

abbrev pub invariant-loop-k : goal.invariant-loop-k
invariant-loop-k l = Looking l.d l.n l.k
