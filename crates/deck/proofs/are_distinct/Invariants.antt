-- What is left to look at decides.
use Rattle.deck.proofs.Laws.{Differing}
use Rattle.deck.proofs.are_distinct.Given as goal

abbrev pub invariant-loop-k : goal.invariant-loop-k
invariant-loop-k l = Differing l.d l.n l.k
