-- What is left to look at decides.
use Rattle.deck.proofs.Laws.{Naming}
use Rattle.deck.proofs.are_named.Given as goal

abbrev pub invariant-loop-k : goal.invariant-loop-k
invariant-loop-k l = Naming l.d l.n l.k
