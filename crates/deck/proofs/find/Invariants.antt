-- What is left to look at decides.
use Rattle.deck.specs.Answer.{sought_in}
use Rattle.deck.proofs.Laws.{Finding}
use Rattle.deck.proofs.find.Given as goal

abbrev pub invariant-loop-k : goal.invariant-loop-k
invariant-loop-k l = Finding l.d (sought_in l.d l.x) l.n l.k
