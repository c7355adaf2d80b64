-- What is left to follow decides.
use Rattle.deck.proofs.Laws.{Following}
use Rattle.deck.proofs.do_follow.Given as goal

abbrev pub invariant-loop-k : goal.invariant-loop-k
invariant-loop-k l = Following l.d l.n l.at l.k
