-- What is left to look at decides.
use Rattle.deck.proofs.Laws.{Repeating}
use Rattle.deck.proofs.is_repeated.Given as goal

abbrev pub invariant-loop-j : goal.invariant-loop-j
invariant-loop-j l = Repeating l.d l.k l.i l.n l.j
