-- What is left to look at decides.
use Rattle.deck.proofs.Laws.{Blanks}
use Rattle.deck.proofs.is_blank_part.Given as goal

abbrev pub invariant-loop-j : goal.invariant-loop-j
invariant-loop-j l = Blanks l.d l.at l.i l.n l.j
