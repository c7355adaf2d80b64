-- What is left to look at decides.
use Rattle.tokens.proofs.Laws.{Seeking}
use Rattle.tokens.proofs.quote_end.Given as goal

abbrev pub invariant-loop-i : goal.invariant-loop-i
invariant-loop-i l = Seeking l.s l.from l.i
