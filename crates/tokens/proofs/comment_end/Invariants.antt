-- What is left to look at decides.
use Rattle.tokens.proofs.Laws.{Closing}
use Rattle.tokens.proofs.comment_end.Given as goal

abbrev pub invariant-loop-i : goal.invariant-loop-i
invariant-loop-i l = Closing l.s l.from l.star l.i
