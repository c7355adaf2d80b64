-- What is left to look at decides.
use Rattle.leaving.proofs.Standing.{Looking}
use Rattle.leaving.proofs.row_below.Given as goal

abbrev pub invariant-loop-i : goal.invariant-loop-i
invariant-loop-i l = Looking l.b l.member l.i
