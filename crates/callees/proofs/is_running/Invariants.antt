-- What is left to look at decides.
use Rattle.callees.proofs.Starting.{Looking}
use Rattle.callees.proofs.is_running.Given as goal

abbrev pub invariant-loop-i : goal.invariant-loop-i
invariant-loop-i l = Looking l.g l.p l.i
