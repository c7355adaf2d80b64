-- Those that were taken are there, and those that are left are the rest.
use Rattle.operands.proofs.Prefixing.{Signing}
use Rattle.operands.proofs.signs_from.Given as goal

abbrev pub invariant-loop-i : goal.invariant-loop-i
invariant-loop-i l = Signing l.s l.from l.first l.all l.i l.at
