-- What was applied is the end of the list.
use Rattle.operands.proofs.Prefixing.{Prefixing}
use Rattle.operands.proofs.with_prefixes.Given as goal

abbrev pub invariant-loop-rest : goal.invariant-loop-rest
invariant-loop-rest l = Prefixing l.s l.from l.n l.initial.work l.u l.initial.x l.rest l.x l.work

abbrev pub decreases-loop-rest : goal.decreases-loop-rest
decreases-loop-rest l = l.rest
