-- What was applied is the end of the block.
use Rattle.operands.proofs.Prefixing.{Blocking}
use Rattle.operands.proofs.with_block.Given as goal

abbrev pub invariant-loop-i : goal.invariant-loop-i
invariant-loop-i l = Blocking l.initial.work l.u l.all l.n l.initial.x l.i l.x l.work
