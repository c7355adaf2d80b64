-- What is left of the list, with those that were counted, is all.
use Rattle.operands.proofs.Prefixing.{Counting}
use Rattle.operands.proofs.count_arguments.Given as goal

abbrev pub invariant-loop-n : goal.invariant-loop-n
invariant-loop-n l = Counting l.s l.from l.left l.n l.at
