-- What is left ends where all of it does.
use Rattle.statements.proofs.Laws.{Listing}
use Rattle.statements.proofs.name_list.Given as goal

abbrev pub invariant-loop-left : goal.invariant-loop-left
invariant-loop-left l = Listing l.close l.each l.s l.from l.left l.at
