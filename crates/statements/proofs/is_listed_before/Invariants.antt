-- What is left decides.
use Rattle.statements.proofs.Heads.{Before}
use Rattle.statements.proofs.is_listed_before.Given as goal

abbrev pub invariant-loop-left : goal.invariant-loop-left
invariant-loop-left l = Before l.s l.x.from l.x.to l.list l.left l.at
