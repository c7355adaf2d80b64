-- What is left decides.
use Rattle.statements.proofs.Heads.{Twice}
use Rattle.statements.proofs.parameters.Given as goal

abbrev pub invariant-loop-left : goal.invariant-loop-left
invariant-loop-left l = Twice l.s l.list l.left l.at
