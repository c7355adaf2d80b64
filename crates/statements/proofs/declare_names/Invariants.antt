-- Those that were declared and those that are left are all that can be read.
use Rattle.statements.proofs.Listed.{NamingIf}
use Rattle.statements.proofs.declare_names.Given as goal

abbrev pub invariant-loop-left : goal.invariant-loop-left
invariant-loop-left l = NamingIf l.deck l.s l.initial.names l.owner l.meaning l.initial.tally l.initial.at l.fn.x.most l.names l.tally l.at l.left
