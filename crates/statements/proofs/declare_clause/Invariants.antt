-- What is left to read, with what was entered, is what the definition reads.
use Rattle.statements.proofs.Items.{ItemizingIf}
use Rattle.statements.proofs.declare_clause.Given as goal

abbrev pub invariant-loop-left : goal.invariant-loop-left
invariant-loop-left l = ItemizingIf l.deck l.s l.initial.names l.owner l.initial.tally l.from l.names l.tally l.at l.left
