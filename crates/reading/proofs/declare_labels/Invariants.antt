-- Those that were declared and those that are left are the labels.
use Rattle.reading.proofs.Labelling.{LabellingIf}
use Rattle.reading.proofs.declare_labels.Given as goal

abbrev pub invariant-loop-left : goal.invariant-loop-left
invariant-loop-left l = LabellingIf l.deck l.s l.initial.names l.scope l.meaning l.initial.tally l.initial.at l.names l.tally l.at l.left
