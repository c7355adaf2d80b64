-- Those that were read and those that are left are all.
use Rattle.openings.proofs.Labelling.{Labelling}
use Rattle.openings.proofs.labels_at.Given as goal

abbrev pub invariant-loop-count : goal.invariant-loop-count
invariant-loop-count l = Labelling l.s l.from l.at l.count l.long
