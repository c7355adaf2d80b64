-- What is left decides.
use Rattle.openings.proofs.Labelling.{Seeking}
use Rattle.tokens.specs.Answer.{spelling}
use Rattle.openings.proofs.is_label.Given as goal

abbrev pub invariant-loop-left : goal.invariant-loop-left
invariant-loop-left l = Seeking (spelling l.s l.t) l.s l.from l.left l.at
