-- What was counted, with what is left, is all.
use Rattle.outcomes.proofs.Cutting.{Counting}
use Rattle.outcomes.proofs.arguments_from.Given as goal

abbrev pub invariant-loop-n : goal.invariant-loop-n
invariant-loop-n l = Counting l.t l.first l.n l.from
