-- What is left from here is what was to cut, with turns enough to reach the end.
use Rattle.outcomes.proofs.Cutting.{Ending'}
use Rattle.outcomes.proofs.argument_end.Given as goal

abbrev pub invariant-loop : goal.invariant-loop
invariant-loop l = Ending' l.t l.from l.p l.open l.counter
