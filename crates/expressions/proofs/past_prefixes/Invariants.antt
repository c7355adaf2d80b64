-- The prefix operators that are left, with those that were passed, are all.
use Rattle.expressions.proofs.Reading.{Passing}
use Rattle.expressions.proofs.past_prefixes.Given as goal

abbrev pub invariant-loop-count : goal.invariant-loop-count
invariant-loop-count l = Passing l.s l.from l.count l.at
