-- What is left to count decides.
use Rattle.values.proofs.Written.{Counting}
use Rattle.values.proofs.decimal_length.Given as goal

abbrev pub invariant-loop-k : goal.invariant-loop-k
invariant-loop-k l = Counting l.n l.k l.rest
