-- The digits after place j are there.
use Rattle.values.proofs.Written.{Putting}
use Rattle.values.proofs.put_digits.Given as goal

abbrev pub invariant-loop-j : goal.invariant-loop-j
invariant-loop-j l = Putting l.base l.n l.k l.initial.room l.at l.room l.rest l.j
