-- The blanks before place j are there.
use Rattle.values.proofs.Written.{Blanking}
use Rattle.values.proofs.put_blanks.Given as goal

abbrev pub invariant-loop-j : goal.invariant-loop-j
invariant-loop-j l = Blanking l.n l.initial.room l.at l.room l.j
