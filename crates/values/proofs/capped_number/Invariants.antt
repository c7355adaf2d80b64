-- What is left to read decides; a number past the range stays past it.
use Rattle.values.proofs.Numbers.{Reading}
use Rattle.values.proofs.capped_number.Given as goal

abbrev pub invariant-loop-j : goal.invariant-loop-j
invariant-loop-j l = Reading l.base l.s l.at l.i l.n l.value l.j
