-- The first j bits are inverted, and the others as they were.
use Rattle.definition.specs.Lists.{part}
use Rattle.definition.specs.Values.{inverted}
use Rattle.values.proofs.Bits.{Filling}
use Rattle.values.proofs.invert.Given as goal

abbrev pub invariant-loop-j : goal.invariant-loop-j
invariant-loop-j l = Filling (inverted (part l.n l.at l.initial.room)) l.initial.room l.at l.room l.j
