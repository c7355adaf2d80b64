-- What is left of both sides decides.
use Rattle.definition.specs.Lists.{part}
use Rattle.values.proofs.Compare.{Comparing}
use Rattle.values.proofs.bytes_order.Given as goal

abbrev pub invariant-loop-j : goal.invariant-loop-j
invariant-loop-j l = Comparing l.pad (part l.n l.a l.s) (part l.m l.b l.t) l.j
