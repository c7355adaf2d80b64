-- What is left to look at decides.
use Rattle.definition.specs.Bytes.{mixed, folded}
use Rattle.definition.specs.Lists.{part}
use Rattle.names.specs.Table.{owner_of}
use Rattle.names.proofs.Laws.{Searching}
use Rattle.names.proofs.find.Given as goal

abbrev pub invariant-loop-a : goal.invariant-loop-a
invariant-loop-a l = Searching l.deck l.names (folded mixed (part l.len l.from l.s)) (owner_of l.owner) l.n l.a
