-- What is left to set does the same as what was to set.
use Rattle.activating.proofs.Walks.{Setting}
use Rattle.activating.proofs.set_all.Given as goal

abbrev pub invariant-loop : goal.invariant-loop
invariant-loop l = Setting l.deck l.s l.initial.names l.count l.kind l.act l.from l.names l.at l.counter
