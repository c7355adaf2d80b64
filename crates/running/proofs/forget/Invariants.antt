-- The first cells from the place on are zero.
use Rattle.running.proofs.Values.{Forgetting}
use Rattle.running.proofs.forget.Given as goal

abbrev pub invariant-loop-a : goal.invariant-loop-a
invariant-loop-a l = Forgetting l.initial.cells l.from l.to l.cells l.a
