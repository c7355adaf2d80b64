-- What is left to look at decides.
use Rattle.flow.specs.Walks.{around_on, parent_at}
use Rattle.flow.proofs.Steps.{Looking}
use Rattle.flow.proofs.is_around.Given as goal

abbrev pub invariant-loop : goal.invariant-loop
invariant-loop l = Looking l.rows l.g (around_on l.rows l.g 2048 (parent_at l.rows l.n)) l.up l.counter
