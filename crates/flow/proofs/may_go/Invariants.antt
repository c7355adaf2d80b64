-- What is left to look at decides.
use Rattle.flow.specs.Walks.{may_go_on, label_from}
use Rattle.flow.proofs.Steps.{Going}
use Rattle.flow.proofs.may_go.Given as goal

abbrev pub invariant-loop : goal.invariant-loop
invariant-loop l = Going l.rows l.n (may_go_on l.rows l.n 2048 (label_from l.rows l.r l.is_end)) l.up l.counter
