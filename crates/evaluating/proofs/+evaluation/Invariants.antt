-- The procedures that may still be started fall from a call to its body, the parentheses from an argument to what is inside, the
-- levels from an operator to its sides; bodies come above their statements, and these above expressions.
use Prim.Native.Nat.{◌+◌, ◌-◌, ◌*◌}
use Rattle.evaluating.proofs.Cycle.{Chaining}
use Rattle.evaluating.proofs.Arguing.{Taking}
use Rattle.evaluating.proofs.Looping.{Runs}
use Rattle.evaluating.proofs.+evaluation.Given as goal

abbrev pub decreases-arguments : goal.decreases-arguments
decreases-arguments l = 1000 * l.c.running.left + 32 * l.left + 2

abbrev pub decreases-call : goal.decreases-call
decreases-call l = 1000 * l.c.running.left

abbrev pub decreases-chain : goal.decreases-chain
decreases-chain l = 1000 * l.c.running.left + 32 * l.left + 2 * l.level + 9

abbrev pub decreases-deeds::assign : goal.decreases-deeds::assign
decreases-deeds::assign l = 1000 * l.c.running.left + 870

abbrev pub decreases-deeds::begun : goal.decreases-deeds::begun
decreases-deeds::begun l = 1000 * l.c.running.left + 880

abbrev pub decreases-deeds::body_turn : goal.decreases-deeds::body_turn
decreases-deeds::body_turn l = 1000 * l.c.running.left + 890

abbrev pub decreases-deeds::bounded : goal.decreases-deeds::bounded
decreases-deeds::bounded l = 1000 * l.c.running.left + 864

abbrev pub decreases-deeds::bounds : goal.decreases-deeds::bounds
decreases-deeds::bounds l = 1000 * l.c.running.left + 866

abbrev pub decreases-deeds::run_body : goal.decreases-deeds::run_body
decreases-deeds::run_body l = 1000 * l.c.running.left + 900

abbrev pub decreases-deeds::start : goal.decreases-deeds::start
decreases-deeds::start l = 1000 * l.c.running.left + 870

abbrev pub decreases-deeds::test : goal.decreases-deeds::test
decreases-deeds::test l = 1000 * l.c.running.left + 870

abbrev pub decreases-evaluate : goal.decreases-evaluate
decreases-evaluate l = 1000 * l.c.running.left + 860

abbrev pub decreases-inside : goal.decreases-inside
decreases-inside l = 1000 * l.c.running.left + 32 * l.left + 1

abbrev pub decreases-levels : goal.decreases-levels
decreases-levels l = 1000 * l.c.running.left + 32 * l.left + 2 * l.n + 8

abbrev pub decreases-listed : goal.decreases-listed
decreases-listed l = 1000 * l.c.running.left + 32 * l.left + 3

abbrev pub decreases-operand : goal.decreases-operand
decreases-operand l = 1000 * l.c.running.left + 32 * l.left + 6

abbrev pub decreases-plain : goal.decreases-plain
decreases-plain l = 1000 * l.c.running.left + 1

abbrev pub decreases-primitive : goal.decreases-primitive
decreases-primitive l = 1000 * l.c.running.left + 32 * l.left + 5

abbrev pub decreases-reference : goal.decreases-reference
decreases-reference l = 1000 * l.c.running.left + 32 * l.left + 4

abbrev pub invariant-arguments-loop-i : goal.invariant-arguments-loop-i
invariant-arguments-loop-i l = Taking l.deck l.rows l.names l.s l.initial.cells l.initial.low l.initial.high l.initial.work l.from l.left l.u l.t l.c l.initial.m l.i l.listed l.top l.at l.first l.held l.m l.cells l.low l.high l.work

abbrev pub invariant-chain-loop : goal.invariant-chain-loop
invariant-chain-loop l = Chaining l.deck l.rows l.names l.s l.initial.cells l.initial.low l.initial.high l.initial.work l.initial.x l.from l.level l.left l.u l.c l.initial.m (l.end - l.counter) l.x l.at l.m l.cells l.low l.high l.work

abbrev pub invariant-deeds::run_body-loop : goal.invariant-deeds::run_body-loop
invariant-deeds::run_body-loop l = Runs l.deck l.s l.part l.rows l.names l.initial.cells l.initial.low l.initial.high l.initial.work l.p l.u l.c l.initial.m (l.end - l.counter) l.next l.fs l.m l.cells l.low l.high l.work
