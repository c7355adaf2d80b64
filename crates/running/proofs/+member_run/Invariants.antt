-- The include levels that are left fall from an INCLUDE to its member.
use Prim.Native.Nat.{◌+◌, ◌-◌, ◌*◌}
use lib.ListN.{length}
use Rattle.running.proofs.Looping.{Runs}
use Rattle.running.proofs.Naming.{Going}
use Rattle.running.proofs.+member_run.Given as goal

abbrev pub decreases-begin : goal.decreases-begin
decreases-begin l = 8 * l.left + 3

abbrev pub decreases-enter_and_run : goal.decreases-enter_and_run
decreases-enter_and_run l = 8 * l.left + 7

abbrev pub decreases-include_all : goal.decreases-include_all
decreases-include_all l = 8 * l.left + 2

abbrev pub decreases-include_one : goal.decreases-include_one
decreases-include_one l = 8 * l.left + 1

abbrev pub decreases-run_rows : goal.decreases-run_rows
decreases-run_rows l = 8 * l.left + 5

abbrev pub decreases-run_source : goal.decreases-run_source
decreases-run_source l = 8 * l.left + 6

abbrev pub decreases-turn : goal.decreases-turn
decreases-turn l = 8 * l.left + 4

abbrev pub invariant-include_all-loop : goal.invariant-include_all-loop
invariant-include_all-loop l = Going l.deck l.initial.rows l.initial.names l.initial.cells l.initial.low l.initial.high l.initial.work l.initial.text l.initial.list l.n l.left l.place l.initial.at l.inner l.initial.here l.initial.g l.rows l.names l.cells l.low l.high l.work l.text l.list l.here l.at l.g (length l.s - l.counter)

abbrev pub invariant-run_rows-loop : goal.invariant-run_rows-loop
invariant-run_rows-loop l = Runs l.deck l.s l.initial.rows l.initial.names l.initial.cells l.initial.low l.initial.high l.initial.work l.initial.text l.initial.list l.initial.next l.below l.initial.here l.left l.initial.g (l.end - l.counter) l.next l.fs l.here l.g l.rows l.names l.cells l.low l.high l.work l.text l.list
