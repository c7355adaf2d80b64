-- Where the walk leads from here is where it led from the first row.
use Rattle.stepping.proofs.Walking.{Following}
use Rattle.stepping.proofs.follow.Given as goal

abbrev pub invariant-loop : goal.invariant-loop
invariant-loop l = Following l.deck l.s l.part l.rows l.names l.initial.cells l.initial.low l.initial.high l.initial.work l.initial.text l.initial.list l.fs l.initial.w l.here l.initial.g l.counter l.w l.g l.cells l.low l.high l.work l.text l.list
