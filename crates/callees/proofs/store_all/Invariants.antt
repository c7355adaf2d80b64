-- What is left to store, after what was stored, is all.
use Rattle.callees.proofs.Storing.{Storing}
use Rattle.callees.proofs.store_all.Given as goal

abbrev pub invariant-loop-i : goal.invariant-loop-i
invariant-loop-i l = Storing l.deck l.names l.count l.fn.c l.s l.h l.work l.initial.cells l.initial.low l.initial.high l.u l.i l.at l.top l.cells l.low l.high
