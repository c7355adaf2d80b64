-- What is left of the text gives what all of it gives.
use Prim.Native.Nat.{◌-◌}
use Rattle.texts.proofs.Looping.{Texting}
use Rattle.texts.proofs.text_on.Given as goal

abbrev pub invariant-loop : goal.invariant-loop
invariant-loop l = Texting l.deck l.s l.rows l.names l.initial.cells l.initial.low l.initial.high l.initial.work l.initial.text l.initial.list l.x l.here l.initial.g (l.turns - l.counter) l.p l.g l.cells l.low l.high l.work l.text l.list
