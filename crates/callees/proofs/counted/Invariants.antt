-- What is left of the list, with those that were counted, is all.
use Rattle.callees.proofs.Listing.{Counting}
use Rattle.callees.proofs.counted.Given as goal

abbrev pub invariant-loop-n : goal.invariant-loop-n
invariant-loop-n l = Counting l.deck l.s l.names l.count l.p l.list l.n l.at
