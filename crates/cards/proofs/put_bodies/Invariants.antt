-- The bodies that are left make the room what it is to be.
use Rattle.cards.proofs.Laws.{Joining}
use Rattle.cards.proofs.put_bodies.Given as goal

abbrev pub invariant-loop-k : goal.invariant-loop-k
invariant-loop-k l = Joining l.d l.n l.initial.room l.room l.to l.k
