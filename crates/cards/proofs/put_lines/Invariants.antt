-- The lines that are left make the room what it is to be.
use Rattle.cards.proofs.Laws.{Lining}
use Rattle.cards.proofs.put_lines.Given as goal

abbrev pub invariant-loop-k : goal.invariant-loop-k
invariant-loop-k l = Lining l.d l.n l.initial.room l.room l.at l.k
