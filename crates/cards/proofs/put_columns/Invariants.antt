-- The records that are left make the room what it is to be.
use Rattle.cards.proofs.Laws.{Cards}
use Rattle.cards.proofs.put_columns.Given as goal

abbrev pub invariant-loop-j : goal.invariant-loop-j
invariant-loop-j l = Cards l.d l.from l.n l.initial.room l.to l.room l.card l.at l._j
