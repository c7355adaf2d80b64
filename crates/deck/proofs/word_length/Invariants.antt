-- What is past the bytes from j on is what is past them all.
use Prim.Native.Nat.{◌-◌}
use Rattle.deck.proofs.Laws.{Passing}
use Rattle.deck.proofs.word_length.Given as goal

abbrev pub invariant-loop-j : goal.invariant-loop-j
invariant-loop-j l = Passing l.d l.at l.n l.j

abbrev pub decreases-loop-j : goal.decreases-loop-j
decreases-loop-j l = l.n - l.j
