-- What is left of the bytes gives what all of them give.
use Prim.Native.Nat.{◌-◌}
use Rattle.edges.proofs.Piecing.{Piecing}
use Rattle.edges.proofs.put_pieces.Given as goal

abbrev pub invariant-loop-at : goal.invariant-loop-at
invariant-loop-at l = Piecing l.src l.from l.to l.member l.initial.o l.initial.text l.initial.list l.at l.o l.text l.list

abbrev pub decreases-loop-at : goal.decreases-loop-at
decreases-loop-at l = l.to - l.at
