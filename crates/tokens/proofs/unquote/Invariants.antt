-- What is left to look at decides, with the bytes so far in the room.
use lib.ListN.{length}
use Prim.Native.Nat.{◌-◌}
use Rattle.tokens.proofs.Contents.{Copying}
use Rattle.tokens.proofs.unquote.Given as goal

abbrev pub invariant-loop-i : goal.invariant-loop-i
invariant-loop-i l = Copying l.s l.p l.initial.room l.at l.room l.n l.i

abbrev pub decreases-loop-i : goal.decreases-loop-i
decreases-loop-i l = length l.s - l.i
