-- What is left to look at decides, with the bytes so far.
use lib.ListN.{length}
use Prim.Native.Nat.{◌-◌}
use Rattle.tokens.proofs.Contents.{Counting}
use Rattle.tokens.proofs.content_size.Given as goal

abbrev pub invariant-loop-i : goal.invariant-loop-i
invariant-loop-i l = Counting l.s l.p l.n l.i

abbrev pub decreases-loop-i : goal.decreases-loop-i
decreases-loop-i l = length l.s - l.i
