-- What is left to look at decides, with turns enough to reach the end.
use lib.ListN.{length}
use Prim.Native.Nat.{◌-◌}
use Rattle.tokens.proofs.Pieces.{Texting}
use Rattle.tokens.proofs.text_end.Given as goal

abbrev pub invariant-loop-i : goal.invariant-loop-i
invariant-loop-i l = Texting l.s l.p l.i

abbrev pub decreases-loop-i : goal.decreases-loop-i
decreases-loop-i l = length l.s - l.i
