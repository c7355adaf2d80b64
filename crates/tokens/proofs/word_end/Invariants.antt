-- What is left to pass is passed.
use lib.ListN.{length}
use Prim.Native.Nat.{◌-◌}
use Rattle.definition.specs.Bytes.{mixed, is_alphameric}
use Rattle.tokens.proofs.Laws.{Passing}
use Rattle.tokens.proofs.word_end.Given as goal

abbrev pub invariant-loop-i : goal.invariant-loop-i
invariant-loop-i l = Passing l.s l.p (is_alphameric mixed) l.i

abbrev pub decreases-loop-i : goal.decreases-loop-i
decreases-loop-i l = length l.s - l.i
