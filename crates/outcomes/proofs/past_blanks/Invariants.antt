-- What is left to pass is passed.
use lib.ListN.{length}
use Prim.Native.Nat.{◌-◌}
use Rattle.definition.specs.Bytes.{is_blank}
use Rattle.tokens.proofs.Laws.{Passing}
use Rattle.outcomes.proofs.past_blanks.Given as goal

abbrev pub invariant-loop-i : goal.invariant-loop-i
invariant-loop-i l = Passing l.t l.p is_blank l.i

abbrev pub decreases-loop-i : goal.decreases-loop-i
decreases-loop-i l = length l.t - l.i
