use Rattle.std.proofs.Common.{arith, refl, ◌∙◌}
use Rattle.tokens.proofs.Laws.{quoting_start, quoting_more, quoting_last, quoting_open, width_inside}
use Rattle.tokens.proofs.constant_end.Goals as goal
use Rattle.tokens.proofs.constant_end.Goals.{then-bits, else-bits}

pub loop-i-init : goal.loop-i-init
loop-i-init c = quoting_start _ _

pub returns-then-n-lt1 : goal.returns-then-n-lt1
returns-then-n-lt1 c = search quoting_last

pub overflow_add-i : goal.overflow_add-i
overflow_add-i c = omega (arith, width_inside _ _ c.loop-i-test.true _ c.byte_width-n.ensures)

pub loop-i-preserved : goal.loop-i-preserved
loop-i-preserved c =
    elim c.if-bits.branch [
      | then-bits w ↦ quoting_more _ _ _ _ c.loop-i.invariant _ _ _ c.loop-i-test.true c.byte_width-n.ensures c.if-n-lt1.false w.is_bit-bits.ensures (rw w.if-bits.true w.bits-is)
      | else-bits w ↦ quoting_more _ _ _ _ c.loop-i.invariant _ _ _ c.loop-i-test.true c.byte_width-n.ensures c.if-n-lt1.false refl (rw w.if-bits.false (w.bits-is ∙ w.if-bits.false))
    ]

pub returns : goal.returns
returns c = search quoting_open
