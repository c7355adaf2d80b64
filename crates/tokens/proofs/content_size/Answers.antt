use Rattle.std.proofs.Common.{arith}
use Rattle.tokens.proofs.Laws.{width_inside}
use Rattle.tokens.proofs.Contents.{counting_start, counting_more, counting_last, counting_open, content_past}
use Rattle.tokens.proofs.content_size.Goals as goal

pub returns-then-s-p : goal.returns-then-s-p
returns-then-s-p c = search content_past

pub loop-i-init : goal.loop-i-init
loop-i-init c = counting_start _ _

pub returns-then-w-lt1 : goal.returns-then-w-lt1
returns-then-w-lt1 c = search counting_last

pub overflow_add-i-in-loop-i : goal.overflow_add-i-in-loop-i
overflow_add-i-in-loop-i c = omega (arith, width_inside _ _ c.loop-i-test.true _ c.byte_width-w.ensures)

pub overflow_add-n : goal.overflow_add-n
overflow_add-n c = omega (arith, c.loop-i.invariant.low)

pub loop-i-preserved : goal.loop-i-preserved
loop-i-preserved c = search counting_more

pub returns : goal.returns
returns c = search counting_open
