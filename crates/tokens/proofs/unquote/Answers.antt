use Rattle.std.proofs.Common.{arith}
use Rattle.tokens.proofs.Laws.{width_inside}
use Rattle.tokens.proofs.Contents.{copying_start, copying_more, copying_last, copying_never, content_inside, unquoted_none}
use Rattle.tokens.proofs.unquote.Goals as goal

pub returns-then-size-lt1 : goal.returns-then-size-lt1
returns-then-size-lt1 c = search unquoted_none

pub overflow_add-i : goal.overflow_add-i
overflow_add-i c = omega (arith, content_inside _ _ _ c.content_size-size.ensures c.if-size-lt1.false)

pub loop-i-init : goal.loop-i-init
loop-i-init c = copying_start _ _ _ _

pub returns-then-w-lt1 : goal.returns-then-w-lt1
returns-then-w-lt1 c = search copying_last

pub overflow_add-i-in-loop-i : goal.overflow_add-i-in-loop-i
overflow_add-i-in-loop-i c = omega (arith, width_inside _ _ c.loop-i-test.true _ c.byte_width-w.ensures)

pub overflow_add-n : goal.overflow_add-n
overflow_add-n c = omega (arith, c.loop-i.invariant.counts.low)

pub loop-i-preserved : goal.loop-i-preserved
loop-i-preserved c = search copying_more

pub returns : goal.returns
returns c = search copying_never
