use Rattle.values.proofs.Numbers.{reading_start, times_fits, next_fits, reading_more, reading_over, reading_done}
use Rattle.values.proofs.capped_number.Goals as goal

pub loop-j-init : goal.loop-j-init
loop-j-init c = reading_start _ _ _ _ _

pub overflow_mul-next : goal.overflow_mul-next
overflow_mul-next c = search times_fits

pub overflow_add-next : goal.overflow_add-next
overflow_add-next c = search next_fits

pub returns-then-next-ge-OVER : goal.returns-then-next-ge-OVER
returns-then-next-ge-OVER c = search reading_over

pub loop-j-preserved : goal.loop-j-preserved
loop-j-preserved c = search reading_more

pub returns : goal.returns
returns c = search reading_done
