use Rattle.tokens.proofs.Laws.{passing_start, passing_more, passing_stop, passing_end}
use Rattle.tokens.proofs.digits_end.Goals as goal

pub loop-i-init : goal.loop-i-init
loop-i-init c = passing_start _ _ _

pub loop-i-preserved : goal.loop-i-preserved
loop-i-preserved c = search passing_more

pub returns-else-is_digit : goal.returns-else-is_digit
returns-else-is_digit c = search passing_stop

pub returns-after-loop-i : goal.returns-after-loop-i
returns-after-loop-i c = search passing_end
