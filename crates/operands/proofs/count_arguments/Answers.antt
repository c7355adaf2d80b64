use Rattle.operands.proofs.Prefixing.{counting_start, counting_more, counting_last, counting_refused, counting_end}
use Rattle.operands.proofs.count_arguments.Goals as goal

pub loop-n-init : goal.loop-n-init
loop-n-init c = counting_start _ _ _

pub loop-n-preserved : goal.loop-n-preserved
loop-n-preserved c = search counting_more

pub returns-then-not-is_sign : goal.returns-then-not-is_sign
returns-then-not-is_sign c = search counting_last

pub returns-in_default : goal.returns-in_default
returns-in_default c = search counting_refused

pub returns : goal.returns
returns c = search counting_end
