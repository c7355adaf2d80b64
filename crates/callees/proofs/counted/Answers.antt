use Rattle.callees.proofs.Listing.{counting_start, counting_more, counting_last, counting_wrong, counting_end}
use Rattle.callees.proofs.counted.Goals as goal

pub loop-n-init : goal.loop-n-init
loop-n-init c = counting_start _ _ _ _ _ _

pub returns-then-is_last : goal.returns-then-is_last
returns-then-is_last c = search counting_last

pub loop-n-preserved : goal.loop-n-preserved
loop-n-preserved c = search counting_more

pub returns-in_default : goal.returns-in_default
returns-in_default c = search counting_wrong

pub returns : goal.returns
returns c = search counting_end
