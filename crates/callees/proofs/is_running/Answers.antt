use Rattle.callees.proofs.Starting.{looking_start, looking_more, looking_here, looking_done}
use Rattle.callees.proofs.is_running.Goals as goal

pub loop-i-init : goal.loop-i-init
loop-i-init c = looking_start _ _

pub returns-then-is_here : goal.returns-then-is_here
returns-then-is_here c = search looking_here

pub loop-i-preserved : goal.loop-i-preserved
loop-i-preserved c = search looking_more

pub returns : goal.returns
returns c = search looking_done
