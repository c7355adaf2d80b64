use Rattle.flow.proofs.Steps.{looking_done, looking_none, looking_there, looking_up}
use Rattle.flow.proofs.is_around.Goals as goal

pub returns-in_default : goal.returns-in_default
returns-in_default c = search looking_none

pub returns-then-p-g : goal.returns-then-p-g
returns-then-p-g c = search looking_there

pub loop-preserved : goal.loop-preserved
loop-preserved c = search looking_up

pub returns : goal.returns
returns c = search looking_done
