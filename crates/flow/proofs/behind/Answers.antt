use Rattle.flow.proofs.Steps.{walking_start, walking_done, walking_there, walking_up}
use Rattle.flow.proofs.behind.Goals as goal

pub loop-init : goal.loop-init
loop-init c = walking_start _ _ _ _

pub returns-in-To : goal.returns-in-To
returns-in-To c = search walking_there

pub loop-preserved : goal.loop-preserved
loop-preserved c = search walking_up

pub returns : goal.returns
returns c = search walking_done
