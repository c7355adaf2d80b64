use Rattle.operators.proofs.Room.{lowering_start, lowering_more, lowering_done}
use Rattle.operators.proofs.move_down.Goals as goal

pub loop-j-init : goal.loop-j-init
loop-j-init c = lowering_start _ _ _ _

pub loop-j-preserved : goal.loop-j-preserved
loop-j-preserved c = search lowering_more

pub returns : goal.returns
returns c = search lowering_done
