use Rattle.operators.proofs.Room.{raising_start, raising_more, raising_done}
use Rattle.operators.proofs.move_up.Goals as goal

pub loop-j-init : goal.loop-j-init
loop-j-init c = raising_start _ _ _ _

pub loop-j-preserved : goal.loop-j-preserved
loop-j-preserved c = search raising_more

pub returns : goal.returns
returns c = search raising_done
