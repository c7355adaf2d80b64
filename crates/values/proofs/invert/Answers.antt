use Rattle.values.proofs.Bits.{filling_start, inverting_more, inverting_done}
use Rattle.values.proofs.invert.Goals as goal

pub loop-j-init : goal.loop-j-init
loop-j-init c = filling_start _ _ _

pub loop-j-preserved : goal.loop-j-preserved
loop-j-preserved c = search inverting_more

pub returns : goal.returns
returns c = search inverting_done
