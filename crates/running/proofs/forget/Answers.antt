use Rattle.running.proofs.Values.{forget_start, forget_more, forget_done}
use Rattle.running.proofs.forget.Goals as goal

pub loop-a-init : goal.loop-a-init
loop-a-init c = forget_start _ _ _

pub loop-a-preserved : goal.loop-a-preserved
loop-a-preserved c = search forget_more

pub returns : goal.returns
returns c = search forget_done
