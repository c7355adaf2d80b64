use Rattle.openings.proofs.Stacked.{deep_start, deep_more, deep_done}
use Rattle.openings.proofs.depth.Goals as goal

pub loop-i-init : goal.loop-i-init
loop-i-init c = search deep_start

pub loop-i-preserved : goal.loop-i-preserved
loop-i-preserved c = search deep_more

pub returns : goal.returns
returns c = search deep_done
