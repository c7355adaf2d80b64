use Rattle.rooms.proofs.Laws.{copied_start, copied_more, copied_all}
use Rattle.rooms.proofs.copy_each.Goals as goal

pub loop-j-init : goal.loop-j-init
loop-j-init c = copied_start _ _ _ _

pub loop-j-preserved : goal.loop-j-preserved
loop-j-preserved c = search copied_more

pub returns : goal.returns
returns c = search copied_all
