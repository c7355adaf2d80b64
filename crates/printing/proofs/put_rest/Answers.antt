use Rattle.std.proofs.Common.{rules}
use Rattle.printing.proofs.Laws.{wording_start, wording_room, wording_last, wording_more, wording_done}
use Rattle.printing.proofs.put_rest.Goals as goal

pub loop-j-init : goal.loop-j-init
loop-j-init c = wording_start _ _ _ _ _

pub put_after_blank-at-requires : goal.put_after_blank-at-requires
put_after_blank-at-requires c = search (rules, wording_room)

pub loop-j-preserved : goal.loop-j-preserved
loop-j-preserved c = search wording_more

pub put-requires : goal.put-requires
put-requires c = search (rules, wording_last)

pub returns : goal.returns
returns c = search wording_done
