use Rattle.std.proofs.Common.{rules}
use Rattle.printing.proofs.Laws.{listing_start, listing_room, listing_more, listing_done}
use Rattle.printing.proofs.put_lines.Goals as goal

pub loop-i-init : goal.loop-i-init
loop-i-init c = listing_start _ _ _ _

pub put_line-at-requires : goal.put_line-at-requires
put_line-at-requires c = search (rules, listing_room)

pub loop-i-preserved : goal.loop-i-preserved
loop-i-preserved c = search listing_more

pub returns : goal.returns
returns c = search listing_done
