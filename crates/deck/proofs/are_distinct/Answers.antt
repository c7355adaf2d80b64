use Rattle.deck.proofs.Laws.{differing_start, differing_more, differing_no, differing_done}
use Rattle.deck.proofs.are_distinct.Goals as goal

pub loop-k-init : goal.loop-k-init
loop-k-init c = differing_start _ _

pub returns-then-is_repeated : goal.returns-then-is_repeated
returns-then-is_repeated c = search differing_no

pub loop-k-preserved : goal.loop-k-preserved
loop-k-preserved c = search differing_more

pub returns : goal.returns
returns c = search differing_done
