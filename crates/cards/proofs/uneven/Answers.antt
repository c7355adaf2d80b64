use Rattle.cards.proofs.Laws.{looking_start, looking_more, looking_here, looking_none}
use Rattle.cards.proofs.uneven.Goals as goal

pub loop-k-init : goal.loop-k-init
loop-k-init c = search looking_start

pub returns-then-size-ne0 : goal.returns-then-size-ne0
returns-then-size-ne0 c = search looking_here

pub loop-k-preserved : goal.loop-k-preserved
loop-k-preserved c = search looking_more

pub returns : goal.returns
returns c = search looking_none
