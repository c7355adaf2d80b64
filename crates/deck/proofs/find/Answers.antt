use Rattle.deck.proofs.Laws.{finding_start, finding_more, finding_here, finding_none}
use Rattle.deck.proofs.find.Goals as goal

pub loop-k-init : goal.loop-k-init
loop-k-init c = search finding_start

pub returns-then-is_called : goal.returns-then-is_called
returns-then-is_called c = search finding_here

pub loop-k-preserved : goal.loop-k-preserved
loop-k-preserved c = search finding_more

pub returns : goal.returns
returns c = search finding_none
