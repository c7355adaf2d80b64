use Rattle.deck.proofs.Laws.{naming_start, naming_more, naming_no, naming_done}
use Rattle.deck.proofs.are_named.Goals as goal

pub loop-k-init : goal.loop-k-init
loop-k-init c = naming_start _ _

pub loop-k-preserved : goal.loop-k-preserved
loop-k-preserved c = search naming_more

pub returns-then-not-is_named : goal.returns-then-not-is_named
returns-then-not-is_named c = search naming_no

pub returns : goal.returns
returns c = search naming_done
