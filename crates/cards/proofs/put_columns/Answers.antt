use Rattle.cards.proofs.Laws.{cards_start, cards_more, cards_done}
use Rattle.cards.proofs.put_columns.Goals as goal

pub loop-j-init : goal.loop-j-init
loop-j-init c = search cards_start

pub loop-j-preserved : goal.loop-j-preserved
loop-j-preserved c = cards_more _ _ _ _ _ _ _ _ _ c.loop-j.invariant _ c.loop-j-test.true c.copy.ensures

pub returns : goal.returns
returns c = search cards_done
