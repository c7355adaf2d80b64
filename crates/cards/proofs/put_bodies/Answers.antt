use Rattle.std.proofs.Common.{rules}
use Rattle.cards.proofs.Laws.{joining_start, joining_more, joining_done}
use Rattle.cards.proofs.put_bodies.Goals as goal

pub loop-k-init : goal.loop-k-init
loop-k-init c = search joining_start

pub loop-k-preserved : goal.loop-k-preserved
loop-k-preserved c = joining_more _ _ _ _ _ _ c.loop-k.invariant _ _ _ _ c.loop-k-test.true (search rules) (search rules) c.offset.ensures c.records.ensures c.put_columns.ensures c.joined_size.ensures

pub returns : goal.returns
returns c = search joining_done
