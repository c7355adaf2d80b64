use Rattle.std.proofs.Common.{rules}
use Rattle.cards.proofs.Laws.{lining_start, lining_more, lining_done}
use Rattle.cards.proofs.put_lines.Goals as goal

pub loop-k-init : goal.loop-k-init
loop-k-init c = search lining_start

pub loop-k-preserved : goal.loop-k-preserved
loop-k-preserved c = lining_more _ _ _ _ _ _ c.loop-k.invariant _ _ c.loop-k-test.true (search rules) c.put_line.ensures c.joined_size.ensures

pub returns : goal.returns
returns c = search lining_done
