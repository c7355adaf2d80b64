use Rattle.std.proofs.Common.{rules}
use Rattle.deck.proofs.Laws.{following_start, following_more, following_no, following_done}
use Rattle.deck.proofs.do_follow.Goals as goal

pub loop-k-init : goal.loop-k-init
loop-k-init c = search following_start

pub returns-then-offset-at : goal.returns-then-offset-at
returns-then-offset-at c = search following_no

pub loop-k-preserved : goal.loop-k-preserved
loop-k-preserved c = following_more c.args.d.now c.args.n c.loop-k.at c.loop-k.k c.loop-k.invariant c.offset.result c.size.result c.loop-k-test.true (search rules) c.offset.ensures c.size.ensures c.if-offset-at.false

pub returns : goal.returns
returns c = search following_done
