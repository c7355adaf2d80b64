use Rattle.std.proofs.Common.{refl}
use Rattle.names.proofs.Laws.{search_start, search_more, search_here, search_none}
use Rattle.names.proofs.find.Goals as goal

pub loop-a-init : goal.loop-a-init
loop-a-init c = search_start _ _ _ _ _

pub returns-then-is_at : goal.returns-then-is_at
returns-then-is_at c = search_here _ _ _ _ _ _ c.loop-a.invariant _ c.is_at.result c.loop-a-test.true refl c.is_at.ensures c.if-is_at.true

pub loop-a-preserved : goal.loop-a-preserved
loop-a-preserved c = search_more _ _ _ _ _ _ c.loop-a.invariant _ c.is_at.result c.loop-a-test.true refl c.is_at.ensures c.if-is_at.false

pub returns : goal.returns
returns c = search_none _ _ _ _ _ _ c.loop-a.invariant c.loop-a-test.false
