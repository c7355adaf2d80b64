use Rattle.std.proofs.Common.{arith}
use Rattle.edges.proofs.Piecing.{piecing_start, piecing_end, piecing_more, piecing_full}
use Rattle.edges.proofs.put_pieces.Goals as goal

pub loop-at-init : goal.loop-at-init
loop-at-init c = piecing_start _ _ _ _ _ _ _

pub overflow_add-at : goal.overflow_add-at
overflow_add-at c = omega (arith, c.loop-at-test.true, c.piece-n.ensures.within c.loop-at-test.true)

pub loop-at-smaller : goal.loop-at-smaller
loop-at-smaller c = omega (arith, c.loop-at-test.true, c.piece-n.ensures.within c.loop-at-test.true, c.piece-n.ensures.some c.loop-at-test.true)

pub loop-at-preserved : goal.loop-at-preserved
loop-at-preserved c = piecing_more _ _ _ _ _ _ _ _ _ _ _ c.loop-at.invariant c.loop-at-test.true _ c.piece-n.ensures _ c.column.ensures _ _ _ c.put_copied.ensures _ c.in_ok-o.was c.put_copied.auto.text c.put_copied.auto.list

pub returns-in_err-o : goal.returns-in_err-o
returns-in_err-o c = rw c.from_residual.ensures (piecing_full _ _ _ _ _ _ _ _ _ _ _ c.loop-at.invariant c.loop-at-test.true _ c.piece-n.ensures _ c.column.ensures _ _ _ c.put_copied.ensures c.in_err-o.was)

pub returns : goal.returns
returns c = piecing_end _ _ _ _ _ _ _ _ _ _ _ c.loop-at.invariant c.loop-at-test.false
