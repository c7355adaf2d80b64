-- By the room that is left.
use Rattle.std.proofs.Common.{arith, sym, ◌∙◌}
use borrow.Author.Tests.{leb-true, leb-false, not-true, not-false}
use Rattle.outcomes.proofs.Putting.{may_past, may_over, may_work, may_text}
use Rattle.outcomes.proofs.may_put.Goals as goal
use Rattle.outcomes.proofs.may_put.Goals.{then-k-d, else-k-d}

pub returns-then-not-d : goal.returns-then-not-d
returns-then-not-d c = elim c.if-k-d.branch [
  | then-k-d w ↦ c.if-not-d.true ∙ may_text _ _ _ _ w.if-k-d.true (leb-true _ _ (sym w.value-is ∙ c.if-n-d.true)) (not-true _ c.if-not-d.true)
  | else-k-d w ↦ absurd (omega (arith, w.if-k-d.false, leb-true _ _ (sym w.value-is ∙ c.if-n-d.true)))
]

pub returns-else-not-d : goal.returns-else-not-d
returns-else-not-d c = elim c.if-k-d.branch [
  | then-k-d w ↦ may_work _ _ _ _ _ _ w.if-k-d.true (leb-true _ _ (sym w.value-is ∙ c.if-n-d.true)) (not-false _ c.if-not-d.false) c.sum.ensures c.fits.ensures
  | else-k-d w ↦ absurd (omega (arith, w.if-k-d.false, leb-true _ _ (sym w.value-is ∙ c.if-n-d.true)))
]

pub returns-else-n-d : goal.returns-else-n-d
returns-else-n-d c = elim c.if-k-d.branch [
  | then-k-d w ↦ c.if-n-d.false ∙ may_over _ c.args.u _ _ w.if-k-d.true (leb-false _ _ (sym w.value-is ∙ c.if-n-d.false))
  | else-k-d w ↦ c.if-n-d.false ∙ may_past _ c.args.u _ c.args.n w.if-k-d.false
]
