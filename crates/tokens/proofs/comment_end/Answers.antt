use Rattle.tokens.proofs.Laws.{closing_start, closing_more, closing_here, closing_never}
use borrow.Author.Tests.{ne_eqb}
use Rattle.tokens.proofs.comment_end.Goals as goal
use Rattle.tokens.proofs.comment_end.Goals.{else-star-via-then-star+else-s-i-eq47, else-star-via-else-star}

pub loop-i-init : goal.loop-i-init
loop-i-init c = closing_start _ _

pub returns-then-s-i-eq47 : goal.returns-then-s-i-eq47
returns-then-s-i-eq47 c = search closing_here

pub loop-i-preserved : goal.loop-i-preserved
loop-i-preserved c =
    closing_more _ _ _ _ c.loop-i.invariant c.loop-i-test.true
    (elim c.else-star.branch [
      | else-star-via-then-star+else-s-i-eq47 w ↦ rw (w.if-star.true, ne_eqb _ _ w.if-s-i-eq47.false)
      | else-star-via-else-star w ↦ rw w.if-star.false
    ])

pub returns : goal.returns
returns c = search closing_never
