use Rattle.std.proofs.Common.{arith, ◌∙◌, ◌≡◌, ◌-◌, ◌+◌}
use Rattle.std.proofs.lemmas.Result.{err_from_is_err_and}
use Rattle.texts.proofs.Looping.{texting_start, texting_end, texting_out, texting_bad, texting_more}
use Rattle.texts.proofs.text_on.Goals as goal

pub loop-init : goal.loop-init
loop-init c = let e : c.sum-turns.result - 0 ≡ c.sum-turns.result = omega arith in rw e (texting_start _ _ _ _ _ _ _ _ _ _ _ _ _ _ _ c.less-size.ensures c.sum-turns.ensures)

pub returns-then-size-p : goal.returns-then-size-p
returns-then-size-p c = texting_end _ _ _ _ _ _ _ _ _ _ _ _ _ _ _ _ _ _ _ _ _ _ c.loop.invariant _ c.less-size.ensures c.if-size-p.true

pub loop-preserved : goal.loop-preserved
loop-preserved c = texting_more _ _ _ _ _ _ _ _ _ _ _ _ _ _ _ _ _ _ _ _ _ _ c.loop.invariant _ c.less-size.ensures c.if-size-p.false _ (omega (arith, c.loop-test.true)) _ _ _ _ _ _ _ c.token_here.ensures _ _ c.in_ok-q.was c.token_here.auto.cells c.token_here.auto.low c.token_here.auto.high c.token_here.auto.work c.token_here.auto.text c.token_here.auto.list

pub returns-in_err-q : goal.returns-in_err-q
returns-in_err-q c =
    let p = err_from_is_err_and c.from_residual.result c.from_residual.ensures.1 in
    rw (p.1, p.2) (texting_bad _ _ _ _ _ _ _ _ _ _ _ _ _ _ _ _ _ _ _ _ _ _ c.loop.invariant _ c.less-size.ensures c.if-size-p.false (c.sum-turns.result - (c.loop.counter + 1)) (omega (arith, c.loop-test.true)) _ _ _ _ _ _ _ c.token_here.ensures _ _ c.in_err-q.was)

pub returns : goal.returns
returns c = texting_out _ _ _ _ _ _ _ _ _ _ _ _ _ _ _ _ _ _ _ _ _ _ c.loop.invariant (omega (arith, c.loop-test.false))
