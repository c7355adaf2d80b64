use Rattle.std.proofs.lemmas.Result.{err_from_is_err_and}
use Rattle.operands.proofs.Prefixing.{blocking_start, block_more, block_fails, block_done}
use Rattle.operands.proofs.with_block.Goals as goal

pub loop-i-init : goal.loop-i-init
loop-i-init c = blocking_start _ _ _ _ _

pub loop-i-preserved : goal.loop-i-preserved
loop-i-preserved c = let e = c.in_ok-x.was in search block_more

pub returns-in_err-x : goal.returns-in_err-x
returns-in_err-x c = let e = c.in_err-x.was in let p = err_from_is_err_and c.from_residual.result c.from_residual.ensures.1 in rw (p.1, p.2) (search block_fails)

pub returns : goal.returns
returns c = search block_done
