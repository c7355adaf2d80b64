use Rattle.std.proofs.lemmas.Result.{err_from_is_err_and}
use Rattle.operands.proofs.Prefixing.{prefixing_start, prefixing_next, prefixing_stop, prefixing_done}
use Rattle.operands.proofs.with_prefixes.Goals as goal

pub loop-rest-init : goal.loop-rest-init
loop-rest-init c = prefixing_start _ _ _ _ _ _

pub loop-rest-preserved : goal.loop-rest-preserved
loop-rest-preserved c = let e = c.in_ok-x.was in search prefixing_next

pub returns-in_err-x : goal.returns-in_err-x
returns-in_err-x c = let e = c.in_err-x.was in let p = err_from_is_err_and c.from_residual.result c.from_residual.ensures.1 in rw (p.1, p.2) (search prefixing_stop)

pub returns : goal.returns
returns c = search prefixing_done
