use Rattle.std.proofs.lemmas.Result.{err_from_is_err_and}
use Rattle.operands.proofs.up_to.Goals as goal

pub returns-in_err-v : goal.returns-in_err-v
returns-in_err-v c = let p = err_from_is_err_and c.from_residual.result c.from_residual.ensures.1 in rw (p.1, p.2, c.in_err-v.was)

pub returns : goal.returns
returns c = rw c.in_ok-v.was
