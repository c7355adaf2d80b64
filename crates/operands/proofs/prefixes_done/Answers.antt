-- By the answer.
use Rattle.std.proofs.lemmas.Result.{err_from_is_err_and}
use Rattle.operands.proofs.Prefixing.{prefixes_some, prefixes_none}
use Rattle.operands.proofs.prefixes_done.Goals as goal

pub returns-in_err-v : goal.returns-in_err-v
returns-in_err-v c = let p = err_from_is_err_and c.from_residual.result c.from_residual.ensures.1 in rw (p.1, p.2) (prefixes_none _ _ _ _ _ _ _ c.in_err-v.was)

pub returns : goal.returns
returns c = let e = c.in_ok-v.was in search prefixes_some
