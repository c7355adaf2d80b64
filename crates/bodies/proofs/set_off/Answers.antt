-- One law for each way out.
use Rattle.std.proofs.lemmas.Result.{err_from_is_err_and}
use Rattle.bodies.proofs.Grouping.{set_some, set_none}
use Rattle.bodies.proofs.set_off.Goals as goal

pub returns-in_err-f : goal.returns-in_err-f
returns-in_err-f c = let p = err_from_is_err_and c.from_residual.result c.from_residual.ensures.1 in rw (p.1, p.2) (set_none _ _ _ _ c.in_err-f.was)

pub returns : goal.returns
returns c = let e = c.in_ok-f.was in search set_some
