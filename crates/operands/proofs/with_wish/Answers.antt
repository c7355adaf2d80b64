-- One law for each way out.
use Rattle.std.proofs.lemmas.Result.{err_from_is_err_and}
use Rattle.operands.proofs.Taking.{wish_type, wish_subject, wish_none}
use Rattle.operands.proofs.with_wish.Goals as goal

pub returns-in_err-v : goal.returns-in_err-v
returns-in_err-v c = let p = err_from_is_err_and c.from_residual.result c.from_residual.ensures.1 in rw (p.1, p.2) (wish_none _ _ _ _ _ c.in_err-v.was)

pub returns-in-As : goal.returns-in-As
returns-in-As c = let e = c.in_ok-v.was in search wish_type

pub returns-in-AsSubject : goal.returns-in-AsSubject
returns-in-AsSubject c = let e = c.in_ok-v.was in search wish_subject
