-- By the attribute.
use Rattle.std.proofs.lemmas.Result.{err_from_is_err_and}
use Rattle.statements.proofs.Clauses.{itemized_means, itemized_missing, itemized_refused}
use Rattle.statements.proofs.item_means.Goals as goal

pub returns-in_err-e : goal.returns-in_err-e
returns-in_err-e c =
    let p = err_from_is_err_and c.from_residual.result c.from_residual.ensures.1 in
    let w = c.in_err-e.was in
    rw (p.1, p.2) (search itemized_refused)

pub returns : goal.returns
returns c = let w = c.in_ok-e.was in search itemized_means

pub returns-in_default : goal.returns-in_default
returns-in_default c = let w = c.in_ok-e.was in search itemized_missing
