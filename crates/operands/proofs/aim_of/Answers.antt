-- One law for each way out.
use Rattle.std.proofs.lemmas.Result.{err_from_is_err_and}
use Rattle.operands.proofs.Aiming.{aim_entry, aim_substr, aim_other, aim_fails, aim_wrong, aim_none}
use Rattle.operands.proofs.aim_of.Goals as goal

pub returns-else-y-n : goal.returns-else-y-n
returns-else-y-n c = let e = c.in_ok-y-in-AnEntry.was in search aim_entry

pub returns-then-y-n : goal.returns-then-y-n
returns-then-y-n c = let e = c.in_ok-y-in-AnEntry.was in search aim_other

pub returns-in_err-y-in-AnEntry : goal.returns-in_err-y-in-AnEntry
returns-in_err-y-in-AnEntry c = let e = c.in_err-y-in-AnEntry.was in let p = err_from_is_err_and c.from_residual.result c.from_residual.ensures.1 in rw (p.1, p.2) (search aim_fails)

pub returns-in-TheSubstr : goal.returns-in-TheSubstr
returns-in-TheSubstr c = search aim_substr

pub returns-in-TheSubstr-2 : goal.returns-in-TheSubstr-2
returns-in-TheSubstr-2 c = search aim_wrong

pub returns-in-AVariable : goal.returns-in-AVariable
returns-in-AVariable c = search aim_none
