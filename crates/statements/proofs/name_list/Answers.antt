use Rattle.std.proofs.lemmas.Result.{err_from_is_err_and}
use Rattle.statements.proofs.Laws.{listing_start, listing_more, listing_done, listing_refused, listing_end}
use Rattle.statements.proofs.name_list.Goals as goal

pub loop-left-init : goal.loop-left-init
loop-left-init c = listing_start _ _ _ _

pub loop-left-preserved : goal.loop-left-preserved
loop-left-preserved c = let w = c.in_ok-q.was in search listing_more

pub returns-then-not-is_sign : goal.returns-then-not-is_sign
returns-then-not-is_sign c = let w = c.in_ok-q.was in search listing_done

pub returns-in_err-q : goal.returns-in_err-q
returns-in_err-q c =
    let p = err_from_is_err_and c.from_residual.result c.from_residual.ensures.1 in
    let w = c.in_err-q.was in
    rw (p.1, p.2) (search listing_refused)

pub returns : goal.returns
returns c = search listing_end
