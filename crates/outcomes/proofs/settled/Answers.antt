-- By the answer and the room.
use Rattle.std.proofs.lemmas.Result.{err_from_is_err_and}
use Rattle.outcomes.proofs.Putting.{settled_down, settled_there, settled_bad}
use Rattle.outcomes.proofs.settled.Goals as goal

pub returns-then-d : goal.returns-then-d
returns-then-d c = let w = c.in_ok-k.was in search settled_down

pub returns-else-d : goal.returns-else-d
returns-else-d c = let w = c.in_ok-k.was in search settled_there

pub returns-in_err-k : goal.returns-in_err-k
returns-in_err-k c =
    let p = err_from_is_err_and c.from_residual.result c.from_residual.ensures.1 in
    rw (p.1, p.2) (settled_bad _ _ _ _ _ _ _ c.in_err-k.was)
