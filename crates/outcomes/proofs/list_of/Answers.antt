-- Where the text lies in its room, or not.
use Rattle.outcomes.proofs.Cutting.{list_in, list_out}
use Rattle.outcomes.proofs.list_of.Goals as goal

pub returns : goal.returns
returns c = list_in _ _ _ _ _ _ c.in_ok-t.ensures c.list_at.ensures

pub returns-in_err-t : goal.returns-in_err-t
returns-in_err-t c = rw c.from_residual.ensures (list_out _ _ _ _ _ c.in_err-t.ensures)
