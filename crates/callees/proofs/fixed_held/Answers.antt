-- A number, or 0.
use Rattle.callees.proofs.Storing.{fixed_or_zero}
use Rattle.callees.proofs.fixed_held.Goals as goal

pub returns : goal.returns
returns c = search fixed_or_zero
