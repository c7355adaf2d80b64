-- The comma is there, or not.
use Rattle.activating.proofs.Walks.{comma_there, comma_absent}
use Rattle.activating.proofs.behind_comma.Goals as goal

pub returns-then-is_sign : goal.returns-then-is_sign
returns-then-is_sign c = search comma_there

pub returns : goal.returns
returns c = search comma_absent
