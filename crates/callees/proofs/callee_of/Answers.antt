-- No body, one with a list, one without.
use Rattle.callees.proofs.Listing.{callee_none, callee_some, callee_plain}
use Rattle.callees.proofs.callee_of.Goals as goal

pub returns-then-is_sign : goal.returns-then-is_sign
returns-then-is_sign c = search callee_some

pub returns-in_default : goal.returns-in_default
returns-in_default c = callee_none _ _ _ _ _ _ c.in_default.not-Some

pub returns : goal.returns
returns c = search callee_plain
