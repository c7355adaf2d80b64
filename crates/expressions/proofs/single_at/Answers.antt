-- The sign stands there, or not.
use Rattle.expressions.proofs.Laws.{single_there, single_not_there}
use Rattle.expressions.proofs.single_at.Goals as goal

pub returns-then-is_sign : goal.returns-then-is_sign
returns-then-is_sign c = search single_there

pub returns : goal.returns
returns c = search single_not_there
