-- One law for each way out.
use Rattle.operands.proofs.Taking.{wish_first, wish_some, wish_wrong, wish_number}
use Rattle.operands.proofs.wish_for.Goals as goal

pub returns-then-i-lt1 : goal.returns-then-i-lt1
returns-then-i-lt1 c = search wish_first

pub returns-in-Some : goal.returns-in-Some
returns-in-Some c = search wish_some

pub returns-in-None : goal.returns-in-None
returns-in-None c = search wish_wrong

pub returns-else-i-lt1 : goal.returns-else-i-lt1
returns-else-i-lt1 c = search wish_number
