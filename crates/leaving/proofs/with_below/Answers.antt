-- One more, where there is a slot.
use Rattle.std.proofs.Common.{rules}
use Rattle.leaving.proofs.Standing.{with_one, with_none}
use Rattle.leaving.proofs.with_below.Goals as goal

pub returns-then-n-lt16 : goal.returns-then-n-lt16
returns-then-n-lt16 c = search (rules, with_one)

pub returns-else-n-lt16 : goal.returns-else-n-lt16
returns-else-n-lt16 c = search with_none
