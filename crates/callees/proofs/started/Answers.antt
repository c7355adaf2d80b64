-- One more is running.
use Rattle.std.proofs.Common.{rules}
use Rattle.callees.proofs.Starting.{starts_none, starts_one, starts_past}
use Rattle.callees.proofs.started.Goals as goal

pub returns-then-g-eq0 : goal.returns-then-g-eq0
returns-then-g-eq0 c = search starts_none

pub returns-then-n-lt16 : goal.returns-then-n-lt16
returns-then-n-lt16 c = search (rules, starts_one)

pub returns-else-n-lt16 : goal.returns-else-n-lt16
returns-else-n-lt16 c = search (rules, starts_past)
