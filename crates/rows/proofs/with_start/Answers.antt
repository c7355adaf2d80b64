-- Within the 32.
use Rattle.std.proofs.Common.{rules}
use Rattle.rows.proofs.Parting.{with_there}
use Rattle.rows.proofs.with_start.Goals as goal

pub returns-then-k-lt32 : goal.returns-then-k-lt32
returns-then-k-lt32 c = search (rules, with_there)
