-- By the test against the limit.
use borrow.Author.Tests.{le-leb, lt-leb}
use Rattle.limits.proofs.Value.of.Goals as goal

pub returns-then-length-le-LONGEST : goal.returns-then-length-le-LONGEST
returns-then-length-le-LONGEST c = rw (le-leb _ _ c.if-length-le-LONGEST.true)

pub returns-else-length-le-LONGEST : goal.returns-else-length-le-LONGEST
returns-else-length-le-LONGEST c = rw (lt-leb _ _ c.if-length-le-LONGEST.false)
