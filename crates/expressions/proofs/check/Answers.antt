-- 6 levels, and all parentheses may still be opened.
use Rattle.expressions.proofs.Reading.{checked}
use Rattle.expressions.proofs.check.Goals as goal

pub returns : goal.returns
returns c = search checked
