-- As many bytes, and the same.
use Rattle.statements.proofs.Heads.{spelled_so, spelled_not}
use Rattle.statements.proofs.is_spelled_as.Goals as goal

pub returns-then-width-n : goal.returns-then-width-n
returns-then-width-n c = search spelled_so

pub returns-else-width-n : goal.returns-else-width-n
returns-else-width-n c = search spelled_not
