-- Six bytes are compared; others are no SUBSTR.
use Rattle.callees.proofs.Naming.{substr_six, substr_other}
use Rattle.callees.proofs.is_substr.Goals as goal

pub returns-then-n-eq6 : goal.returns-then-n-eq6
returns-then-n-eq6 c = search substr_six

pub returns-else-n-eq6 : goal.returns-else-n-eq6
returns-else-n-eq6 c = search substr_other
