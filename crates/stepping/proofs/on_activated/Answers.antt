-- By the answer.
use Rattle.stepping.proofs.Leading.{activated_good, activated_bad}
use Rattle.stepping.proofs.on_activated.Goals as goal

pub returns-then-is_good : goal.returns-then-is_good
returns-then-is_good c = search activated_good

pub returns : goal.returns
returns c = search activated_bad
