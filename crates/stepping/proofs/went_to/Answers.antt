-- By the member of the label.
use Rattle.stepping.proofs.Leading.{went_here, went_on}
use Rattle.stepping.proofs.went_to.Goals as goal

pub returns-then-l-here : goal.returns-then-l-here
returns-then-l-here c = search went_here

pub returns : goal.returns
returns c = search went_on
