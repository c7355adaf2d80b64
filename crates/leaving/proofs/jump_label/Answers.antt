-- Here, or in a member below.
use Rattle.leaving.proofs.Leaving.{label_may, label_not, label_away}
use Rattle.leaving.proofs.jump_label.Goals as goal

pub returns-then-may_go : goal.returns-then-may_go
returns-then-may_go c = search label_may

pub returns-then-p-member : goal.returns-then-p-member
returns-then-p-member c = search label_not

pub returns : goal.returns
returns c = search label_away
