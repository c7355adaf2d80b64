-- By what the address stands for.
use Rattle.bodies.proofs.Jumping.{label_local, label_global, label_other}
use Rattle.bodies.proofs.label_of.Goals as goal

pub returns-in_default : goal.returns-in_default
returns-in_default c = label_other _ _ _ _ c.name_at.ensures c.in_default.not-LabelName

pub returns-then-is_local : goal.returns-then-is_local
returns-then-is_local c = search label_local

pub returns : goal.returns
returns c = search label_global
