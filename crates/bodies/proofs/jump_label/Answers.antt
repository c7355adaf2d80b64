-- Local names, then global ones.
use Rattle.bodies.proofs.Jumping.{local_known, global_known, neither_known}
use Rattle.bodies.proofs.jump_label.Goals as goal

pub returns-in-Some : goal.returns-in-Some
returns-in-Some c = search local_known

pub returns-in-Some-find : goal.returns-in-Some-find
returns-in-Some-find c = search global_known

pub returns-in-None-find : goal.returns-in-None-find
returns-in-None-find c = search neither_known
