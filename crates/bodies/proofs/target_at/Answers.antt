-- By what the name means.
use Rattle.bodies.proofs.Doing.{target_variable, target_none}
use Rattle.bodies.proofs.target_at.Goals as goal

pub returns-in-AVariable : goal.returns-in-AVariable
returns-in-AVariable c = search target_variable

pub returns-in-AnEntry : goal.returns-in-AnEntry
returns-in-AnEntry c = search target_none
