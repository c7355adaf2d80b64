-- By its type, and whether there is a value.
use Rattle.callees.proofs.Storing.{variable_number, variable_none, variable_empty, variable_text}
use Rattle.callees.proofs.variable_value.Goals as goal

pub returns-in-Some : goal.returns-in-Some
returns-in-Some c = search variable_number

pub returns-in-None : goal.returns-in-None
returns-in-None c = search variable_none

pub returns-in-Some-characters_at : goal.returns-in-Some-characters_at
returns-in-Some-characters_at c = search variable_text

pub returns-in-None-characters_at : goal.returns-in-None-characters_at
returns-in-None-characters_at c = search variable_empty
