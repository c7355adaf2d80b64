-- By what the name means.
use Rattle.operands.proofs.Leaves.{plain_variable, plain_wrong, plain_substr}
use Rattle.operands.proofs.plain_value.Goals as goal

pub returns-in-AVariable : goal.returns-in-AVariable
returns-in-AVariable c = search plain_variable

pub returns-in-AnEntry : goal.returns-in-AnEntry
returns-in-AnEntry c = search plain_wrong

pub returns-in-TheSubstr : goal.returns-in-TheSubstr
returns-in-TheSubstr c = search plain_substr
