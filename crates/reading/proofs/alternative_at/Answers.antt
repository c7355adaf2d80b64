-- An alternative: its clause, one too deep, or none.
use Rattle.reading.proofs.Turning.{alternative_clause, alternative_deep, alternative_wrong}
use Rattle.reading.proofs.alternative_at.Goals as goal

pub returns-then-depth-le-GROUPS : goal.returns-then-depth-le-GROUPS
returns-then-depth-le-GROUPS c = search alternative_clause

pub returns-else-depth-le-GROUPS : goal.returns-else-depth-le-GROUPS
returns-else-depth-le-GROUPS c = search alternative_deep

pub returns-in-None : goal.returns-in-None
returns-in-None c = search alternative_wrong
