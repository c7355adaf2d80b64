-- A parenthesis, or none.
use Rattle.outcomes.proofs.Cutting.{list_some, list_none}
use Rattle.outcomes.proofs.list_at.Goals as goal

pub returns-then-byte-eq40 : goal.returns-then-byte-eq40
returns-then-byte-eq40 c = search list_some

pub returns : goal.returns
returns c = search list_none
