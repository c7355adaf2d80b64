-- A word that is no label and no target.
use Rattle.openings.proofs.Laws.{decided_equals, decided_rest}
use Rattle.openings.proofs.is_decided.Goals as goal

pub returns-then-not-is_sign : goal.returns-then-not-is_sign
returns-then-not-is_sign c = search decided_rest

pub returns-else-not-is_sign : goal.returns-else-not-is_sign
returns-else-not-is_sign c = search decided_equals
