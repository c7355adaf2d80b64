-- By the case.
use Rattle.openings.proofs.Laws.{end_end}
use Rattle.openings.proofs.end_of.Goals as goal

pub returns-in-AtEnd : goal.returns-in-AtEnd
returns-in-AtEnd c = search end_end
