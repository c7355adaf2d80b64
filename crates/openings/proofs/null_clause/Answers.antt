-- Nothing is read again.
use Rattle.openings.proofs.Words.{null_is}
use Rattle.openings.proofs.null_clause.Goals as goal

pub returns : goal.returns
returns c = search null_is
