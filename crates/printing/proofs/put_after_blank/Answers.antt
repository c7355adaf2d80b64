-- The blank, then the number.
use Rattle.printing.proofs.Laws.{after_blank}
use Rattle.printing.proofs.put_after_blank.Goals as goal

pub returns : goal.returns
returns c = search after_blank
