-- With the names that were entered.
use Rattle.reading.proofs.Wording.{after_declares}
use Rattle.reading.proofs.after_declaring.Goals as goal

pub returns : goal.returns
returns c = search after_declares
