-- By the case.
use Rattle.reading.proofs.Adding.{behind_everyone}
use Rattle.reading.proofs.behind.Goals as goal

pub returns-in-Everyone : goal.returns-in-Everyone
returns-in-Everyone c = search behind_everyone
