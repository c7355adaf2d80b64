-- The labels are entered.
use Rattle.reading.proofs.Closing.{ends_long}
use Rattle.reading.proofs.end_too_long.Goals as goal

pub returns : goal.returns
returns c = search ends_long
