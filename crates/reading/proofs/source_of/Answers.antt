-- Each field.
use Rattle.reading.proofs.Turning.{source_is}
use Rattle.reading.proofs.source_of.Goals as goal

pub returns : goal.returns
returns c = search source_is
