-- Each place.
use Rattle.reading.proofs.Adding.{stretch_is}
use Rattle.reading.proofs.stretch.Goals as goal

pub returns : goal.returns
returns c = search stretch_is
