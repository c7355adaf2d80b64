-- A comma follows, or not.
use Rattle.callees.proofs.Listing.{last_is}
use Rattle.callees.proofs.is_last.Goals as goal

pub returns : goal.returns
returns c = search last_is
