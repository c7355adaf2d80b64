-- One more than the length, or 0.
use Rattle.store.proofs.Laws.{length_is}
use Rattle.store.proofs.characters_at.Goals as goal

pub returns : goal.returns
returns c = search length_is
