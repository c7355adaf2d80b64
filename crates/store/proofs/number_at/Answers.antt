-- The stored number tells the value.
use Rattle.store.proofs.Laws.{number_is}
use Rattle.store.proofs.number_at.Goals as goal

pub returns : goal.returns
returns c = number_is _ _ _ _ c.from_stored.result _ c.from.ensures c.number32.ensures c.from_stored.ensures c.ok.ensures.value
