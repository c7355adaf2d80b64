-- The stored number.
use Rattle.store.proofs.store_number.Goals as goal

pub returns : goal.returns
returns c = rw (c.stored.ensures, c.from.ensures) at c.put_number32.ensures
