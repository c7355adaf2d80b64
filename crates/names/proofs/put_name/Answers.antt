-- The eleven numbers, one part after the other.
use Rattle.names.proofs.Laws.{whole}
use Rattle.names.proofs.put_name.Goals as goal

pub returns : goal.returns
returns c = rw c.into.ensures at
    (whole _ _ _ _ _ _ _ _ _ _ _ _ _ _ c.record_place-at.ensures c.owner_numbers.ensures c.denotation_numbers.ensures c.put_numbers16.ensures c.put_numbers16-2.ensures c.put_numbers16-3.ensures c.put_number16.ensures)
