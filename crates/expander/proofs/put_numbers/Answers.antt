-- One number after the other.
use Rattle.expander.proofs.Laws.{six_put}
use Rattle.expander.proofs.put_numbers.Goals as goal

pub returns : goal.returns
returns c = six_put c.args.x c.args.numbers.now _ _ _ _ _ _ c.put_number32.ensures c.put_number32-2.ensures c.put_number32-3.ensures c.put_number32-4.ensures c.put_number32-5.ensures c.put_number32-6.ensures
