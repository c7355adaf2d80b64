-- One number behind the other.
use Rattle.printing.proofs.Laws.{numbers_put}
use Rattle.printing.proofs.put_numbers.Goals as goal

pub returns : goal.returns
returns c = search numbers_put
