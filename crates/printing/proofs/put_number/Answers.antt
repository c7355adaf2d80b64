-- Ten digits are enough.
use Rattle.printing.proofs.Laws.{number_put}
use Rattle.printing.proofs.put_number.Goals as goal

pub returns : goal.returns
returns c = search number_put
