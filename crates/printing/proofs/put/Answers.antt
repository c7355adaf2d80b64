-- One byte.
use Rattle.printing.proofs.Laws.{put_one}
use Rattle.printing.proofs.put.Goals as goal

pub returns : goal.returns
returns c = search put_one
