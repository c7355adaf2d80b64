use Rattle.sums.proofs.Laws.{sum_is}
use Rattle.sums.proofs.sum32.Goals as goal

pub returns : goal.returns
returns c = search sum_is
