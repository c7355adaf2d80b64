use Rattle.sums.proofs.Laws.{sum_is}
use Rattle.sums.proofs.sum.Goals as goal

pub returns : goal.returns
returns c = search sum_is
