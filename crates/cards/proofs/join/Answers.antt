-- The count, the contents and the bodies, one behind the other.
use Rattle.cards.proofs.Laws.{joins}
use Rattle.cards.proofs.join.Goals as goal

pub returns : goal.returns
returns c = search joins
