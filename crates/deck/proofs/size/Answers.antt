-- Four bytes of the line.
use Rattle.deck.proofs.Laws.{size_fits, size_is}
use Rattle.deck.proofs.size.Goals as goal

pub overflow_add-name_place : goal.overflow_add-name_place
overflow_add-name_place c = search size_fits

pub returns : goal.returns
returns c = search size_is
