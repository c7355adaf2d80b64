-- Four bytes of the line.
use Rattle.deck.proofs.Laws.{offset_fits, offset_is}
use Rattle.deck.proofs.offset.Goals as goal

pub overflow_add-name_place : goal.overflow_add-name_place
overflow_add-name_place c = search offset_fits

pub returns : goal.returns
returns c = search offset_is
