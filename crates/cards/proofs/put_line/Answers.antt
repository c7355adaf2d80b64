-- The names, the offset and the size, one behind the other.
use Rattle.deck.proofs.Laws.{offset_fits, size_fits, names_fit}
use Rattle.cards.proofs.Laws.{line_put}
use Rattle.cards.proofs.put_line.Goals as goal

pub overflow_add-library_length : goal.overflow_add-library_length
overflow_add-library_length c = search names_fit

pub overflow_add-name : goal.overflow_add-name
overflow_add-name c = search offset_fits

pub overflow_add-name-2 : goal.overflow_add-name-2
overflow_add-name-2 c = search size_fits

pub returns : goal.returns
returns c = search line_put
