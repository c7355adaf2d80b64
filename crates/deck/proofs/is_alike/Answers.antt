-- The names of a line stand one behind the other.
use Rattle.deck.proofs.Laws.{names_fit, alike}
use Rattle.deck.proofs.is_alike.Goals as goal

pub overflow_add-library_length : goal.overflow_add-library_length
overflow_add-library_length c = search names_fit

pub returns : goal.returns
returns c = search alike
