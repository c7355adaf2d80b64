-- Behind the library's name.
use Rattle.deck.proofs.Laws.{place_fits}
use Rattle.deck.proofs.name_place.Goals as goal

pub overflow_add-result : goal.overflow_add-result
overflow_add-result c = search place_fits
