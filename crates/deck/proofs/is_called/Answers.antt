-- By the member's name, or by both.
use Rattle.deck.proofs.Laws.{called_bare, called_pair}
use Rattle.deck.proofs.is_called.Goals as goal

pub returns-in-Bare : goal.returns-in-Bare
returns-in-Bare c = search called_bare

pub returns-then-is_in_library : goal.returns-then-is_in_library
returns-then-is_in_library c = search called_pair
