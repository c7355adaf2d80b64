-- Where lines have no libraries none is met.
use Rattle.std.proofs.Common.{◌∙◌}
use Rattle.deck.proofs.Laws.{in_library_lem, in_none}
use Rattle.deck.proofs.is_in_library.Goals as goal

pub returns-then-has_libraries : goal.returns-then-has_libraries
returns-then-has_libraries c = search in_library_lem

pub returns-else-has_libraries : goal.returns-else-has_libraries
returns-else-has_libraries c = c.if-has_libraries.false ∙ search in_none
