-- The bytes of the name, and blanks after them.
use Rattle.std.proofs.Common.{◌∙◌}
use Rattle.deck.proofs.Laws.{too_long_lem, padded_as, padded_not}
use Rattle.deck.proofs.is_padded.Goals as goal

pub returns-then-w-gt-NAME : goal.returns-then-w-gt-NAME
returns-then-w-gt-NAME c = search too_long_lem

pub returns-then-is_one_name : goal.returns-then-is_one_name
returns-then-is_one_name c = search padded_as

pub returns-else-is_one_name : goal.returns-else-is_one_name
returns-else-is_one_name c = c.if-is_one_name.false ∙ search padded_not
