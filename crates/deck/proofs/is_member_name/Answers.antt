-- A letter, what a name goes on with, and blanks.
use Rattle.std.proofs.Common.{◌∙◌}
use Rattle.deck.proofs.Laws.{member_name, no_letter}
use Rattle.deck.proofs.is_member_name.Goals as goal

pub returns-then-is_letter : goal.returns-then-is_letter
returns-then-is_letter c = search member_name

pub returns-else-is_letter : goal.returns-else-is_letter
returns-else-is_letter c = c.if-is_letter.false ∙ search no_letter
