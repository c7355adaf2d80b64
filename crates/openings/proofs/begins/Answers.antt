-- A word or a semicolon.
use Rattle.openings.proofs.Words.{begins_word, begins_sign}
use Rattle.openings.proofs.begins.Goals as goal

pub returns-then-is_word_kind : goal.returns-then-is_word_kind
returns-then-is_word_kind c = search begins_word

pub returns-else-is_word_kind : goal.returns-else-is_word_kind
returns-else-is_word_kind c = search begins_sign
