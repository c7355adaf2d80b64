-- A word that is a label.
use Rattle.openings.proofs.Ends.{may_name_word, may_name_none}
use Rattle.openings.proofs.may_name.Goals as goal

pub returns-then-is_word_kind : goal.returns-then-is_word_kind
returns-then-is_word_kind c = search may_name_word

pub returns-else-is_word_kind : goal.returns-else-is_word_kind
returns-else-is_word_kind c = search may_name_none
