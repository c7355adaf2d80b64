-- A word and a colon.
use Rattle.openings.proofs.Laws.{a_label, not_label, no_label}
use Rattle.openings.proofs.label_at.Goals as goal

pub returns-then-is_sign : goal.returns-then-is_sign
returns-then-is_sign c = search a_label

pub returns-else-is_sign : goal.returns-else-is_sign
returns-else-is_sign c = search not_label

pub returns-else-is_word_kind : goal.returns-else-is_word_kind
returns-else-is_word_kind c = search no_label
