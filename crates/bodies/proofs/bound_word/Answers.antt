-- One test after the other.
use Rattle.bodies.proofs.Grouping.{word_by, word_upto, word_neither}
use Rattle.bodies.proofs.bound_word.Goals as goal

pub returns-then-is_word : goal.returns-then-is_word
returns-then-is_word c = search word_by

pub returns-then-is_word-2 : goal.returns-then-is_word-2
returns-then-is_word-2 c = search word_upto

pub returns : goal.returns
returns c = search word_neither
