-- The word is there and decided.
use Rattle.openings.proofs.Laws.{else_decided, else_open, no_else_word}
use Rattle.openings.proofs.else_word.Goals as goal
use Rattle.openings.proofs.else_word.Goals.{else-is_word-via-then-is_word+else-is_decided, else-is_word-via-else-is_word}

pub returns-then-is_decided : goal.returns-then-is_decided
returns-then-is_decided c = search else_decided

pub returns : goal.returns
returns c = elim c.else-is_word.branch [ else-is_word-via-then-is_word+else-is_decided w ↦ search else_open | else-is_word-via-else-is_word w ↦ search no_else_word ]
