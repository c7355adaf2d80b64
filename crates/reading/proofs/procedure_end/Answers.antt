-- A label that is too long, END, or another word.
use Rattle.reading.proofs.Closing.{body_long, body_end, body_other}
use Rattle.reading.proofs.procedure_end.Goals as goal

pub returns-then-is_word : goal.returns-then-is_word
returns-then-is_word c = search (body_long, body_end, body_other)

pub returns-in-Some : goal.returns-in-Some
returns-in-Some c = search (body_long, body_end, body_other)

pub returns-else-is_word : goal.returns-else-is_word
returns-else-is_word c = search (body_long, body_end, body_other)
