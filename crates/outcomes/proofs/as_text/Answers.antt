-- By what is given, and by what becomes of it.
use Rattle.outcomes.proofs.Putting.{text_made, text_long, text_none}
use Rattle.outcomes.proofs.as_text.Goals as goal

pub returns-in-Ok-to_characters : goal.returns-in-Ok-to_characters
returns-in-Ok-to_characters c = search text_made

pub returns-in-Err-to_characters : goal.returns-in-Err-to_characters
returns-in-Err-to_characters c = search text_long

pub returns-in-Err : goal.returns-in-Err
returns-in-Err c = search text_none
