-- A case for each value.
use Rattle.operators.proofs.Texts.{text_in_lem, text_out_lem, text_bytes}
use Rattle.operators.proofs.to_characters.Goals as goal

pub returns-then-fits : goal.returns-then-fits
returns-then-fits c = search text_in_lem

pub returns-else-fits : goal.returns-else-fits
returns-else-fits c = search text_out_lem

pub returns-in-Characters : goal.returns-in-Characters
returns-in-Characters c = search text_bytes
