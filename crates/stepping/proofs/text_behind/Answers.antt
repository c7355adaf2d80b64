-- The text of a row of a list, or none.
use Rattle.stepping.proofs.Walking.{behind_text, behind_no_text}
use Rattle.stepping.proofs.text_behind.Goals as goal

pub returns-in-Listed : goal.returns-in-Listed
returns-in-Listed c = behind_text _ _ _ _ _ _ _ _ _ _ _ _ _ _ _ c.row_at-r.ensures c.in-Listed.is _ _ _ _ _ _ _ c.text_out.ensures

pub returns-in-ThenPart : goal.returns-in-ThenPart
returns-in-ThenPart c = behind_no_text _ _ _ _ _ _ _ _ _ _ _ _ _ _ _ c.row_at-r.ensures c.in-ThenPart.is
