-- A text ends at a sentence, or at the end, or in what is open.
use Rattle.reading.proofs.Turning.{texted_finish, texted_percent, texted_short, texted_open}
use Rattle.reading.proofs.texted.Goals as goal

pub returns-then-st-le1 : goal.returns-then-st-le1
returns-then-st-le1 c = search texted_finish

pub returns-in-Percent : goal.returns-in-Percent
returns-in-Percent c = search texted_percent

pub returns-else-st-le1 : goal.returns-else-st-le1
returns-else-st-le1 c = search texted_short

pub returns-in-OpenAt : goal.returns-in-OpenAt
returns-in-OpenAt c = search texted_open
