-- If it fits.
use Rattle.outcomes.proofs.Copying.{number_work, number_text_lem, number_full}
use Rattle.outcomes.proofs.copied_number.Goals as goal

pub returns-then-d : goal.returns-then-d
returns-then-d c = search number_work

pub returns-then-may_put : goal.returns-then-may_put
returns-then-may_put c = search number_text_lem

pub returns : goal.returns
returns c = search number_full
