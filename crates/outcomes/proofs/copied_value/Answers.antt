-- If it fits.
use Rattle.outcomes.proofs.Copying.{value_work, value_text, value_full}
use Rattle.outcomes.proofs.copied_value.Goals as goal

pub returns-then-d : goal.returns-then-d
returns-then-d c = search value_work

pub returns-then-may_put : goal.returns-then-may_put
returns-then-may_put c = search value_text

pub returns : goal.returns
returns c = search value_full
