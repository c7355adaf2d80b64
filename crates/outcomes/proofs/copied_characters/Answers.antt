-- If it fits.
use Rattle.outcomes.proofs.Copying.{slot_work, slot_text, slot_full}
use Rattle.outcomes.proofs.copied_characters.Goals as goal

pub returns-then-d : goal.returns-then-d
returns-then-d c = search slot_work

pub returns-then-may_put : goal.returns-then-may_put
returns-then-may_put c = search slot_text

pub returns : goal.returns
returns c = search slot_full
