-- The word is there, or not.
use Rattle.activating.proofs.Walks.{activity_given, copied_there, copied_absent}
use Rattle.activating.proofs.activity_at.Goals as goal

pub returns-then-is_word : goal.returns-then-is_word
returns-then-is_word c = search copied_there

pub returns-in-Plainly : goal.returns-in-Plainly
returns-in-Plainly c = search activity_given

pub returns-else-is_word : goal.returns-else-is_word
returns-else-is_word c = search copied_absent
