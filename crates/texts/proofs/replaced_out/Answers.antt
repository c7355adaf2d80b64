-- The outcome fits what is left.
use Rattle.texts.proofs.Putting.{line_put}
use Rattle.texts.proofs.replaced_out.Goals as goal

pub returns : goal.returns
returns c = line_put _ _ _ _ _ _ _ _ _ _ _ _ c.member8.ensures c.size32.ensures c.with_out.ensures c.tell_replaced-after.ensures
