-- The member's number is a byte.
use Rattle.definition.specs.Events.{blank}
use Rattle.texts.proofs.Putting.{event_put}
use Rattle.texts.proofs.blank_out.Goals as goal

pub returns : goal.returns
returns c = event_put _ _ _ _ _ _ _ _ _ _ _ _ c.member8.ensures c.put_result.ensures (λ m. blank m c.args.place) c.tell_blank-p.ensures
