-- The member's number is a byte.
use Prim.Native.Nat.{◌-◌}
use Rattle.definition.specs.Lists.{part}
use Rattle.definition.specs.Events.{copied}
use Rattle.texts.proofs.Putting.{event_put}
use Rattle.texts.proofs.token_out.Goals as goal

pub returns : goal.returns
returns c = event_put _ _ _ _ _ _ _ _ _ _ _ _ c.member8.ensures c.put_result.ensures (λ m. copied m c.args.from (part (c.args.to - c.args.from) c.args.from c.args.s.now)) c.tell_copied-p.ensures
