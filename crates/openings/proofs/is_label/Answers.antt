use Rattle.openings.proofs.Labelling.{seeking_start, seeking_more, seeking_found, seeking_none, seeking_over}
use Rattle.openings.proofs.is_label.Goals as goal

pub loop-left-init : goal.loop-left-init
loop-left-init c = search seeking_start

pub returns-then-is_named_alike : goal.returns-then-is_named_alike
returns-then-is_named_alike c = search seeking_found

pub loop-left-preserved : goal.loop-left-preserved
loop-left-preserved c = search seeking_more

pub returns-in-None : goal.returns-in-None
returns-in-None c = search seeking_none

pub returns : goal.returns
returns c = search seeking_over
