use Rattle.expressions.proofs.Reading.{passing_start, passing_more, passing_stop, passing_end}
use Rattle.expressions.proofs.past_prefixes.Goals as goal

pub loop-count-init : goal.loop-count-init
loop-count-init c = passing_start _ _

pub loop-count-preserved : goal.loop-count-preserved
loop-count-preserved c = search passing_more

pub returns-in_default : goal.returns-in_default
returns-in_default c = search (passing_stop, c.in_default.not-Some)

pub returns : goal.returns
returns c = search passing_end
