use Rattle.tokens.proofs.Laws.{passing_start, passing_more}
use Rattle.outcomes.proofs.Cutting.{blanks_stop, blanks_end}
use Rattle.outcomes.proofs.past_blanks.Goals as goal

pub loop-i-init : goal.loop-i-init
loop-i-init c = passing_start _ _ _

pub loop-i-preserved : goal.loop-i-preserved
loop-i-preserved c = search passing_more

pub returns-else-is_blank : goal.returns-else-is_blank
returns-else-is_blank c = search blanks_stop

pub returns-after-loop-i : goal.returns-after-loop-i
returns-after-loop-i c = search blanks_end
