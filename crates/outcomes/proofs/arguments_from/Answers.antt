use Rattle.outcomes.proofs.Cutting.{counting_start, counting_more, counting_close, counting_open, counting_end}
use Rattle.outcomes.proofs.arguments_from.Goals as goal

pub loop-n-init : goal.loop-n-init
loop-n-init c = counting_start _ _

pub loop-n-preserved : goal.loop-n-preserved
loop-n-preserved c = search counting_more

pub returns-in-Close : goal.returns-in-Close
returns-in-Close c = search counting_close

pub returns-in-Open : goal.returns-in-Open
returns-in-Open c = search counting_open

pub returns : goal.returns
returns c = search counting_end
