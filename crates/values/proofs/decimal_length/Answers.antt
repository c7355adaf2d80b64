use Rattle.values.proofs.Written.{counting_start, counting_stop, counting_more, counting_done}
use Rattle.values.proofs.decimal_length.Goals as goal

pub loop-k-init : goal.loop-k-init
loop-k-init c = counting_start _

pub returns-then-rest-lt10 : goal.returns-then-rest-lt10
returns-then-rest-lt10 c = search counting_stop

pub loop-k-preserved : goal.loop-k-preserved
loop-k-preserved c = search counting_more

pub returns : goal.returns
returns c = search counting_done
