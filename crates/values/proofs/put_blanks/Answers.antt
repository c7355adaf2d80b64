use Rattle.values.proofs.Written.{blanking_start, blanking_more, blanking_done}
use Rattle.values.proofs.put_blanks.Goals as goal

pub loop-j-init : goal.loop-j-init
loop-j-init c = blanking_start _ _ _

pub loop-j-preserved : goal.loop-j-preserved
loop-j-preserved c = search blanking_more

pub returns : goal.returns
returns c = search blanking_done
