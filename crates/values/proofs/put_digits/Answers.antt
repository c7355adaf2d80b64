use Rattle.values.proofs.Written.{putting_start, putting_more, putting_done, base_some}
use Rattle.values.proofs.put_digits.Goals as goal

pub loop-j-init : goal.loop-j-init
loop-j-init c = putting_start _ _ _ _ _

pub nonzero_div-rest : goal.nonzero_div-rest
nonzero_div-rest c = base_some c.args.base _ c.base_number-rest.ensures

pub loop-j-preserved : goal.loop-j-preserved
loop-j-preserved c = search putting_more

pub returns : goal.returns
returns c = search putting_done
