use Rattle.std.proofs.Common.{rules}
use Rattle.callees.proofs.Storing.{storing_start, storing_more, storing_wrong, storing_done}
use Rattle.callees.proofs.store_all.Goals as goal

pub loop-i-init : goal.loop-i-init
loop-i-init c = search (rules, storing_start)

pub returns-in_default : goal.returns-in_default
returns-in_default c = search storing_wrong

pub loop-i-preserved : goal.loop-i-preserved
loop-i-preserved c = search storing_more

pub returns : goal.returns
returns c = search storing_done
