use Rattle.std.proofs.Common.{rules}
use Rattle.operands.proofs.Prefixing.{signing_start, signing_more, signing_full, signing_stop, signing_end}
use Rattle.operands.proofs.signs_from.Goals as goal

pub loop-i-init : goal.loop-i-init
loop-i-init c = search (rules, signing_start)

pub returns-then-is_behind : goal.returns-then-is_behind
returns-then-is_behind c = search signing_full

pub returns-in_default : goal.returns-in_default
returns-in_default c = search signing_stop

pub loop-i-preserved : goal.loop-i-preserved
loop-i-preserved c = search signing_more

pub returns : goal.returns
returns c = search signing_end
