use Rattle.statements.proofs.Heads.{twice_start, twice_end, twice_there, twice_more, twice_none}
use Rattle.statements.proofs.parameters.Goals as goal

pub loop-left-init : goal.loop-left-init
loop-left-init c = twice_start _ _

pub returns-then-is_listed_before : goal.returns-then-is_listed_before
returns-then-is_listed_before c = search twice_there

pub loop-left-preserved : goal.loop-left-preserved
loop-left-preserved c = search twice_more

pub returns-then-not-is_sign : goal.returns-then-not-is_sign
returns-then-not-is_sign c = search twice_none

pub returns : goal.returns
returns c = search twice_end
