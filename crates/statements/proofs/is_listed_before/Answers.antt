use Rattle.statements.proofs.Heads.{before_start, before_end, before_own, before_there, before_more}
use Rattle.statements.proofs.is_listed_before.Goals as goal

pub loop-left-init : goal.loop-left-init
loop-left-init c = before_start _ _ _ _

pub returns-then-x-t : goal.returns-then-x-t
returns-then-x-t c = search before_own

pub returns-then-is_spelled_as : goal.returns-then-is_spelled_as
returns-then-is_spelled_as c = search before_there

pub loop-left-preserved : goal.loop-left-preserved
loop-left-preserved c = search before_more

pub returns : goal.returns
returns c = search before_end
