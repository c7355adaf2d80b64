use Rattle.statements.proofs.Listed.{if_start, if_more, if_done, if_refused, if_none}
use Rattle.statements.proofs.declare_names.Goals as goal

pub loop-left-init : goal.loop-left-init
loop-left-init c = search if_start

pub loop-left-preserved : goal.loop-left-preserved
loop-left-preserved c = search if_more

pub returns-then-not-is_sign : goal.returns-then-not-is_sign
returns-then-not-is_sign c = search if_done

pub returns-in-Err : goal.returns-in-Err
returns-in-Err c = search if_refused

pub returns : goal.returns
returns c = search if_none
