use Rattle.flow.proofs.Steps.{going_done, going_out, going_not, going_up}
use Rattle.flow.proofs.may_go.Goals as goal

pub returns-in_default : goal.returns-in_default
returns-in_default c = search going_out

pub loop-preserved : goal.loop-preserved
loop-preserved c = search going_up

pub returns-then-not-may_be_around : goal.returns-then-not-may_be_around
returns-then-not-may_be_around c = search going_not

pub returns : goal.returns
returns c = search going_done
