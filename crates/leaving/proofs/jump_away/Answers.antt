-- One law for each way out.
use Rattle.leaving.proofs.Leaving.{away_may, away_not, away_none}
use Rattle.leaving.proofs.jump_away.Goals as goal

pub returns-then-may_go : goal.returns-then-may_go
returns-then-may_go c = search away_may

pub returns : goal.returns
returns c = search away_not

pub returns-in_default : goal.returns-in_default
returns-in_default c = search away_none
