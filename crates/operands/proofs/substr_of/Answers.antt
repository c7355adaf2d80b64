-- One law for each way out.
use Rattle.operands.proofs.Aiming.{substr_two, substr_three}
use Rattle.operands.proofs.substr_of.Goals as goal

pub returns-then-n-lt3 : goal.returns-then-n-lt3
returns-then-n-lt3 c = search substr_two

pub returns : goal.returns
returns c = search substr_three
