-- A limit, and its side.
use Rattle.flow.proofs.Steps.{passes_down, passes_up, passes_none}
use Rattle.flow.proofs.passes.Goals as goal

pub returns-then-is_down : goal.returns-then-is_down
returns-then-is_down c = search passes_down

pub returns : goal.returns
returns c = search passes_up

pub returns-in_default : goal.returns-in_default
returns-in_default c = search passes_none
