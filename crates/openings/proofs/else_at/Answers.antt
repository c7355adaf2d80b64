-- Outside procedures behind `%`.
use Rattle.openings.proofs.Laws.{else_inside, else_percent, else_none}
use Rattle.openings.proofs.else_at.Goals as goal

pub returns-then-is_inside : goal.returns-then-is_inside
returns-then-is_inside c = search else_inside

pub returns-then-is_sign : goal.returns-then-is_sign
returns-then-is_sign c = search else_percent

pub returns : goal.returns
returns c = search else_none
