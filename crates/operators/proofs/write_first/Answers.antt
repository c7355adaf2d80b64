-- The digits of a number, or nothing.
use Rattle.operators.proofs.Joining.{first_written, first_stays}
use Rattle.operators.proofs.write_first.Goals as goal

pub returns-in-Number : goal.returns-in-Number
returns-in-Number c = search first_written

pub returns-in_default : goal.returns-in_default
returns-in_default c = search first_stays
