-- The digits of a number, or nothing.
use Rattle.operators.proofs.Joining.{digits_written, nothing_written}
use Rattle.operators.proofs.write_number.Goals as goal

pub returns-in-Number : goal.returns-in-Number
returns-in-Number c = search digits_written

pub returns-in_default : goal.returns-in_default
returns-in_default c = search nothing_written
