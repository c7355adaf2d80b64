-- Room is made for the bits of a number.
use Rattle.operators.proofs.Bitwise.{first_number, first_out, first_has}
use Rattle.operators.proofs.first_bits.Goals as goal

pub returns-then-fits : goal.returns-then-fits
returns-then-fits c = search first_number

pub returns-else-fits : goal.returns-else-fits
returns-else-fits c = search first_out

pub returns-in-Characters : goal.returns-in-Characters
returns-in-Characters c = search first_has
