-- Blanks, then the sign, then what follows it.
use Rattle.values.proofs.Numbers.{blank_number, minus_number, plus_number, bare_number}
use Rattle.values.proofs.number_in.Goals as goal

pub returns-then-n-i : goal.returns-then-n-i
returns-then-n-i c = search blank_number

pub returns-in-45 : goal.returns-in-45
returns-in-45 c = search minus_number

pub returns-in-43 : goal.returns-in-43
returns-in-43 c = search plus_number

pub returns-in_default : goal.returns-in_default
returns-in_default c = search bare_number
