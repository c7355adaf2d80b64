-- In a procedure without `%`.
use Rattle.openings.proofs.Ends.{from_first, from_wrong, from_percent, from_none}
use Rattle.openings.proofs.alternative_from.Goals as goal

pub returns-then-begins : goal.returns-then-begins
returns-then-begins c = search from_first

pub returns-then-is_inside : goal.returns-then-is_inside
returns-then-is_inside c = search from_wrong

pub returns-then-is_sign : goal.returns-then-is_sign
returns-then-is_sign c = search from_percent

pub returns : goal.returns
returns c = search from_none
