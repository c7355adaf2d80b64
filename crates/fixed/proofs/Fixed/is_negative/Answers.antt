-- `Fixed::is_negative` meets its contract.
use Rattle.std.proofs.Common.{rules}
use Rattle.fixed.proofs.Magnitude.{below_zero}
use Rattle.fixed.proofs.Fixed.is_negative.Goals as goal

pub returns : goal.returns
returns c = search (rules, below_zero)
