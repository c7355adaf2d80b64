-- `Fixed::wide` meets its contract: a number of 32 bits is itself at 64.
use Rattle.fixed.proofs.Laws.{wide_is}
use Rattle.fixed.proofs.Fixed.wide.Goals as goal

pub returns : goal.returns
returns c = search wide_is
