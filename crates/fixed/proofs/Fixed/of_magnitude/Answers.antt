-- `Fixed::of_magnitude` meets its contract: at 64 bits the difference from 0 is exact.
use Rattle.std.proofs.Common.{ap, refl, ◌∙◌}
use lib.Dec.{lit<}
use lib.IntN.{+ℤ_idl}
use Rattle.definition.specs.Fixed.{ranged}
use Rattle.fixed.proofs.Laws.{unsigned_is, unsigned_fits, unsigned_read}
use Rattle.fixed.proofs.Fixed.of_magnitude.Goals as goal

pub overflow_sub-wide : goal.overflow_sub-wide
overflow_sub-wide c = unsigned_fits 0 _ (lit< tt) c.ranges.magnitude.fits refl c.from-wide.ensures

pub returns-then-negative : goal.returns-then-negative
returns-then-negative c = rw c.if-negative.true (c.of.ensures ∙ ap ranged (unsigned_read 0 _ (lit< tt) c.ranges.magnitude.fits refl c.from-wide.ensures ∙ +ℤ_idl _))

pub returns-else-negative : goal.returns-else-negative
returns-else-negative c = rw c.if-negative.false (c.of-else-negative.ensures ∙ ap ranged (unsigned_is _ c.ranges.magnitude.fits c.from-wide.ensures))
