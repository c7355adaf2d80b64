-- `Fixed::of` meets its contract: what is in range fits 32 bits.
use mir.Facts.{to_z-of_z}
use Rattle.fixed.proofs.Laws.{range_fits, range_is, range_out}
use Rattle.fixed.proofs.Fixed.of.Goals as goal

pub overflow_cast-result : goal.overflow_cast-result
overflow_cast-result c = range_fits (to_z-of_z c.ranges.n) c.in_range.ensures c.if-in_range.true

pub returns-then-in_range : goal.returns-then-in_range
returns-then-in_range c = range_is (to_z-of_z c.ranges.n) c.in_range.ensures c.if-in_range.true

pub returns-else-in_range : goal.returns-else-in_range
returns-else-in_range c = range_out (to_z-of_z c.ranges.n) c.in_range.ensures c.if-in_range.false
