-- `Fixed::stored` meets its contract: what is in range is not negative once it is shifted.
use Rattle.std.proofs.Common.{ap}
use lib.Dec.{lit≤}
use lib.IntN.{nat_abs, ◌+ℤ◌}
use Rattle.fixed.proofs.Laws.{op_fits, sum_size, wide_literal, stored_read, stored_fits, stored_out}
use Rattle.fixed.proofs.Fixed.stored.Goals as goal

pub overflow_add-result : goal.overflow_add-result
overflow_add-result c = op_fits ◌+ℤ◌ sum_size c.wide-wide.ensures (wide_literal 100000 (lit≤ tt))

pub overflow_cast-result : goal.overflow_cast-result
overflow_cast-result c = stored_fits c.wide-wide.ensures c.in_range.ensures c.if-in_range.true

pub returns-then-in_range : goal.returns-then-in_range
returns-then-in_range c = ap nat_abs (stored_read c.wide-wide.ensures c.in_range.ensures c.if-in_range.true)

pub returns-else-in_range : goal.returns-else-in_range
returns-else-in_range c = stored_out c.wide-wide.ensures c.in_range.ensures c.if-in_range.false
