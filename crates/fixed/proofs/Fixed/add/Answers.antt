-- `Fixed::add` meets its contract: at 64 bits the sum is exact.
use Rattle.std.proofs.Common.{ap, ◌∙◌}
use lib.IntN.{◌+ℤ◌}
use Rattle.definition.specs.Fixed.{ranged, sum}
use Rattle.fixed.proofs.Laws.{op_fits, op_read, sum_size}
use Rattle.fixed.proofs.Fixed.add.Goals as goal

pub overflow_add-wide : goal.overflow_add-wide
overflow_add-wide c = op_fits ◌+ℤ◌ sum_size c.wide.ensures c.wide-2.ensures

pub returns : goal.returns
unfolding sum
returns c = c.of.ensures ∙ ap ranged (op_read ◌+ℤ◌ sum_size c.wide.ensures c.wide-2.ensures)
