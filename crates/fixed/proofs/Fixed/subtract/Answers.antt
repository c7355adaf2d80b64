-- `Fixed::subtract` meets its contract: at 64 bits the difference is exact.
use Rattle.std.proofs.Common.{ap, ◌∙◌}
use lib.IntN.{◌-ℤ◌}
use Rattle.definition.specs.Fixed.{ranged, difference}
use Rattle.fixed.proofs.Laws.{op_fits, op_read, difference_size}
use Rattle.fixed.proofs.Fixed.subtract.Goals as goal

pub overflow_sub-wide : goal.overflow_sub-wide
overflow_sub-wide c = op_fits ◌-ℤ◌ difference_size c.wide.ensures c.wide-2.ensures

pub returns : goal.returns
unfolding difference
returns c = c.of.ensures ∙ ap ranged (op_read ◌-ℤ◌ difference_size c.wide.ensures c.wide-2.ensures)
