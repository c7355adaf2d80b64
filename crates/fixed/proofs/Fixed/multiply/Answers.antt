-- `Fixed::multiply` meets its contract: at 64 bits the product is exact.
use Rattle.std.proofs.Common.{ap, ◌∙◌}
use lib.IntN.{◌*ℤ◌}
use Rattle.definition.specs.Fixed.{ranged, product}
use Rattle.fixed.proofs.Laws.{op_fits, op_read, product_size}
use Rattle.fixed.proofs.Fixed.multiply.Goals as goal

pub overflow_mul-wide : goal.overflow_mul-wide
overflow_mul-wide c = op_fits ◌*ℤ◌ product_size c.wide.ensures c.wide-2.ensures

pub returns : goal.returns
unfolding product
returns c = c.of.ensures ∙ ap ranged (op_read ◌*ℤ◌ product_size c.wide.ensures c.wide-2.ensures)
