-- `Fixed::negate` meets its contract: at 64 bits the difference from 0 is exact.
use Rattle.std.proofs.Common.{ap, ◌∙◌}
use Rattle.definition.specs.Fixed.{ranged, negative}
use Rattle.fixed.proofs.Laws.{negative_fits, negative_read}
use Rattle.fixed.proofs.Fixed.negate.Goals as goal

pub overflow_sub-wide : goal.overflow_sub-wide
overflow_sub-wide c = negative_fits c.wide.ensures

pub returns : goal.returns
unfolding negative
returns c = c.of.ensures ∙ ap ranged (negative_read c.wide.ensures)
