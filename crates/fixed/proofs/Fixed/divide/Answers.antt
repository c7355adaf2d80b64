-- `Fixed::divide` meets its contract: at 64 bits the quotient by a number that is not 0 is exact.
use Rattle.std.proofs.Common.{ap, rules, ◌∙◌}
use lib.Signed.{quot_z}
use Rattle.definition.specs.Fixed.{ranged}
use Rattle.fixed.proofs.Laws.{op_fits, op_read, quotient_size, divisor_zero, divisor_other}
use Rattle.fixed.proofs.Fixed.divide.Goals as goal

pub returns-then-divisor-eq0 : goal.returns-then-divisor-eq0
returns-then-divisor-eq0 c = divisor_zero _ c.wide-divisor.ensures c.if-divisor-eq0.true

pub nonzero_div-wide : goal.nonzero_div-wide
nonzero_div-wide c = (search rules, op_fits quot_z quotient_size c.wide.ensures c.wide-divisor.ensures)

pub returns : goal.returns
returns c = divisor_other _ c.wide-divisor.ensures c.if-divisor-eq0.false (c.of.ensures ∙ ap ranged (op_read quot_z quotient_size c.wide.ensures c.wide-divisor.ensures))
