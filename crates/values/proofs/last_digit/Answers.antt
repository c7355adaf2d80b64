-- A digit is below the base.
use Rattle.std.proofs.Common.{arith}
use Rattle.values.proofs.Written.{base_some, digit_small}
use Rattle.values.proofs.last_digit.Goals as goal

pub nonzero_rem-result : goal.nonzero_rem-result
nonzero_rem-result c = base_some c.args.base _ c.base_number.ensures

pub overflow_cast-result : goal.overflow_cast-result
overflow_cast-result c = omega (arith, digit_small c.args.base c.args.n _ c.base_number.ensures)

pub overflow_add-result : goal.overflow_add-result
overflow_add-result c = omega (arith, digit_small c.args.base c.args.n _ c.base_number.ensures)

pub returns : goal.returns
returns c = rw c.base_number.ensures
