-- `Fixed::in_range` meets its contract.
use mir.Facts.{to_z-of_z}
use Rattle.fixed.proofs.Laws.{least_passed, least_failed}
use Rattle.fixed.proofs.Fixed.in_range.Goals as goal

pub returns-then-from-n : goal.returns-then-from-n
returns-then-from-n c = least_passed (to_z-of_z c.ranges.n) c.from.ensures c.from-then-from-n.ensures c.if-from-n.true

pub returns-else-from-n : goal.returns-else-from-n
returns-else-from-n c = least_failed (to_z-of_z c.ranges.n) c.from.ensures c.if-from-n.false
