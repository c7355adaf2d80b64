-- `Fixed::from_stored` meets its contract: at 64 bits the difference is exact.
use Rattle.std.proofs.Common.{ap, refl, ◌∙◌}
use lib.Dec.{lit<}
use Rattle.definition.specs.Fixed.{ranged}
use Rattle.fixed.specs.Signed.{from_stored}
use Rattle.fixed.proofs.Laws.{unsigned_fits, unsigned_read}
use Rattle.fixed.proofs.Fixed.from_stored.Goals as goal

pub overflow_sub-from : goal.overflow_sub-from
overflow_sub-from c = unsigned_fits _ 100000 c.ranges.n.fits (lit< tt) c.from.ensures refl

pub returns : goal.returns
unfolding from_stored
returns c = c.of.ensures ∙ ap ranged (unsigned_read _ 100000 c.ranges.n.fits (lit< tt) c.from.ensures refl)
