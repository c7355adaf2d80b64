-- Numbers compare as the definition orders them.
use Rattle.std.proofs.Common.{◌∙◌}
use Rattle.values.proofs.Compare.{numbers_compared}
use Rattle.values.proofs.numbers_order.Goals as goal

pub returns : goal.returns
returns c = c.cmp.ensures ∙ numbers_compared _ _
