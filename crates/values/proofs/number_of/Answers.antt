-- The checked constructor never answers with a zero divisor.
use Rattle.std.proofs.Common.{rules}
use Rattle.values.proofs.Numbers.{number_made}
use Rattle.values.proofs.number_of.Goals as goal

pub returns : goal.returns
returns c = number_made _ _ _ _ _ c.of_magnitude.ensures c.map_err.ensures.cases (λ e d q. search rules)
