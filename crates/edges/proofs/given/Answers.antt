-- The end of the body, or a byte of it.
use Rattle.edges.proofs.Laws.{given_end, given_in_lem}
use Rattle.edges.proofs.given.Goals as goal

pub returns-then-q-size : goal.returns-then-q-size
returns-then-q-size c = search given_end

pub returns-else-q-size : goal.returns-else-q-size
returns-else-q-size c = search given_in_lem
