-- In a procedure: its END, a statement, or neither.
use Rattle.reading.proofs.Turning.{inner_end, inner_clause, inner_wrong}
use Rattle.reading.proofs.inner_at.Goals as goal

pub returns-then-ends_body : goal.returns-then-ends_body
returns-then-ends_body c = search inner_end

pub returns-then-begins : goal.returns-then-begins
returns-then-begins c = search inner_clause

pub returns : goal.returns
returns c = search inner_wrong
