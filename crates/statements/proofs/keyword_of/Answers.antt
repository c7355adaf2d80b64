-- The first that it is.
use Rattle.std.proofs.Common.{arith}
use Rattle.std.proofs.lemmas.Grind.{common_steps}
use Rattle.statements.specs.Clauses.{keyword_by}
use Rattle.statements.proofs.keyword_of.Goals as goal

pub returns-then-is_word : goal.returns-then-is_word
unfolding keyword_by
returns-then-is_word c = grind (arith, common_steps)

pub returns-then-is_word-2 : goal.returns-then-is_word-2
unfolding keyword_by
returns-then-is_word-2 c = grind (arith, common_steps)

pub returns-then-is_word-3 : goal.returns-then-is_word-3
unfolding keyword_by
returns-then-is_word-3 c = grind (arith, common_steps)

pub returns-then-is_word-4 : goal.returns-then-is_word-4
unfolding keyword_by
returns-then-is_word-4 c = grind (arith, common_steps)

pub returns : goal.returns
unfolding keyword_by
returns c = grind (arith, common_steps)
