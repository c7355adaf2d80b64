-- The first that it is.
use Rattle.std.proofs.Common.{arith}
use Rattle.std.proofs.lemmas.Grind.{common_steps}
use Rattle.statements.specs.Clauses.{attribute_by}
use Rattle.statements.proofs.attribute_at.Goals as goal

pub returns-then-is_either : goal.returns-then-is_either
unfolding attribute_by
returns-then-is_either c = grind (arith, common_steps)

pub returns-then-is_word : goal.returns-then-is_word
unfolding attribute_by
returns-then-is_word c = grind (arith, common_steps)

pub returns-then-is_word-2 : goal.returns-then-is_word-2
unfolding attribute_by
returns-then-is_word-2 c = grind (arith, common_steps)

pub returns-then-is_inside : goal.returns-then-is_inside
unfolding attribute_by
returns-then-is_inside c = grind (arith, common_steps)

pub returns-then-is_word-3 : goal.returns-then-is_word-3
unfolding attribute_by
returns-then-is_word-3 c = grind (arith, common_steps)

pub returns : goal.returns
unfolding attribute_by
returns c = grind (arith, common_steps)
