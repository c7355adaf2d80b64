-- The first that it is.
use Rattle.std.proofs.Common.{arith}
use Rattle.std.proofs.lemmas.Grind.{common_steps}
use Rattle.statements.specs.Clauses.{other_by}
use Rattle.statements.proofs.other_keyword.Goals as goal

pub returns-then-is_word : goal.returns-then-is_word
unfolding other_by
returns-then-is_word c = grind (arith, common_steps)

pub returns-then-is_either : goal.returns-then-is_either
unfolding other_by
returns-then-is_either c = grind (arith, common_steps)

pub returns-then-is_either-2 : goal.returns-then-is_either-2
unfolding other_by
returns-then-is_either-2 c = grind (arith, common_steps)

pub returns-then-is_word-2 : goal.returns-then-is_word-2
unfolding other_by
returns-then-is_word-2 c = grind (arith, common_steps)

pub returns-then-is_either-3 : goal.returns-then-is_either-3
unfolding other_by
returns-then-is_either-3 c = grind (arith, common_steps)

pub returns-then-is_either-4 : goal.returns-then-is_either-4
unfolding other_by
returns-then-is_either-4 c = grind (arith, common_steps)

pub returns : goal.returns
unfolding other_by
returns c = grind (arith, common_steps)
