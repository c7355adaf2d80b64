-- In a group, where END is no label and no target.
use Rattle.std.proofs.Common.{arith}
use Rattle.std.proofs.lemmas.Grind.{common_steps}
use Rattle.openings.specs.Open.{is_end_in}
use Rattle.openings.proofs.is_end.Goals as goal

pub returns-then-is_word : goal.returns-then-is_word
unfolding is_end_in
returns-then-is_word c = grind (arith, common_steps)

pub returns-else-is_word : goal.returns-else-is_word
unfolding is_end_in
returns-else-is_word c = grind (arith, common_steps)
