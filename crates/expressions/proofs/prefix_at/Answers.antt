-- The first sign that stands there, or none.
use Rattle.std.proofs.Common.{arith}
use Rattle.std.proofs.lemmas.Grind.{common_steps}
use Rattle.expressions.proofs.Laws.{prefix_tests}
use Rattle.expressions.proofs.prefix_at.Goals as goal

pub returns-then-is_sign : goal.returns-then-is_sign
returns-then-is_sign c = rw (prefix_tests _ _ _ c.token_at-t.ensures) (grind (arith, common_steps))

pub returns-then-is_sign-2 : goal.returns-then-is_sign-2
returns-then-is_sign-2 c = rw (prefix_tests _ _ _ c.token_at-t.ensures) (grind (arith, common_steps))

pub returns-then-is_sign-3 : goal.returns-then-is_sign-3
returns-then-is_sign-3 c = rw (prefix_tests _ _ _ c.token_at-t.ensures) (grind (arith, common_steps))

pub returns : goal.returns
returns c = rw (prefix_tests _ _ _ c.token_at-t.ensures) (grind (arith, common_steps))
