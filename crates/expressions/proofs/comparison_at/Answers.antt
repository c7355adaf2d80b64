-- The first sign that stands there, or none.
use Rattle.std.proofs.Common.{arith}
use Rattle.std.proofs.lemmas.Grind.{common_steps}
use Rattle.expressions.proofs.Laws.{comparison_tests}
use Rattle.expressions.proofs.comparison_at.Goals as goal

pub returns-then-is_sign : goal.returns-then-is_sign
returns-then-is_sign c = rw (comparison_tests _ _ _ c.token_at-t.ensures) (grind (arith, common_steps))

pub returns-then-is_sign-2 : goal.returns-then-is_sign-2
returns-then-is_sign-2 c = rw (comparison_tests _ _ _ c.token_at-t.ensures) (grind (arith, common_steps))

pub returns-then-is_sign-3 : goal.returns-then-is_sign-3
returns-then-is_sign-3 c = rw (comparison_tests _ _ _ c.token_at-t.ensures) (grind (arith, common_steps))

pub returns-then-is_sign-4 : goal.returns-then-is_sign-4
returns-then-is_sign-4 c = rw (comparison_tests _ _ _ c.token_at-t.ensures) (grind (arith, common_steps))

pub returns-then-is_sign-5 : goal.returns-then-is_sign-5
returns-then-is_sign-5 c = rw (comparison_tests _ _ _ c.token_at-t.ensures) (grind (arith, common_steps))

pub returns-then-is_sign-6 : goal.returns-then-is_sign-6
returns-then-is_sign-6 c = rw (comparison_tests _ _ _ c.token_at-t.ensures) (grind (arith, common_steps))

pub returns-then-is_sign-7 : goal.returns-then-is_sign-7
returns-then-is_sign-7 c = rw (comparison_tests _ _ _ c.token_at-t.ensures) (grind (arith, common_steps))

pub returns-then-is_sign-8 : goal.returns-then-is_sign-8
returns-then-is_sign-8 c = rw (comparison_tests _ _ _ c.token_at-t.ensures) (grind (arith, common_steps))

pub returns : goal.returns
returns c = rw (comparison_tests _ _ _ c.token_at-t.ensures) (grind (arith, common_steps))
