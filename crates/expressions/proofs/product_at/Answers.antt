-- The first sign that stands there, or none.
use Rattle.std.proofs.Common.{arith}
use Rattle.std.proofs.lemmas.Grind.{common_steps}
use Rattle.expressions.proofs.Laws.{product_tests}
use Rattle.expressions.proofs.product_at.Goals as goal

pub returns-then-is_sign : goal.returns-then-is_sign
returns-then-is_sign c = rw (product_tests _ _ _ c.token_at-t.ensures) (grind (arith, common_steps))

pub returns-then-is_sign-2 : goal.returns-then-is_sign-2
returns-then-is_sign-2 c = rw (product_tests _ _ _ c.token_at-t.ensures) (grind (arith, common_steps))

pub returns : goal.returns
returns c = rw (product_tests _ _ _ c.token_at-t.ensures) (grind (arith, common_steps))
