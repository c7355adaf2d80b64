-- It is there, or it is refused.
use Rattle.expressions.proofs.Laws.{there, not_there}
use Rattle.expressions.proofs.expect_sign.Goals as goal

pub returns-then-is_sign : goal.returns-then-is_sign
returns-then-is_sign c = there c.args.s.now c.args.at c.token_at-t.result c.token_at-t.ensures c.args.w.now c.is_sign.result c.is_sign.ensures c.if-is_sign.true

pub returns : goal.returns
returns c = not_there c.args.s.now c.args.at c.token_at-t.result c.token_at-t.ensures c.args.w.now c.is_sign.result c.is_sign.ensures c.if-is_sign.false
