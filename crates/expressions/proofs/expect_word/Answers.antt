-- It is there, or it is refused.
use Rattle.expressions.proofs.Laws.{word_there, word_not_there}
use Rattle.expressions.proofs.expect_word.Goals as goal

pub returns-then-is_word : goal.returns-then-is_word
returns-then-is_word c = word_there c.args.s.now c.args.at c.token_at-t.result c.token_at-t.ensures c.args.w.now c.is_word.result c.is_word.ensures c.if-is_word.true

pub returns : goal.returns
returns c = word_not_there c.args.s.now c.args.at c.token_at-t.result c.token_at-t.ensures c.args.w.now c.is_word.result c.is_word.ensures c.if-is_word.false
