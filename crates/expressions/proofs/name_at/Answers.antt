-- A word of at most 31 bytes, a longer one, or no word.
use Rattle.expressions.proofs.Laws.{short_name, long_name, not_a_name}
use Rattle.expressions.proofs.name_at.Goals as goal

pub returns-then-width-le-LONGEST : goal.returns-then-width-le-LONGEST
returns-then-width-le-LONGEST c = short_name c.args.s.now c.args.at c.token_at-t.result c.token_at-t.ensures c.is_word_kind.result c.is_word_kind.ensures c.width.result c.if-is_word_kind.true c.width.ensures c.if-width-le-LONGEST.true

pub returns-then-is_word_kind : goal.returns-then-is_word_kind
returns-then-is_word_kind c = long_name c.args.s.now c.args.at c.token_at-t.result c.token_at-t.ensures c.is_word_kind.result c.is_word_kind.ensures c.width.result c.if-is_word_kind.true c.width.ensures c.if-width-le-LONGEST.false

pub returns : goal.returns
returns c = not_a_name c.args.s.now c.args.at c.token_at-t.result c.token_at-t.ensures c.is_word_kind.result c.is_word_kind.ensures c.if-is_word_kind.false
