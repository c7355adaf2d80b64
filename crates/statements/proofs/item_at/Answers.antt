-- Names in parentheses, or one.
use Rattle.statements.proofs.Clauses.{item_list, item_one}
use Rattle.statements.proofs.item_at.Goals as goal

pub returns-then-is_sign : goal.returns-then-is_sign
returns-then-is_sign c = search item_list

pub returns : goal.returns
returns c = search item_one
