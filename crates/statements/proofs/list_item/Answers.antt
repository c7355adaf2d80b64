-- A name, and what may stand behind it.
use Rattle.statements.proofs.Laws.{item_active, item_refused, item_plain, item_member}
use Rattle.statements.proofs.list_item.Goals as goal

pub returns-in-Name : goal.returns-in-Name
returns-in-Name c = search item_plain

pub returns-in-Ok : goal.returns-in-Ok
returns-in-Ok c = search item_active

pub returns-in-Err : goal.returns-in-Err
returns-in-Err c = search item_refused

pub returns-in-Member : goal.returns-in-Member
returns-in-Member c = search item_member
