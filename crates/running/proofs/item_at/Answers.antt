-- A name, or a library's and a member's.
use Rattle.running.proofs.Seeking.{item_bare, item_library}
use Rattle.running.proofs.item_at.Goals as goal

pub returns-then-is_sign : goal.returns-then-is_sign
returns-then-is_sign c = search item_library

pub returns : goal.returns
returns c = search item_bare
