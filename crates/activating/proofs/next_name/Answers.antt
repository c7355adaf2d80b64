-- By statement.
use Rattle.activating.proofs.Walks.{next_plain, next_rescan, next_attribute}
use Rattle.activating.proofs.next_name.Goals as goal

pub returns-in-Plainly : goal.returns-in-Plainly
returns-in-Plainly c = search next_plain

pub returns-in-WithRescan : goal.returns-in-WithRescan
returns-in-WithRescan c = search next_rescan

pub returns-in-WithAttributes : goal.returns-in-WithAttributes
returns-in-WithAttributes c = search next_attribute
