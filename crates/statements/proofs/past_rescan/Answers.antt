-- The word is there, or not.
use Rattle.statements.proofs.Laws.{rescan_there, rescan_absent}
use Rattle.statements.proofs.past_rescan.Goals as goal

pub returns-then-is_either : goal.returns-then-is_either
returns-then-is_either c = search rescan_there

pub returns : goal.returns
returns c = search rescan_absent
