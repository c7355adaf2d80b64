-- The first that is too long.
use Rattle.openings.proofs.Labelling.{long_kept, long_none, long_new}
use Rattle.openings.proofs.long_label.Goals as goal

pub returns-in-Some : goal.returns-in-Some
returns-in-Some c = search long_kept

pub returns-in-Ok : goal.returns-in-Ok
returns-in-Ok c = search long_none

pub returns-in-Err : goal.returns-in-Err
returns-in-Err c = search long_new
