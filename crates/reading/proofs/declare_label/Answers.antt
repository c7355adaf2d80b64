-- A name that was read is entered; one that is too long is not.
use Rattle.reading.proofs.Labelling.{label_one, label_none}
use Rattle.reading.proofs.declare_label.Goals as goal

pub returns-in-Ok : goal.returns-in-Ok
returns-in-Ok c = search label_one

pub returns-in-Err : goal.returns-in-Err
returns-in-Err c = search label_none
