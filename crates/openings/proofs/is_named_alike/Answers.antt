-- A name with that spelling.
use Rattle.openings.proofs.Labelling.{named_so, named_not}
use Rattle.openings.proofs.is_named_alike.Goals as goal

pub returns-in-Ok : goal.returns-in-Ok
returns-in-Ok c = search named_so

pub returns-in-Err : goal.returns-in-Err
returns-in-Err c = search named_not
