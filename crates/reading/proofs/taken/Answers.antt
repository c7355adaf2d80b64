-- Read, or refused.
use Rattle.reading.proofs.Endings.{takes_read, takes_refused}
use Rattle.reading.proofs.taken.Goals as goal

pub returns-in-Ok : goal.returns-in-Ok
returns-in-Ok c = search takes_read

pub returns-in-Err : goal.returns-in-Err
returns-in-Err c = search takes_refused
