-- A name that is no END, or no name.
use Rattle.reading.proofs.Closing.{not_end_word, not_end_no_name}
use Rattle.reading.proofs.not_end.Goals as goal

pub returns-in-Ok : goal.returns-in-Ok
returns-in-Ok c = search not_end_word

pub returns-in-Err : goal.returns-in-Err
returns-in-Err c = search not_end_no_name
