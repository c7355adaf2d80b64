-- By where it stands.
use Rattle.openings.proofs.Ends.{done_list, done_on, done_then, done_else}
use Rattle.openings.proofs.done_in.Goals as goal

pub returns-in-InProgram : goal.returns-in-InProgram
returns-in-InProgram c = search done_list

pub returns-in-Some : goal.returns-in-Some
returns-in-Some c = search done_on

pub returns-in-None : goal.returns-in-None
returns-in-None c = search done_then

pub returns-in-InElse : goal.returns-in-InElse
returns-in-InElse c = search done_else
