-- By the last of the list.
use Rattle.reading.proofs.Adding.{program_next}
use Rattle.reading.proofs.link_program.Goals as goal

pub returns-in-Some : goal.returns-in-Some
returns-in-Some c = search program_next
