-- In the program alone.
use Rattle.openings.proofs.Stacked.{first_program}
use Rattle.openings.proofs.first_in.Goals as goal

pub returns-in-InProgram : goal.returns-in-InProgram
returns-in-InProgram c = search first_program
