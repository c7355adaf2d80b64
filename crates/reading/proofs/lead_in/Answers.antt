-- By what is open.
use Rattle.reading.proofs.Adding.{leads_program, leads_group, leads_nowhere}
use Rattle.reading.proofs.lead_in.Goals as goal

pub returns-in-InProgram : goal.returns-in-InProgram
returns-in-InProgram c = search leads_program

pub returns-in-InGroup : goal.returns-in-InGroup
returns-in-InGroup c = search leads_group

pub returns-in-InBody : goal.returns-in-InBody
returns-in-InBody c = search leads_nowhere
