-- By what is open.
use Rattle.reading.proofs.Adding.{link_program, link_list, link_then, link_else}
use Rattle.reading.proofs.link_row.Goals as goal

pub returns-in-InProgram : goal.returns-in-InProgram
returns-in-InProgram c = search link_program

pub returns-in-InGroup : goal.returns-in-InGroup
returns-in-InGroup c = search link_list

pub returns-in-InThen : goal.returns-in-InThen
returns-in-InThen c = search link_then

pub returns-in-InElse : goal.returns-in-InElse
returns-in-InElse c = search link_else
