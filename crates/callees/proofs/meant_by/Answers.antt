-- By what the address stands for.
use Rattle.callees.proofs.Naming.{by_unknown, by_variable, by_entry, by_label, by_builtin}
use Rattle.callees.proofs.meant_by.Goals as goal

pub returns-in_default : goal.returns-in_default
returns-in_default c = search by_unknown

pub returns-in-Variable : goal.returns-in-Variable
returns-in-Variable c = search by_variable

pub returns-in-EntryName : goal.returns-in-EntryName
returns-in-EntryName c = search by_entry

pub returns-in-LabelName : goal.returns-in-LabelName
returns-in-LabelName c = search by_label

pub returns-in-Builtin : goal.returns-in-Builtin
returns-in-Builtin c = search by_builtin
