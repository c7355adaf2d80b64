-- A case for each value.
use Rattle.operators.proofs.Texts.{subject_number, subject_bytes}
use Rattle.operators.proofs.subject.Goals as goal

pub returns-in-Number : goal.returns-in-Number
returns-in-Number c = search subject_number

pub returns-in-Characters : goal.returns-in-Characters
returns-in-Characters c = search subject_bytes
