-- A semicolon, or a label and a semicolon.
use Rattle.openings.proofs.Ends.{end_bare, end_named, end_wrong}
use Rattle.openings.proofs.end_name.Goals as goal

pub returns-then-is_sign : goal.returns-then-is_sign
returns-then-is_sign c = search end_bare

pub returns-then-may_name : goal.returns-then-may_name
returns-then-may_name c = search end_named

pub returns : goal.returns
returns c = search end_wrong
