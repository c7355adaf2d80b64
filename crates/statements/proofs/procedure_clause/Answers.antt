-- As the definition reads it; its parameters count where it is right.
use Rattle.statements.proofs.Heads.{heads_there, heads_refused, heads_plain}
use Rattle.statements.proofs.procedure_clause.Goals as goal

pub returns-in-Ok : goal.returns-in-Ok
returns-in-Ok c = search heads_there

pub returns-in-Err : goal.returns-in-Err
returns-in-Err c = search heads_refused

pub returns : goal.returns
returns c = search heads_plain
