-- A record is replaced, or the name is declared twice.
use Rattle.entering.proofs.Laws.{joins_set, joins_twice}
use Rattle.entering.proofs.join_name.Goals as goal

pub returns : goal.returns
returns c = search joins_set

pub returns-in_default : goal.returns-in_default
returns-in_default c = search joins_twice
