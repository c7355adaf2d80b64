-- By the token.
use Rattle.outcomes.proofs.Naming.{here_name, here_plain}
use Rattle.outcomes.proofs.active_in.Goals as goal

pub returns-in-Name : goal.returns-in-Name
returns-in-Name c = search here_name

pub returns-in-Plain : goal.returns-in-Plain
returns-in-Plain c = search here_plain
