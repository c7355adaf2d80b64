-- If it fits.
use Rattle.outcomes.proofs.Putting.{token_copied, token_full}
use Rattle.outcomes.proofs.copy_token.Goals as goal

pub returns-then-may_put : goal.returns-then-may_put
returns-then-may_put c = search token_copied

pub returns : goal.returns
returns c = search token_full
