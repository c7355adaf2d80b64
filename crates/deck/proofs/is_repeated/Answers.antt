use Rattle.deck.proofs.Laws.{repeating_start, repeating_more, repeating_here, repeating_none}
use Rattle.deck.proofs.is_repeated.Goals as goal

pub loop-j-init : goal.loop-j-init
loop-j-init c = repeating_start _ _ _ _

pub returns-then-is_alike : goal.returns-then-is_alike
returns-then-is_alike c = search repeating_here

pub loop-j-preserved : goal.loop-j-preserved
loop-j-preserved c = search repeating_more

pub returns : goal.returns
returns c = search repeating_none
