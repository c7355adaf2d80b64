use Rattle.deck.proofs.Laws.{passing_start, passing_more, passing_stop, passing_done}
use Rattle.deck.proofs.word_length.Goals as goal

pub loop-j-init : goal.loop-j-init
loop-j-init c = passing_start _ _ _

pub loop-j-preserved : goal.loop-j-preserved
loop-j-preserved c = search passing_more

pub returns-else-is_alphameric : goal.returns-else-is_alphameric
returns-else-is_alphameric c = search passing_stop

pub returns-after-loop-j : goal.returns-after-loop-j
returns-after-loop-j c = search passing_done
