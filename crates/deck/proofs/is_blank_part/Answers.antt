use Rattle.deck.proofs.Laws.{blanks_start, blanks_more, blanks_other, blanks_done}
use Rattle.deck.proofs.is_blank_part.Goals as goal

pub loop-j-init : goal.loop-j-init
loop-j-init c = blanks_start _ _ _ _

pub returns-then-byte-ne32 : goal.returns-then-byte-ne32
returns-then-byte-ne32 c = search blanks_other

pub loop-j-preserved : goal.loop-j-preserved
loop-j-preserved c = search blanks_more

pub returns : goal.returns
returns c = search blanks_done
