-- One name too many, or one more.
use Rattle.entering.proofs.Laws.{adds_past, adds_more}
use Rattle.entering.proofs.add_name.Goals as goal

pub returns-then-from-ge-MOST : goal.returns-then-from-ge-MOST
returns-then-from-ge-MOST c = search adds_past

pub returns : goal.returns
returns c = search adds_more
