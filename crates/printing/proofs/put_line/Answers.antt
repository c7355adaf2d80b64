-- The letter, three numbers, the line feed.
use Rattle.printing.proofs.Laws.{line_put}
use Rattle.printing.proofs.put_line.Goals as goal

pub returns : goal.returns
returns c = search line_put
