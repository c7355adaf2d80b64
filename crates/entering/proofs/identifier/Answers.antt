-- Both are below 65,536.
use Rattle.entering.proofs.identifier.Goals as goal

pub returns : goal.returns
returns c = rw (c.from.ensures, c.length_of-length.ensures)
