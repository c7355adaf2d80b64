-- The twelve bytes, one part after the other.
use Rattle.output.proofs.Laws.{line_put}
use Rattle.output.proofs.put_line.Goals as goal

pub returns : goal.returns
returns c = line_put _ _ _ _ _ _ _ _ _ _ _ c.sum.ensures c.sum-2.ensures (rw c.into.ensures at c.put_byte.ensures) c.put_byte-2.ensures c.put_byte-3.ensures c.put_byte-4.ensures c.put_u32.ensures c.put_u32-2.ensures
