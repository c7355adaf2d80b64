-- Inside the slice its byte, and past the end 0.
use Rattle.std.proofs.Common.{arith}
use Rattle.values.proofs.Bits.{far_past}
use Rattle.values.proofs.far_byte.Goals as goal

pub returns-else-at-s : goal.returns-else-at-s
returns-else-at-s c = far_past c.args.s.now c.args.at c.args.n c.args.k (omega arith)
