-- The last 17 digits to the base 2.
use Rattle.values.proofs.Written.{bits_put_lem}
use Rattle.values.proofs.put_bits.Goals as goal

pub returns : goal.returns
returns c = search bits_put_lem
