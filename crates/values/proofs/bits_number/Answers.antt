-- All the bits are read.
use Rattle.values.proofs.Numbers.{bits_read}
use Rattle.values.proofs.bits_number.Goals as goal

pub returns : goal.returns
returns c = search bits_read
