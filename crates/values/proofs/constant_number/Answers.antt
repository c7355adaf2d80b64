-- All the digits are read.
use Rattle.values.proofs.Numbers.{constant_read}
use Rattle.values.proofs.constant_number.Goals as goal

pub returns : goal.returns
returns c = search constant_read
