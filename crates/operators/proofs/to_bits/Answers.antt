-- A case for each value.
use Rattle.operators.proofs.Texts.{bits_in, bits_out, bits_characters, bits_wrong, bits_bits}
use Rattle.operators.proofs.to_bits.Goals as goal

pub returns-then-fits : goal.returns-then-fits
returns-then-fits c = search bits_in

pub returns-then-are_bits : goal.returns-then-are_bits
returns-then-are_bits c = search bits_characters

pub returns-else-fits : goal.returns-else-fits
returns-else-fits c = search bits_out

pub returns-else-are_bits : goal.returns-else-are_bits
returns-else-are_bits c = search bits_wrong

pub returns-in-Bits : goal.returns-in-Bits
returns-in-Bits c = search bits_bits
