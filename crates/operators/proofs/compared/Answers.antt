-- A case for each two kinds.
use Rattle.operators.proofs.Sides.{compared_number, compared_first, compared_bits, compared_text, compared_bc, compared_bb}
use Rattle.operators.proofs.compared.Goals as goal

pub returns-in-Number : goal.returns-in-Number
returns-in-Number c = search compared_number

pub returns-in-Number-y : goal.returns-in-Number-y
returns-in-Number-y c = search compared_first

pub returns-in-Characters-y : goal.returns-in-Characters-y
returns-in-Characters-y c = search compared_text

pub returns-in-Number-y-2 : goal.returns-in-Number-y-2
returns-in-Number-y-2 c = search compared_bits

pub returns-in-Characters-y-2 : goal.returns-in-Characters-y-2
returns-in-Characters-y-2 c = search compared_bc

pub returns-in-Bits-y : goal.returns-in-Bits-y
returns-in-Bits-y c = search compared_bb
