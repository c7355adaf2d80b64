use Rattle.std.proofs.Common.{arith}
use Rattle.tokens.proofs.Pieces.{texting_start, texting_more, texting_further, texting_percent, texting_open, texting_end}
use Rattle.tokens.proofs.text_end.Goals as goal

pub loop-i-init : goal.loop-i-init
loop-i-init c = texting_start _ _

pub returns-then-s-i-eq37 : goal.returns-then-s-i-eq37
returns-then-s-i-eq37 c = search texting_percent

pub returns-in-Unclosed : goal.returns-in-Unclosed
returns-in-Unclosed c = search texting_open

pub loop-i-smaller : goal.loop-i-smaller
loop-i-smaller c = omega (arith, texting_further _ _ _ c.loop-i.invariant c.loop-i-test.true c.if-s-i-eq37.false _ c.piece_at-x.ensures c.in-Name.is)

pub loop-i-preserved : goal.loop-i-preserved
loop-i-preserved c = search texting_more

pub returns : goal.returns
returns c = search texting_end
