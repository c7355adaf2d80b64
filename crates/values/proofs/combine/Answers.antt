use Rattle.values.proofs.Bits.{filling_start, combining_more, combining_done}
use Rattle.values.proofs.combine.Goals as goal

pub loop-j-init : goal.loop-j-init
loop-j-init c = filling_start _ _ _

pub loop-j-preserved : goal.loop-j-preserved
loop-j-preserved c = combining_more c.args.op _ c.args.at c.args.n c.args.m _ _ _ c.loop-j.invariant c.max-most.ensures _ _ _ _ _ c.loop-j-test.true c.byte_or-x.ensures c.far_byte_or-y.ensures c.apply.ensures c.bit_of.ensures c.put_byte.ensures

pub returns : goal.returns
returns c = search combining_done
