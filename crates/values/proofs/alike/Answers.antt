use Rattle.std.proofs.Common.{◌≡◌, arith}
use Rattle.std.proofs.lemmas.List.{take_more_same}
use Rattle.values.proofs.alike.Goals as goal

pub loop-j-preserved : goal.loop-j-preserved
loop-j-preserved c = take_more_same c.args.x.now c.args.y.now c.loop-j.j 0 (omega arith) (omega arith) c.loop-j.invariant c.if-x-j.false

pub returns : goal.returns
returns c = let e : c.loop-j.j ≡ c.min-most.result = omega arith in rw e at c.loop-j.invariant
