-- Each test in its order.
use Rattle.std.proofs.Common.{arith}
use Rattle.values.proofs.Substr.{cut_not, cut_in}
use Rattle.values.proofs.cut_at.Goals as goal

pub returns-then-from-eq0 : goal.returns-then-from-eq0
returns-then-from-eq0 c = cut_not c.args.size c.args.from c.args.count (λ a b. grind (arith, c.then-from-eq0.branch))

pub returns : goal.returns
returns c = cut_in c.args.size c.args.from c.args.count (omega arith) (omega arith)
