use Rattle.std.proofs.Common.{sym, ◌∙◌}
use Rattle.definition.specs.Lists.{part}
use Rattle.values.proofs.Compare.{comparing_past_alike, comparing_apart, comparing_more, comparing_done}
use Rattle.values.proofs.bytes_order.Goals as goal

pub loop-j-init : goal.loop-j-init
loop-j-init c = search comparing_past_alike

pub returns-then-is_ne : goal.returns-then-is_ne
returns-then-is_ne c = comparing_apart c.args.pad (part c.args.n c.args.a c.args.s.now) (part c.args.m c.args.b c.args.t.now) c.loop-j.j c.loop-j.invariant _ _ c.byte_or-x.ensures c.byte_or-y.ensures c.cmp-order.result c.cmp-order.ensures (sym c.is_ne.ensures ∙ c.if-is_ne.true)

pub loop-j-preserved : goal.loop-j-preserved
loop-j-preserved c = comparing_more c.args.pad (part c.args.n c.args.a c.args.s.now) (part c.args.m c.args.b c.args.t.now) c.loop-j.j c.loop-j.invariant _ _ c.byte_or-x.ensures c.byte_or-y.ensures c.cmp-order.result c.cmp-order.ensures (sym c.is_ne.ensures ∙ c.if-is_ne.false)

pub returns : goal.returns
returns c = search comparing_done
