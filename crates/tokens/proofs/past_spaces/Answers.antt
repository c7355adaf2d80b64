use Rattle.std.proofs.Common.{arith}
use Rattle.tokens.proofs.Laws.{comment_past, spacing_start, spacing_blank, spacing_more, spacing_stop, spacing_open, spacing_end}
use Rattle.tokens.proofs.past_spaces.Goals as goal

pub loop-p-init : goal.loop-p-init
loop-p-init c = spacing_start _ _

pub loop-p-preserved-then-is_space : goal.loop-p-preserved-then-is_space
loop-p-preserved-then-is_space c = search spacing_blank

pub loop-p-smaller : goal.loop-p-smaller
loop-p-smaller c = omega (arith, comment_past c.args.s.now c.loop-p.p _ _ c.comment_end.ensures c.in-Some.is)

pub loop-p-preserved : goal.loop-p-preserved
loop-p-preserved c = search spacing_more

pub returns-in_default : goal.returns-in_default
returns-in_default c = search spacing_open

pub returns-else-is_comment : goal.returns-else-is_comment
returns-else-is_comment c = search spacing_stop

pub returns : goal.returns
returns c = search spacing_end
