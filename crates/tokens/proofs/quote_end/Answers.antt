use Rattle.tokens.proofs.Laws.{seeking_start, seeking_more, seeking_here, seeking_never}
use Rattle.tokens.proofs.quote_end.Goals as goal

pub loop-i-init : goal.loop-i-init
loop-i-init c = seeking_start _ _

pub returns-then-s-i-eq39 : goal.returns-then-s-i-eq39
returns-then-s-i-eq39 c = search seeking_here

pub loop-i-preserved : goal.loop-i-preserved
loop-i-preserved c = search seeking_more

pub returns : goal.returns
returns c = search seeking_never
