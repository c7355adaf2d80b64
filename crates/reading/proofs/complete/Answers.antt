use Rattle.std.proofs.Common.{rules}
use Rattle.reading.proofs.Endings.{complete_starts, complete_none, complete_on, complete_else, complete_up}
use Rattle.reading.proofs.complete.Goals as goal

pub loop-left-init : goal.loop-left-init
loop-left-init c = search (rules, complete_starts)

pub returns-in-On : goal.returns-in-On
returns-in-On c = search complete_on

pub returns-in-OnElse : goal.returns-in-OnElse
returns-in-OnElse c = search (complete_else, c.loop-left.invariant, c.top-o.ensures, c.done_in-d.ensures, c.pop.ensures, c.opening.ensures, c.push-inner.ensures, c.with_opened.ensures, c.go-in-OnElse.ensures)

pub loop-left-preserved : goal.loop-left-preserved
loop-left-preserved c = search (rules, complete_up)

pub returns : goal.returns
returns c = search complete_none
