-- One less.
use Rattle.openings.proofs.Stacked.{pops, pops_none}
use Rattle.openings.proofs.pop.Goals as goal

pub returns-then-n-gt0 : goal.returns-then-n-gt0
returns-then-n-gt0 c = search pops

pub returns : goal.returns
returns c = search pops_none
