use Rattle.openings.proofs.Labelling.{labelling_start, labelling_more, labelling_none, labelling_over}
use Rattle.openings.proofs.labels_at.Goals as goal

pub loop-count-init : goal.loop-count-init
loop-count-init c = search labelling_start

pub loop-count-preserved : goal.loop-count-preserved
loop-count-preserved c = search labelling_more

pub returns-in-None : goal.returns-in-None
returns-in-None c = search labelling_none

pub returns : goal.returns
returns c = search labelling_over
