use Rattle.reading.proofs.Labelling.{labels_start, labels_more, labels_end, labels_last}
use Rattle.reading.proofs.declare_labels.Goals as goal

pub loop-left-init : goal.loop-left-init
loop-left-init c = search labels_start

pub loop-left-preserved : goal.loop-left-preserved
loop-left-preserved c = search labels_more

pub returns-in-None : goal.returns-in-None
returns-in-None c = search labels_end

pub returns : goal.returns
returns c = search labels_last
