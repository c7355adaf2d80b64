-- The deck that is run is the joined one.
use Rattle.expander.proofs.Laws.{of_joined}
use Rattle.expander.proofs.run_joined.Goals as goal

pub shape_of-joined : goal.shape_of-joined
shape_of-joined c = c.join-n.ensures.room

pub returns : goal.returns
returns c = of_joined _ _ _ _ _ _ _ _ _ _ _ c.run.result c.join-n.ensures c.used-d.ensures c.run.ensures c.answer.ensures
