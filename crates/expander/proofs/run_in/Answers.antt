-- A plain deck as it is.
use Rattle.expander.proofs.Laws.{of_plain}
use Rattle.expander.proofs.run_in.Goals as goal

pub returns-in-Plain : goal.returns-in-Plain
returns-in-Plain c = of_plain _ _ _ _ _ _ _ _ _ c.run.result c.in-Plain.is c.run.ensures c.answer.ensures
