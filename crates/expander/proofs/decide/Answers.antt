-- What is refused before a run, or a run.
use Rattle.expander.proofs.Laws.{of_early, of_free}
use Rattle.expander.proofs.decide.Goals as goal

pub returns-in-Err : goal.returns-in-Err
returns-in-Err c = of_early _ _ _ _ _ _ _ _ _ c.are_roomy-roomy.result c.are_roomy-roomy.ensures c.in-Err.ensures

pub returns-in-Ok : goal.returns-in-Ok
returns-in-Ok c = of_free _ _ _ _ _ _ _ _ _ c.are_roomy-roomy.result c.are_roomy-roomy.ensures c.in-Ok.ensures c.run_in.ensures
