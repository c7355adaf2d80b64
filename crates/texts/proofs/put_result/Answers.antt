-- By the case.
use Rattle.texts.proofs.Putting.{put_done, put_full}
use Rattle.texts.proofs.put_result.Goals as goal

pub returns-in-Some : goal.returns-in-Some
returns-in-Some c = search put_done

pub returns-in-None : goal.returns-in-None
returns-in-None c = search put_full
