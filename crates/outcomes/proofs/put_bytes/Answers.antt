-- By both rooms.
use Rattle.outcomes.proofs.Putting.{put_moved, put_up, put_out_lem, put_across}
use Rattle.outcomes.proofs.put_bytes.Goals as goal

pub returns-in-true-true : goal.returns-in-true-true
returns-in-true-true c = search put_moved

pub returns-in-true-false : goal.returns-in-true-false
returns-in-true-false c = search put_up

pub returns-in-false-true : goal.returns-in-false-true
returns-in-false-true c = search put_out_lem

pub returns-in-false-false : goal.returns-in-false-false
returns-in-false-false c = search put_across
