-- By how the main program ends.
use Rattle.std.proofs.lemmas.Result.{err_from_is_err_and}
use Rattle.running.proofs.Entering.{run_ok, run_out}
use Rattle.running.proofs.run.Goals as goal

pub returns-in_err-ended : goal.returns-in_err-ended
returns-in_err-ended c =
    let p = err_from_is_err_and c.from_residual.result c.from_residual.ensures.1 in
    let w = c.in_err-ended.was in
    rw (p.1, p.2) (search (run_out, c.new.ensures, c.new-2.ensures, c.no_starts.ensures, c.none_below.ensures, c.enter_and_run-x.ensures, w))

pub returns-in-Ran : goal.returns-in-Ran
returns-in-Ran c = let w = c.in_ok-ended.was in search (run_ok, c.new.ensures, c.new-2.ensures, c.no_starts.ensures, c.none_below.ensures, c.enter_and_run-x.ensures, w, c.in-Ran.is)

pub returns-in-Ran-2 : goal.returns-in-Ran-2
returns-in-Ran-2 c = let w = c.in_ok-ended.was in search (run_ok, c.new.ensures, c.new-2.ensures, c.no_starts.ensures, c.none_below.ensures, c.enter_and_run-x.ensures, w, c.in-Ran.is)
