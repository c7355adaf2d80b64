use Rattle.std.proofs.Common.{rules}
use Rattle.reading.proofs.Membering.{loop_start, loop_again as again, loop_out, loop_stop, loop_finish}
use Rattle.reading.proofs.read_member.Goals as goal

pub loop-left-init : goal.loop-left-init
loop-left-init c = search (rules, loop_start, c.turns_for-left.ensures, c.start-st.ensures, c.place16-base.ensures, c.offset.ensures, c.body-s.ensures)

pub loop-left-preserved : goal.loop-left-preserved
loop-left-preserved c = search (rules, again)

pub returns-in-Stop : goal.returns-in-Stop
returns-in-Stop c = search loop_stop

pub returns-in-Finish : goal.returns-in-Finish
returns-in-Finish c = search loop_finish

pub returns : goal.returns
returns c = search loop_out
