-- One turn of each mode.
use Rattle.reading.proofs.Turning.{turn_leading, turn_behind, turn_alternative, turn_inner}
use Rattle.reading.proofs.turn.Goals as goal

pub returns-in-Leading : goal.returns-in-Leading
returns-in-Leading c = search turn_leading

pub returns-in-Behind : goal.returns-in-Behind
returns-in-Behind c = search turn_behind

pub returns-in-Alternative : goal.returns-in-Alternative
returns-in-Alternative c = search turn_alternative

pub returns-in-Inner : goal.returns-in-Inner
returns-in-Inner c = search turn_inner
