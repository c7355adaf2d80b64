-- A new line and a blank; or a room is full.
use Rattle.std.proofs.Common.{refl}
use Rattle.output.proofs.Laws.{blank_no_line, blank_no_room, blank_done}
use Rattle.output.proofs.put_blank.Goals as goal
use Rattle.output.proofs.put_blank.Goals.{then-o-lt1-via-then-o-lt1, then-o-lt1-via-else-o-lt1+then-o-lt1-2}

pub returns-then-o-lt1 : goal.returns-then-o-lt1
returns-then-o-lt1 c =
    elim c.then-o-lt1.branch [
      | then-o-lt1-via-then-o-lt1 w ↦ blank_no_line _ _ _ _ _ w.if-o-lt1.true
      | then-o-lt1-via-else-o-lt1+then-o-lt1-2 w ↦ blank_no_room _ _ _ _ _ w.if-o-lt1.false w.if-o-lt1-2.true
    ]

pub returns : goal.returns
returns c = blank_done _ _ _ _ _ _ _ _ _ refl c.if-o-lt1.false c.if-o-lt1-2.false c.put_byte.ensures c.with_line.ensures
