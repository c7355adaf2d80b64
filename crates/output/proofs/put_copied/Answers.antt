-- The newest line grows, or a new line is taken; or a room is full.
use Rattle.std.proofs.Common.{refl}
use Rattle.definition.proofs.Parts.{length_part}
use Rattle.output.proofs.Laws.{longer_no_room, longer_done, copied_no_line, copied_no_room, copied_done}
use Rattle.output.proofs.put_copied.Goals as goal
use Rattle.output.proofs.put_copied.Goals.{then-o-lt1-via-then-o-lt1, then-o-lt1-via-else-o-lt1+then-o-size-2}

pub returns-then-o-size : goal.returns-then-o-size
returns-then-o-size c = longer_no_room _ _ _ _ _ _ _ (length_part c.args.n c.args.from c.args.src.now) _ c.growing.ensures _ c.in-Some.is c.if-o-size.true

pub returns-in-Some : goal.returns-in-Some
returns-in-Some c = longer_done _ _ _ _ _ _ _ (length_part c.args.n c.args.from c.args.src.now) _ c.growing.ensures _ _ _ c.if-o-size.false c.copy.ensures _ c.in-Some.is _ _ c.sum32.ensures c.less.ensures c.with_line.ensures

pub returns-then-o-lt1 : goal.returns-then-o-lt1
returns-then-o-lt1 c =
    let n = length_part c.args.n c.args.from c.args.src.now in
    elim c.then-o-lt1.branch [
      | then-o-lt1-via-then-o-lt1 w ↦ copied_no_line _ _ _ _ _ _ _ n _ c.growing.ensures c.in_default.not-Some w.if-o-lt1.true
      | then-o-lt1-via-else-o-lt1+then-o-size-2 w ↦ copied_no_room _ _ _ _ _ _ _ n _ c.growing.ensures c.in_default.not-Some w.if-o-lt1.false w.if-o-size-2.true
    ]

pub returns : goal.returns
returns c = copied_done _ _ _ _ _ _ _ (length_part c.args.n c.args.from c.args.src.now) _ c.growing.ensures _ _ _ c.if-o-size-2.false c.copy-2.ensures _ refl c.in_default.not-Some c.if-o-lt1.false c.with_line-2.ensures
