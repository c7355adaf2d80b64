-- A line is free, or the list room is full.
use Rattle.texts.proofs.Replacing.{replacing_full, replacing_done}
use Rattle.texts.proofs.replace_here.Goals as goal

pub returns-then-g-lt1 : goal.returns-then-g-lt1
returns-then-g-lt1 c = replacing_full _ _ _ _ _ _ _ _ _ _ _ _ _ _ _ _ _ _ c.sum-place.ensures _ c.if-g-lt1.true c.halted.ensures

pub returns : goal.returns
returns c = replacing_done _ _ _ _ _ _ _ _ _ _ _ _ _ _ _ _ _ _ c.sum-place.ensures _ _ _ _ _ _ _ _ _ c.if-g-lt1.false c.scene.ensures c.replace-r.ensures c.replacement_out.ensures
