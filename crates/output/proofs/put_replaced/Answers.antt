-- A new line behind an outcome that stands in the text room.
use Rattle.std.proofs.Common.{refl}
use Rattle.output.proofs.Laws.{replaced_done}
use Rattle.output.proofs.put_replaced.Goals as goal

pub returns : goal.returns
returns c = replaced_done _ _ _ _ _ _ _ _ _ refl c.with_line.ensures
