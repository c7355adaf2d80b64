use Rattle.values.proofs.Compare.{alike_inside}
use Rattle.values.proofs.alike_start.Goals as goal

pub returns-then-m-t : goal.returns-then-m-t
returns-then-m-t c = search alike_inside
