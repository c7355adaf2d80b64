-- A part of the table.
use Rattle.rows.proofs.Parting.{part_is}
use Rattle.rows.proofs.part_of.Goals as goal

pub returns : goal.returns
returns c = search part_is
