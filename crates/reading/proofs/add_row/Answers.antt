-- The row, its link, and what is open.
use Rattle.reading.proofs.Adding.{adds}
use Rattle.reading.proofs.add_row.Goals as goal

pub returns : goal.returns
returns c = search (adds, c.put_row.ensures, c.link_row.ensures, c.top-o.ensures, c.place16.ensures, c.place16-2.ensures, c.place16-3.ensures, c.depth.ensures, c.parent_in.ensures, c.role_in.ensures, c.stretch.ensures, c.stretch-2.ensures, c.row_after.ensures, c.first_in.ensures, c.at_last.ensures)
