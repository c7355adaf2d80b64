-- What END ends is left, or the reading stops.
use Rattle.reading.proofs.Closing.{end_goes, end_stops}
use Rattle.reading.proofs.end_at.Goals as goal

pub shape_of-names-in-Ok : goal.shape_of-names-in-Ok
shape_of-names-in-Ok c = c.declare_labels-st.auto.names

pub returns-in-Ok : goal.returns-in-Ok
returns-in-Ok c = search (end_goes, c.top-o.ensures, c.declare_labels-st.ensures, c.complete.ensures, c.with_opened.ensures, c.with_scope-outer.ensures, c.pop.ensures, c.scope_out.ensures, c.end_name-read.ensures, c.in-Ok)

pub returns-in-Err : goal.returns-in-Err
returns-in-Err c = search end_stops
