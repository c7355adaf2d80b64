-- By what it opens.
use Rattle.reading.proofs.Endings.{opens_nothing_lem, opens_inner, opens_outer, opens_body_lem, opens_then_lem}
use Rattle.reading.proofs.open_inside.Goals as goal

pub returns-then-is_inside : goal.returns-then-is_inside
returns-then-is_inside c = search opens_inner

pub returns-in-Nothing : goal.returns-in-Nothing
returns-in-Nothing c = search opens_nothing_lem

pub returns-else-is_inside : goal.returns-else-is_inside
returns-else-is_inside c = search opens_outer

pub returns-in-Body : goal.returns-in-Body
returns-in-Body c = search opens_body_lem

pub returns-in-Then : goal.returns-in-Then
returns-in-Then c = search opens_then_lem
