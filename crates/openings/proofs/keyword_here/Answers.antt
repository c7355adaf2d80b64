-- The code tests the word first, the definition its place.
use Rattle.openings.proofs.Words.{here_equals, here_stands, here_other}
use Rattle.openings.proofs.keyword_here.Goals as goal

pub returns-then-is_sign : goal.returns-then-is_sign
returns-then-is_sign c = search here_equals

pub returns-then-may_stand : goal.returns-then-may_stand
returns-then-may_stand c = search here_stands

pub returns : goal.returns
returns c = search here_other
