-- An assignment, or the token behind the word is wrong.
use Rattle.openings.proofs.Words.{other_equals, other_wrong}
use Rattle.openings.proofs.other_clause.Goals as goal

pub returns-then-is_sign : goal.returns-then-is_sign
returns-then-is_sign c = search other_equals

pub returns : goal.returns
returns c = search other_wrong
