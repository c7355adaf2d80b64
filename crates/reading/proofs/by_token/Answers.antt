-- A word, `;`, or another token.
use Rattle.reading.proofs.Tokening.{token_by_word, token_too_long, token_empty, token_no_statement}
use Rattle.reading.proofs.by_token.Goals as goal

ruleset ways = (token_by_word, token_too_long, token_empty, token_no_statement)

pub returns-then-width-le-LONGEST : goal.returns-then-width-le-LONGEST
returns-then-width-le-LONGEST c = search ways

pub returns-then-is_word_kind : goal.returns-then-is_word_kind
returns-then-is_word_kind c = search ways

pub returns-then-is_sign : goal.returns-then-is_sign
returns-then-is_sign c = search ways

pub returns : goal.returns
returns c = search ways
