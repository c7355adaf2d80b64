-- What follows the spaces, or a comment that stays open.
use Rattle.tokens.proofs.Lexemes.{token_next, token_open}
use Rattle.tokens.proofs.token_at.Goals as goal

pub returns-in-Ok : goal.returns-in-Ok
returns-in-Ok c = search token_next

pub returns-in-Err : goal.returns-in-Err
returns-in-Err c = search token_open
