-- The end, two tokens that touch, or by the class of the first byte.
use Rattle.std.proofs.Common.{arith}
use Rattle.tokens.proofs.Laws.{sign_inside}
use Rattle.tokens.proofs.Lexemes.{lexeme_end, lexeme_touching, lexeme_word, lexeme_integer, lexeme_quote, lexeme_sign, lexeme_wrong}
use Rattle.tokens.proofs.lexeme_at.Goals as goal

pub returns-then-s-p : goal.returns-then-s-p
returns-then-s-p c = search lexeme_end

pub returns-then-touches : goal.returns-then-touches
returns-then-touches c = search lexeme_touching

pub overflow_add-p-in-Mark : goal.overflow_add-p-in-Mark
overflow_add-p-in-Mark c = omega (arith, sign_inside _ _ _ c.if-s-p.false c.sign_size.ensures)

pub returns-in-Letter : goal.returns-in-Letter
returns-in-Letter c = search lexeme_word

pub returns-in-Digit : goal.returns-in-Digit
returns-in-Digit c = search lexeme_integer

pub returns-in-Quote : goal.returns-in-Quote
returns-in-Quote c = search lexeme_quote

pub returns-in-Mark : goal.returns-in-Mark
returns-in-Mark c = search lexeme_sign

pub returns-in-Break : goal.returns-in-Break
returns-in-Break c = search lexeme_wrong
