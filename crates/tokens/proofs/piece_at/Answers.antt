-- Past the end, a comment, or by the class of the first byte.
use Rattle.std.proofs.Common.{arith}
use Rattle.tokens.proofs.Laws.{comment_inside}
use Rattle.tokens.proofs.Pieces.{piece_past, piece_comment, piece_name, piece_digits, piece_string, piece_plain}
use Rattle.tokens.proofs.piece_at.Goals as goal

pub returns-then-s-p : goal.returns-then-s-p
returns-then-s-p c = search piece_past

pub overflow_add-p : goal.overflow_add-p
overflow_add-p c = omega (arith, comment_inside _ _ _ c.is_comment.ensures c.if-is_comment.true)

pub returns-then-is_comment : goal.returns-then-is_comment
returns-then-is_comment c = search piece_comment

pub returns-in-Letter : goal.returns-in-Letter
returns-in-Letter c = search piece_name

pub returns-in-Digit : goal.returns-in-Digit
returns-in-Digit c = search piece_digits

pub returns-in-Quote : goal.returns-in-Quote
returns-in-Quote c = search piece_string

pub returns-in-Mark : goal.returns-in-Mark
returns-in-Mark c = search piece_plain
