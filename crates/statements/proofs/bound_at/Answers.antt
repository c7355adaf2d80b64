-- The word is there, or not.

use mathlib.Core.Path.{refl}
use Rattle.statements.proofs.Laws.{bound_there, bound_absent}
use Rattle.statements.proofs.bound_at.Goals as goal

pub returns-then-is_word : goal.returns-then-is_word
returns-then-is_word c = bound_there _ _ _ _ refl _ c.token_at-t.ensures _ c.is_word.ensures c.if-is_word.true _ c.check.ensures

pub returns : goal.returns
returns c = bound_absent _ _ _ _ refl _ c.token_at-t.ensures _ c.is_word.ensures c.if-is_word.false
