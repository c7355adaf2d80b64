-- CHARACTER or FIXED.
use Rattle.std.proofs.lemmas.Result.{err_from_is_err_and}
use mathlib.Core.Path.{refl}
use Rattle.statements.proofs.Clauses.{type_character, type_fixed, type_missing, type_refused}
use Rattle.statements.proofs.Laws.{sign_past, sign_refused, word_past, word_refused}
use Rattle.statements.proofs.returned_type.Goals as goal

pub returns-in_err-head : goal.returns-in_err-head
returns-in_err-head c =
    let p = err_from_is_err_and c.from_residual.result c.from_residual.ensures.1 in
    rw (p.1, p.2) (type_refused _ _ _ _ (word_refused _ _ _ _ c.in_err-head.was) (sign_refused _ _ _ _ refl) _ refl)

pub returns-in_err-word : goal.returns-in_err-word
returns-in_err-word c =
    let p = err_from_is_err_and c.from_residual-in_err-word.result c.from_residual-in_err-word.ensures.1 in
    rw (p.1, p.2) (type_refused _ _ _ _ (word_past _ _ _ _ _ c.in_ok-head.was c.in_err-word.ensures) (sign_refused _ _ _ _ refl) _ refl)

pub returns-in_err-q : goal.returns-in_err-q
returns-in_err-q c =
    let p = err_from_is_err_and c.from_residual-in_err-q.result c.from_residual-in_err-q.ensures.1 in
    rw (p.1, p.2) (type_refused _ _ _ _ (word_past _ _ _ _ _ c.in_ok-head.was c.in_ok-word.ensures) (sign_past _ _ _ _ _ refl c.in_err-q.ensures) _ refl)

pub returns-then-is_either : goal.returns-then-is_either
returns-then-is_either c = type_character _ _ _ _ (word_past _ _ _ _ _ c.in_ok-head.was c.in_ok-word.ensures) (sign_past _ _ _ _ _ refl c.in_ok-q.ensures) _ refl _ c.token_at-t.ensures _ c.is_either.ensures c.if-is_either.true

pub returns-then-is_word : goal.returns-then-is_word
returns-then-is_word c = type_fixed _ _ _ _ (word_past _ _ _ _ _ c.in_ok-head.was c.in_ok-word.ensures) (sign_past _ _ _ _ _ refl c.in_ok-q.ensures) _ refl _ c.token_at-t.ensures _ c.is_either.ensures c.if-is_either.false _ c.is_word.ensures c.if-is_word.true

pub returns : goal.returns
returns c = type_missing _ _ _ _ (word_past _ _ _ _ _ c.in_ok-head.was c.in_ok-word.ensures) (sign_past _ _ _ _ _ refl c.in_ok-q.ensures) _ refl _ c.token_at-t.ensures _ c.is_either.ensures c.if-is_either.false _ c.is_word.ensures c.if-is_word.false
