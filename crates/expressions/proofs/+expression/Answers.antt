-- Each way out is one law of `Reading`, whose premises `search` finds in what the code has shown.
use Rattle.std.proofs.lemmas.Result.{err_from_is_err_and}
use Rattle.expressions.proofs.Reading.{chaining_start, chaining_more, chaining_refused, chaining_done, chaining_end, levels_none, levels_more, levels_refused, inside_none, inside_some, arguing_start, arguing_more, arguing_done, arguing_refused, arguing_end, reference_call, reference_name, reference_refused, by_name_lem, by_kind, is_constant, is_none, not_open, open_refused, open_closed, operand_ends}
use Rattle.expressions.proofs.+expression.Goals as goal

pub arguments-loop-turn-init : goal.arguments-loop-turn-init
arguments-loop-turn-init t c = arguing_start _ _ _

pub arguments-loop-turn-preserved : goal.arguments-loop-turn-preserved
arguments-loop-turn-preserved t c = let w = c.in_ok-e.was in search arguing_more

pub arguments-returns-then-not-is_sign : goal.arguments-returns-then-not-is_sign
arguments-returns-then-not-is_sign t c = let w = c.in_ok-e.was in search arguing_done

pub arguments-returns-in_err-e : goal.arguments-returns-in_err-e
arguments-returns-in_err-e t c =
    let p = err_from_is_err_and c.from_residual.result c.from_residual.ensures.1 in
    let w = c.in_err-e.was in
    rw (p.1, p.2) (search arguing_refused)

pub arguments-returns : goal.arguments-returns
arguments-returns t c = search arguing_end

pub chain-loop-turn-init : goal.chain-loop-turn-init
chain-loop-turn-init t c = chaining_start _ _ _ _

pub chain-loop-turn-preserved : goal.chain-loop-turn-preserved
chain-loop-turn-preserved t c = let w = c.in_ok-at.was in search chaining_more

pub chain-returns-in_err-at : goal.chain-returns-in_err-at
chain-returns-in_err-at t c =
    let p = err_from_is_err_and c.from_residual.result c.from_residual.ensures.1 in
    let w = c.in_err-at.was in
    rw (p.1, p.2) (search chaining_refused)

pub chain-returns-in_default : goal.chain-returns-in_default
chain-returns-in_default t c = search (chaining_done, c.in_default.not-Some)

pub chain-returns : goal.chain-returns
chain-returns t c = search chaining_end

pub inside-returns-then-left-lt1 : goal.inside-returns-then-left-lt1
inside-returns-then-left-lt1 t c = search inside_none

pub inside-returns : goal.inside-returns
inside-returns t c = search inside_some

pub levels-returns-then-n-lt1 : goal.levels-returns-then-n-lt1
levels-returns-then-n-lt1 t c = search levels_none

pub levels-returns : goal.levels-returns
levels-returns t c = let w = c.in_ok-e.was in search levels_more

pub levels-returns-in_err-e : goal.levels-returns-in_err-e
levels-returns-in_err-e t c =
    let p = err_from_is_err_and c.from_residual.result c.from_residual.ensures.1 in
    let w = c.in_err-e.was in
    rw (p.1, p.2) (search levels_refused)

pub operand-returns : goal.operand-returns
operand-returns t c = search operand_ends

pub parenthesized-returns-then-is_sign : goal.parenthesized-returns-then-is_sign
parenthesized-returns-then-is_sign t c = let w = c.in_ok-e.was in search open_closed

pub parenthesized-returns-in_err-e : goal.parenthesized-returns-in_err-e
parenthesized-returns-in_err-e t c =
    let p = err_from_is_err_and c.from_residual.result c.from_residual.ensures.1 in
    let w = c.in_err-e.was in
    rw (p.1, p.2) (search open_refused)

pub parenthesized-returns : goal.parenthesized-returns
parenthesized-returns t c = search not_open

pub primitive-returns-in-Word : goal.primitive-returns-in-Word
primitive-returns-in-Word t c = search by_name_lem

pub primitive-returns-in-Integer : goal.primitive-returns-in-Integer
primitive-returns-in-Integer t c = search is_constant

pub primitive-returns-in-Sign : goal.primitive-returns-in-Sign
primitive-returns-in-Sign t c = search by_kind

pub primitive-returns-in-Nothing : goal.primitive-returns-in-Nothing
primitive-returns-in-Nothing t c = search is_none

pub reference-returns-then-is_sign : goal.reference-returns-then-is_sign
reference-returns-then-is_sign t c = let w = c.in_ok-to.was in search reference_call

pub reference-returns : goal.reference-returns
reference-returns t c = let w = c.in_ok-to.was in search reference_name

pub reference-returns-in_err-to : goal.reference-returns-in_err-to
reference-returns-in_err-to t c =
    let p = err_from_is_err_and c.from_residual.result c.from_residual.ensures.1 in
    let w = c.in_err-to.was in
    rw (p.1, p.2) (search reference_refused)
