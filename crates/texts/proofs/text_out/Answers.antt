-- The blank, then the tokens.
use Rattle.std.proofs.Common.{refl}
use Rattle.std.proofs.lemmas.Result.{err_from_is_err_and}
use Rattle.texts.proofs.Looping.{text_begun, text_refused}
use Rattle.texts.proofs.text_out.Goals as goal

pub returns : goal.returns
returns c = text_begun _ _ _ _ _ _ _ _ _ _ _ _ _ _ _ _ _ _ refl refl c.blank_out.ensures _ _ _ _ _ _ _ _ c.in_ok-h.was c.text_on.ensures

pub returns-in_err-h : goal.returns-in_err-h
returns-in_err-h c =
    let p = err_from_is_err_and c.from_residual.result c.from_residual.ensures.1 in
    rw (p.1, p.2) (text_refused _ _ _ _ _ _ _ _ _ _ _ _ _ _ _ _ _ _ refl refl c.blank_out.ensures _ _ c.in_err-h.was)
