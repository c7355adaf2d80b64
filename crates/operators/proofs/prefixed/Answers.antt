-- A case for each operator.
use Rattle.std.proofs.lemmas.Result.{err_from_is_err_and}
use Rattle.std.proofs.Common.{refl}
use Rattle.operators.proofs.Texts.{prefix_positive, prefix_negative, prefix_out, positive_wrong, negative_wrong, complement_is, complement_not}
use Rattle.operators.proofs.prefixed.Goals as goal

pub returns-in_err-to_fixed-in-Positive : goal.returns-in_err-to_fixed-in-Positive
returns-in_err-to_fixed-in-Positive c =
    let p = err_from_is_err_and c.from_residual.result c.from_residual.ensures.1 in
    rw (p.1, p.2) (positive_wrong _ _ _ _ _ _ c.in_err-to_fixed-in-Positive.ensures c.in-Positive.is)

pub returns-in_err-to_fixed-in-Negative : goal.returns-in_err-to_fixed-in-Negative
returns-in_err-to_fixed-in-Negative c =
    let p = err_from_is_err_and c.from_residual-in_err-to_fixed-in-Negative.result c.from_residual-in_err-to_fixed-in-Negative.ensures.1 in
    rw (p.1, p.2) (negative_wrong _ _ _ _ _ _ c.in_err-to_fixed-in-Negative.ensures c.in-Negative.is)

pub returns-in_err-negate-in-Negative : goal.returns-in_err-negate-in-Negative
returns-in_err-negate-in-Negative c =
    let p = err_from_is_err_and c.from_residual-in_err-negate-in-Negative.result c.from_residual-in_err-negate-in-Negative.ensures.1 in
    rw (p.1, p.2) (prefix_out _ _ _ _ _ _ c.in_ok-to_fixed-in-Negative.ensures _ c.in-Negative.is c.in_err-negate-in-Negative.ensures)

pub returns-in_err-bits-in-Complement : goal.returns-in_err-bits-in-Complement
returns-in_err-bits-in-Complement c =
    let p = err_from_is_err_and c.from_residual-in_err-bits-in-Complement.result c.from_residual-in_err-bits-in-Complement.ensures.1 in
    rw (p.1, p.2) (complement_not _ _ _ _ _ _ _ c.in_err-bits-in-Complement.ensures _ _ c.in-Complement.is refl)

pub returns-in_ok-to_fixed-in-Positive : goal.returns-in_ok-to_fixed-in-Positive
returns-in_ok-to_fixed-in-Positive c = prefix_positive _ _ _ _ _ _ c.in_ok-to_fixed-in-Positive.ensures c.in-Positive.is

pub returns-in_ok-negate-in-Negative : goal.returns-in_ok-negate-in-Negative
returns-in_ok-negate-in-Negative c = prefix_negative _ _ _ _ _ _ c.in_ok-to_fixed-in-Negative.ensures _ c.in-Negative.is c.in_ok-negate-in-Negative.ensures

pub returns-in_ok-bits-in-Complement : goal.returns-in_ok-bits-in-Complement
returns-in_ok-bits-in-Complement c = complement_is _ _ _ _ _ _ _ c.in_ok-bits-in-Complement.ensures _ _ _ _ c.in-Complement.is refl c.size_of.ensures c.invert.ensures
