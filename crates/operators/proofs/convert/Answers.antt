-- A case for each type.
use Rattle.std.proofs.lemmas.Result.{err_from_is_err_and}
use Rattle.operators.proofs.Answers.{convert_fixed, convert_wrong, convert_characters}
use Rattle.operators.proofs.convert.Goals as goal

pub returns-in_err-to_fixed-in-FixedType : goal.returns-in_err-to_fixed-in-FixedType
returns-in_err-to_fixed-in-FixedType c =
    let p = err_from_is_err_and c.from_residual.result c.from_residual.ensures.1 in
    rw (p.1, p.2) (convert_wrong _ _ _ _ _ c.in-FixedType.is _ c.in_err-to_fixed-in-FixedType.ensures)

pub returns-in_ok-to_fixed-in-FixedType : goal.returns-in_ok-to_fixed-in-FixedType
returns-in_ok-to_fixed-in-FixedType c = convert_fixed _ _ _ _ _ c.in-FixedType.is _ c.in_ok-to_fixed-in-FixedType.ensures

pub returns-in-CharacterType : goal.returns-in-CharacterType
returns-in-CharacterType c = search convert_characters
