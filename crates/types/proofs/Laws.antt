-- A type that is kept as its number is read back.
-- Assumes nothing.
use mathlib.Core.Path.{◌≡◌, refl}
use Rattle.definition.specs.declared.ValueType.{ValueType}
use Rattle.definition.specs.declared.ValueType.TheVariants.{FixedType, CharacterType}
use Rattle.types.specs.Kept.{type_number, type_in}

pub type_back : (t : ValueType) → type_in (type_number t) ≡ t
type_back FixedType = refl
type_back CharacterType = refl
