-- A type as it is kept in a table: its number, and the type of a number.
use Rattle.std.specs.Prelude.{ℕ, cond, eqb}
use Rattle.definition.specs.declared.ValueType.{ValueType}
use Rattle.definition.specs.declared.ValueType.TheVariants.{FixedType, CharacterType}

abbrev pub type_number : ValueType → ℕ
type_number FixedType = 0
type_number CharacterType = 1

abbrev pub type_in : ℕ → ValueType
type_in k = cond (eqb k 0) FixedType CharacterType
