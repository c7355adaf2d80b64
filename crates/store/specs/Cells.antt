-- What the rooms of values hold at an address: `cells` a number for each address, `low` and `high` 512 bytes for each of 128.
use Rattle.std.specs.Prelude.{ℕ, zero, suc, ◌+◌, ◌*◌, ◌-◌, cond, ◌≡◌, List, [], ◌∷◌, ltb, length, get_or, Option, Some, None}
use Rattle.definition.specs.Lists.{part}
use Rattle.definition.specs.Room.{over}
use Rattle.definition.specs.Limits.{value_length}
use Rattle.definition.specs.Fixed as F
use Rattle.definition.specs.Values.{fixed, characters}
use Rattle.definition.specs.World as W
use Rattle.definition.specs.declared.ValueType.{ValueType}
use Rattle.definition.specs.declared.ValueType.TheVariants.{FixedType, CharacterType}
use Rattle.fixed.specs.Signed.{from_stored}
use Rattle.fixed.specs.declared.Fixed.{Fixed}

-- where the characters of an address stand: in low or in high
abbrev pub slot : ℕ → ℕ
slot a = value_length * cond (ltb a 128) a (a - 128)

abbrev pub half : ℕ → List ℕ → List ℕ → List ℕ
half a low high = cond (ltb a 128) low high

-- a FIXED variable: the stored number, 0 without a value
abbrev pub fixed_cell : F.Result → W.Cell
fixed_cell (F.is z) = W.holds (fixed z)
fixed_cell F.out_of_range = W.no_value
fixed_cell F.zero_divisor = W.no_value

-- a CHARACTER variable: one more than the length, 0 without a value
abbrev pub character_cell : ℕ → ℕ → List ℕ → W.Cell
character_cell zero at l = W.no_value
character_cell (suc n) at l = W.holds (characters (part n at l))

unfoldable pub cell_in : List ℕ → List ℕ → List ℕ → ValueType → ℕ → W.Cell
cell_in cells low high FixedType a = fixed_cell (from_stored (get_or cells a 0))
cell_in cells low high CharacterType a = character_cell (get_or cells a 0) (slot a) (half a low high)

-- what the answers stand for
abbrev pub number_cell : Option Fixed → W.Cell
number_cell None = W.no_value
number_cell (Some x) = W.holds (fixed x.value)

abbrev pub length_cell : Option ℕ → ℕ → List ℕ → W.Cell
length_cell None at l = W.no_value
length_cell (Some n) at l = W.holds (characters (part n at l))

-- the length of a CHARACTER value, whatever the rooms of bytes are
pub record LengthAt (cells : List ℕ) (a : ℕ) (r : Option ℕ) : Type 0 where
  pub is : (low high : List ℕ) → length_cell r (slot a) (half a low high) ≡ cell_in cells low high CharacterType a

-- the characters l were stored at an address: one more than their length, and they themselves in low or in high
pub record Stored (c t h : List ℕ) (a : ℕ) (l : List ℕ) (c' t' h' : List ℕ) : Type 0 where
  pub cell : c' ≡ over c a ((length l + 1) ∷ [])
  pub low : t' ≡ cond (ltb a 128) (over t (slot a) l) t
  pub high : h' ≡ cond (ltb a 128) h (over h (slot a) l)
