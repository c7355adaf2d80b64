-- HOW THE ROOMS STAND FOR THE WORLD. What evaluation changes, the values and the steps, is a function of the rooms: `worldIn`. What it
-- leaves as it is (identifiers, denotations, rows, and all the rest) is a world B that the rooms show: `Named` here.
use Rattle.std.specs.Prelude.{ℕ, zero, suc, ◌≤◌, ◌≡◌, List, [], ◌∷◌, length, get_or, true}
use Rattle.definition.specs.declared.ValueType.{ValueType}
use Rattle.definition.specs.declared.ValueType.TheVariants.{FixedType, CharacterType}
use Rattle.definition.specs.declared.Layout.TheVariants.{Plain}
use Rattle.definition.specs.Fixed.{in_range}
use Rattle.definition.specs.World as W
use Rattle.definition.specs.World.{World, variable_of, entry_of, label_at, builtin_name}
use Rattle.names.specs.Table.{name_in, denotation_of, identifiers_from}
use Rattle.store.specs.Cells.{cell_in}
use Rattle.operators.specs.declared.Value.{Value}
use Rattle.operators.specs.declared.Value.TheVariants.{Number, Characters, Bits}

-- ---- names
unfoldable pub denotations_from : List ℕ → ℕ → ℕ → List W.Denotation
denotations_from t a zero = []
denotations_from t a (suc n) = denotation_of (name_in t a).denotation ∷ denotations_from t (suc a) n

-- the world of which only the names are known: deck d, table t, n records
unfoldable pub names_world : List ℕ → List ℕ → ℕ → World
names_world d t n = W.with_tables (identifiers_from d t 0 n) (denotations_from t 0 n) [] [] (W.new_world Plain 0 0 0)

-- the names of the world B are those of the table
pub record Named (d t : List ℕ) (n : ℕ) (B : World) : Type 0 where
  pub identifiers : B.identifiers ≡ identifiers_from d t 0 n
  pub denotations : B.denotations ≡ denotations_from t 0 n

-- ---- values
abbrev pub cell_as : W.Denotation → ℕ → List ℕ → List ℕ → List ℕ → W.Cell
cell_as (variable_of t) a c l h = cell_in c l h t a
cell_as (entry_of e b) a c l h = W.no_value
cell_as (label_at m r x) a c l h = W.no_value
cell_as builtin_name a c l h = W.no_value

-- the values of the addresses from a on, whose denotations are given
unfoldable pub values_from : List W.Denotation → ℕ → List ℕ → List ℕ → List ℕ → List W.Cell
values_from [] a c l h = []
values_from (d ∷ ds) a c l h = cell_as d a c l h ∷ values_from ds (suc a) c l h

-- B with these values and so many steps used
abbrev pub with_values : List W.Cell → ℕ → World → World
with_values vs n B = W.with_used n (W.with_tables B.identifiers B.denotations vs B.activities B)

abbrev pub world_in : World → List ℕ → List ℕ → List ℕ → ℕ → World
world_in B c l h n = with_values (values_from B.denotations 0 c l h) n B

-- the rooms of values have their sizes, and no CHARACTER value is over 512 bytes
pub record Slots (ds : List W.Denotation) (c l h : List ℕ) : Type 0 where
  pub few : length ds ≤ 256
  pub cells : length ds ≤ length c
  pub low : 65536 ≤ length l
  pub high : 65536 ≤ length h
  pub short : (j : ℕ) → get_or ds j builtin_name ≡ variable_of CharacterType → get_or c j 0 ≤ 513

-- a value of a variable's type, in range
abbrev pub Typed : ValueType → Value → Type 0
Typed FixedType (Number x) = in_range x.value ≡ true
Typed FixedType (Characters n) = ⊥
Typed FixedType (Bits n) = ⊥
Typed CharacterType (Number x) = ⊥
Typed CharacterType (Characters n) = n ≤ 512
Typed CharacterType (Bits n) = ⊥
