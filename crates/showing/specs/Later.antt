-- WHAT STAYS while members run below this one: the worlds that come later, and the table of rows, which only grows.
use Rattle.std.specs.Prelude.{ℕ, ◌<◌, ◌≡◌, List, length, get_or}
use Rattle.definition.specs.World as W
use Rattle.definition.specs.World.{World, rows_of}
use Rattle.definition.specs.declared.ValueType.{ValueType}
use Rattle.rows.specs.Table.{row_in}
use Rattle.showing.specs.Worlds.{Wider}

-- A WORLD THAT COMES LATER: variables are still variables, and members that were entered have their rows
pub record Later (B B' : World) : Type 0 where
  pub variables : (a : ℕ) (t : ValueType) → get_or B.denotations a W.builtin_name ≡ W.variable_of t → get_or B'.denotations a W.builtin_name ≡ W.variable_of t
  pub rows : (m : ℕ) → Wider (rows_of m B) (rows_of m B')
  pub limit : B'.limit ≡ B.limit

-- THE TABLE GREW: its `used` rows are as they were
pub record Grew (rows : List ℕ) (used : ℕ) (rows' : List ℕ) : Type 0 where
  pub below : (i : ℕ) → i < used → row_in rows' i ≡ row_in rows i
  pub size : length rows' ≡ length rows
