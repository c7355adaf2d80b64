-- What a table says of the rows of a member beside what each row is.
use Rattle.std.specs.Prelude.{ℕ, ◌<◌, ◌≤◌, ◌≡◌, true, List, length}
use Rattle.definition.specs.Program as P
use Rattle.definition.specs.World.{row_of}
use Rattle.definition.specs.declared.ValueType.{ValueType}
use Rattle.rows.specs.declared.Statement.{Statement}
use Rattle.rows.specs.declared.Statement.TheVariants.{Null, Declare, Procedure, Assign, Conditional, Group, Iterated, Goto, Include, Activate, Deactivate, Return}
use Rattle.rows.specs.Table.{row_in}

abbrev pub kind_of : P.Statement → Statement
kind_of P.null = Null
kind_of (P.declare ns) = Declare
kind_of (P.procedure ns t) = Procedure
kind_of (P.assign n x) = Assign
kind_of (P.conditional x) = Conditional
kind_of P.group = Group
kind_of (P.iterated n x bs) = Iterated
kind_of (P.goto n) = Goto
kind_of (P.include ns) = Include
kind_of (P.activate ns) = Activate
kind_of (P.deactivate ns) = Deactivate
kind_of (P.return x) = Return

-- each row has its kind, a procedure's row its type; "A parent comes before its rows"; what stands in an iterated group is deeper
-- than the group, and the group is not the 17th
pub record Tabled (t : List ℕ) (rs : List P.Row) : Type 0 where
  pub kind : (n : ℕ) → n < length rs → (row_in t n).statement ≡ kind_of (row_of rs n).statement
  pub before : (n g : ℕ) → n < length rs → (row_of rs n).parent ≡ P.row g → g < n
  pub level : (n g : ℕ) → n < length rs → (row_of rs n).parent ≡ P.row g → (row_in t g).depth ≤ (row_in t n).depth
  pub inner : (n g : ℕ) → n < length rs → (row_of rs n).parent ≡ P.row g → P.is_iterated (row_of rs g).statement ≡ true → (row_in t g).depth < (row_in t n).depth
  pub shallow : (g : ℕ) → g < length rs → P.is_iterated (row_of rs g).statement ≡ true → (row_in t g).depth < 16
  pub typed : (n : ℕ) (ns : List (List ℕ)) (v : ValueType) → n < length rs → (row_of rs n).statement ≡ P.procedure ns v → (row_in t n).value_type ≡ v
