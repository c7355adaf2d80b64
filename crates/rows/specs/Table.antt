-- The fourteen numbers that hold a row, and the row that numbers of the table are.
use Rattle.std.specs.Prelude.{ℕ, ◌+◌, ◌*◌, ◌-◌, cond, List, [], ◌∷◌, eqb, ltb, get_or, Option, Some, None}
use Rattle.types.specs.Kept.{type_number, type_in}
use Rattle.rows.specs.declared.Statement.{Statement}
use Rattle.rows.specs.declared.Statement.TheVariants.{Null, Declare, Procedure, Assign, Conditional, Group, Iterated, Goto, Include, Activate, Deactivate, Return}
use Rattle.rows.specs.declared.Role.{Role}
use Rattle.rows.specs.declared.Role.TheVariants.{Listed, ThenPart, ElsePart}
use Rattle.rows.specs.declared.Stretch.{Stretch}
use Rattle.rows.specs.declared.Row.{Row}

-- ---- numbers
abbrev pub statement_number : Statement → ℕ
statement_number Null = 0
statement_number Declare = 1
statement_number Procedure = 2
statement_number Assign = 3
statement_number Conditional = 4
statement_number Group = 5
statement_number Iterated = 6
statement_number Goto = 7
statement_number Include = 8
statement_number Activate = 9
statement_number Deactivate = 10
statement_number Return = 11

abbrev pub role_number : Role → ℕ
role_number Listed = 0
role_number ThenPart = 1
role_number ElsePart = 2

-- one more than the row's number: 0 is no row, and so is a row that no u16 holds one more of
abbrev pub link_number : Option ℕ → ℕ
link_number None = 0
link_number (Some n) = cond (ltb n 65535) (n + 1) 0

abbrev pub stretch_numbers : Stretch → List ℕ
stretch_numbers x = x.from ∷ x.to ∷ []

abbrev pub numbers_of : Row → List ℕ
numbers_of x =
    statement_number x.statement ∷ x.place ∷ x.content ∷ type_number x.value_type ∷ x.depth ∷ link_number x.parent ∷ role_number x.role
    ∷ link_number x.next ∷ link_number x.child ∷ link_number x.other ∷ x.lead.from ∷ x.lead.to ∷ stretch_numbers x.text

-- ---- and back
abbrev pub statement_in : ℕ → Statement
statement_in k = cond (eqb k 1) Declare (cond (eqb k 2) Procedure (cond (eqb k 3) Assign (cond (eqb k 4) Conditional (cond (eqb k 5) Group (cond (eqb k 6) Iterated (cond (eqb k 7) Goto (cond (eqb k 8) Include (cond (eqb k 9) Activate (cond (eqb k 10) Deactivate (cond (eqb k 11) Return Null))))))))))

abbrev pub role_in : ℕ → Role
role_in k = cond (eqb k 0) Listed (cond (eqb k 1) ThenPart ElsePart)

abbrev pub link_in : ℕ → Option ℕ
link_in k = cond (eqb k 0) None (Some (k - 1))

abbrev pub stretch_in : ℕ → ℕ → Stretch
stretch_in a b = record { from = a; to = b }

-- a record takes sixteen numbers of the table t
unfoldable pub row_in : List ℕ → ℕ → Row
row_in t n = record {
  statement = statement_in (get_or t (16 * n + 0) 0);
  place = get_or t (16 * n + 1) 0;
  content = get_or t (16 * n + 2) 0;
  value_type = type_in (get_or t (16 * n + 3) 0);
  depth = get_or t (16 * n + 4) 0;
  parent = link_in (get_or t (16 * n + 5) 0);
  role = role_in (get_or t (16 * n + 6) 0);
  next = link_in (get_or t (16 * n + 7) 0);
  child = link_in (get_or t (16 * n + 8) 0);
  other = link_in (get_or t (16 * n + 9) 0);
  lead = stretch_in (get_or t (16 * n + 10) 0) (get_or t (16 * n + 11) 0);
  text = stretch_in (get_or t (16 * n + 12) 0) (get_or t (16 * n + 13) 0);
}
