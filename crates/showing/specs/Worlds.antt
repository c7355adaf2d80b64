-- WHAT A RUN KEEPS, so that the rows are shown (`RowsShown`): the names of the world lead to rows, and the rows of its members lie in
-- the table, each member's behind those that were there.
use Rattle.std.specs.Prelude.{ℕ, ◌+◌, ◌*◌, ◌<◌, ◌≤◌, false, ◌≡◌, List, [], ◌∷◌, ◌++◌, length, drop, replicate}
use Rattle.definition.specs.Bytes.{mixed}
use Rattle.definition.specs.Lists.{same}
use Rattle.definition.specs.Program as P
use Rattle.definition.specs.Reading as D
use Rattle.definition.specs.Names as N
use Rattle.definition.specs.World as W
use Rattle.definition.specs.World.{World, Owner, Denotation, Identifier, row_of, rows_of}
use Rattle.definition.specs.declared.ValueType.{ValueType}
use Rattle.deck.specs.Answer.{body_in}
use Rattle.rows.specs.Table.{row_in}
use Rattle.rows.specs.Parts.{start_in, part_in}
use Rattle.rows.specs.Tabled.{Tabled}
use Rattle.rows.specs.declared.Starts.{Starts}
use Rattle.entering.specs.Entry.{Shows}
use Rattle.reading.specs.State.{rows_from}
use Rattle.reading.specs.Members.{names_of}
use Rattle.operands.specs.Shown.{RowsShown}

-- ---- what a name leads to, where R are the rows of each member: a body is the row of a procedure; a label of the member q leads to a
-- row of q, in a procedure to one of the procedure's member
abbrev pub IsProcedure : P.Statement → Type 0
IsProcedure x = (ns : List (List ℕ)) × (v : ValueType) × (x ≡ P.procedure ns v)

abbrev pub InOwner : (ℕ → List P.Row) → Owner → ℕ → ℕ → Type 0
InOwner R W.everyone q r = r < length (R q)
InOwner R (W.procedure_at m k) q r = r < length (R m)

abbrev pub BodyIn : (ℕ → List P.Row) → W.Body → Type 0
BodyIn R W.no_body = Unit {0}
BodyIn R (W.body_at m r) = (r < length (R m)) × IsProcedure (row_of (R m) r).statement

abbrev pub Leads : (ℕ → List P.Row) → Owner → Denotation → Type 0
Leads R k (W.variable_of t) = Unit {0}
Leads R k (W.entry_of x b) = BodyIn R b
Leads R k (W.label_at q r x) = InOwner R k q r
Leads R k W.builtin_name = Unit {0}

abbrev pub AllLead : (ℕ → List P.Row) → List Identifier → List Denotation → Type 0
AllLead R [] [] = Unit {0}
AllLead R [] (d ∷ ds) = ⊥
AllLead R (i ∷ is) [] = ⊥
AllLead R (i ∷ is) (d ∷ ds) = Leads R i.owner d × AllLead R is ds

-- ---- no procedure lists a parameter twice
abbrev pub Apart : List ℕ → List (List ℕ) → Type 0
Apart n [] = Unit {0}
Apart n (x ∷ xs) = (same n x ≡ false) × Apart n xs

abbrev pub Distinct : List (List ℕ) → Type 0
Distinct [] = Unit {0}
Distinct (n ∷ ns) = Apart n ns × Distinct ns

abbrev pub Parted : List P.Row → Type 0
Parted rs = (r : ℕ) (ns : List (List ℕ)) (v : ValueType) → r < length rs → (row_of rs r).statement ≡ P.procedure ns v → Distinct ns

-- ---- no rows, or these
pub data Wider (rs qs : List P.Row) : Type 0 where
  none : rs ≡ [] → Wider rs qs
  kept : rs ≡ qs → Wider rs qs

-- A WORLD whose member m was read in the body b m, or not entered
pub record Placed (b : ℕ → List ℕ) (w : World) : Type 0 where
  pub names : AllLead (λ m. rows_of m w) w.identifiers w.denotations
  pub apart : (m : ℕ) → Parted (rows_of m w)
  pub read : (m : ℕ) → Wider (rows_of m w) (D.read_member mixed (b m)).rows

-- ---- the rows rs of the member m are its part of the table, or there are none
pub data Stored (deck rows : List ℕ) (starts : Starts) (m : ℕ) (rs : List P.Row) : Type 0 where
  nothing : rs ≡ [] → Stored deck rows starts m rs
  there : rows_from (body_in deck m) (part_in rows starts m) 0 (length rs) ≡ rs → Tabled (part_in rows starts m) rs → length rs ≤ 2048 → Stored deck rows starts m rs

-- THE TABLE has `used` rows, those of the members of w
pub record Laid (deck rows : List ℕ) (starts : Starts) (used : ℕ) (w : World) : Type 0 where
  pub stored : (m : ℕ) → Stored deck rows starts m (rows_of m w)
  pub below : (m : ℕ) → start_in starts m + length (rows_of m w) ≤ used

-- behind the used rows the table becomes t
pub record Behind (rows : List ℕ) (used : ℕ) (rows' t : List ℕ) : Type 0 where
  pub below : (i : ℕ) → i < used → row_in rows' i ≡ row_in rows i
  pub part : drop (16 * used) rows' ≡ t

-- ---- a world with more names, which have no value; all but the tables as it was
pub record Grown (w v : World) : Type 0 where
  pub tables : v ≡ W.with_tables v.identifiers v.denotations v.values v.activities w
  pub more : ℕ
  pub names : length v.identifiers ≡ length w.identifiers + more
  pub values : v.values ≡ w.values ++ replicate more W.no_value

abbrev pub member_in : List ℕ → ℕ → World → World
member_in deck m v = N.with_member m (D.read_member mixed (body_in deck m)) v

-- THE MEMBER m goes into w, with its names; then there are `used` rows and `count` names
pub record Enters (deck rows names : List ℕ) (starts : Starts) (m used count : ℕ) (w : World) : Type 0 where
  pub named : World
  pub is : N.enter m (D.read_member mixed (body_in deck m)) w ≡ N.entered (member_in deck m named)
  pub grown : Grown w named
  pub book : Shows named (names_of deck names count)
  pub sentences : (member_in deck m named).sentences ≡ used
  pub placed : Placed (body_in deck) (member_in deck m named)
  pub laid : Laid deck rows starts used (member_in deck m named)
  pub shown : RowsShown deck rows starts (member_in deck m named)
