-- What the state of the reading and the room of rows stand for in the definition. A member has its own part of the room: its first
-- row is row 0.
use Rattle.statements.specs.Types.{Read}
use Rattle.std.specs.Prelude.{ℕ, zero, suc, ◌+◌, ◌*◌, ◌%◌, ◌≤◌, ◌<◌, true, false, ◌&&◌, List, [], ◌∷◌, ◌++◌, ◌≡◌, length, None, Result, Option, Some, Ok, Err}
use Rattle.definition.specs.Bytes.{mixed}
use Rattle.definition.specs.Room.{over}
use Rattle.definition.specs.Expressions.{Reading, read, refused, Named}
use Rattle.definition.specs.Tokens.{token_at, TextEnd}
use Rattle.definition.specs.Program as P
use Rattle.definition.specs.Statements as St
use Rattle.definition.specs.Reading as D
use Rattle.definition.specs.declared.ValueType.{ValueType}
use Rattle.definition.specs.declared.Why.{Why}
use Rattle.definition.specs.declared.Why.TheVariants.{OverLimit}
use Rattle.tokens.specs.Answer.{ending_for}
use Rattle.tokens.specs.declared.Ending.{Ending}
use Rattle.tokens.specs.declared.Ending.TheVariants as En
use Rattle.rows.specs.Table.{row_in, link_number}
use Rattle.rows.specs.Tabled.{Tabled, kind_of}
use Rattle.rows.specs.declared.Statement.{Statement}
use Rattle.rows.specs.declared.Stretch.{Stretch}
use Rattle.rows.specs.declared.Row.{Row}
use Rattle.names.specs.declared.Owner.{Owner}
use Rattle.names.specs.declared.Owner.TheVariants as Ow
use Rattle.entering.specs.declared.Tally.{Tally}
use Rattle.entering.specs.Book.{Book, tally_of, fault_in, book_whole, book_of, Entered, book_all}
use Rattle.statements.specs.declared.Clause.{Clause}
use Rattle.statements.specs.declared.Opens.{Opens}
use Rattle.statements.specs.Clauses.{scope_of, opens_for, Own, Ready, type_in}
use Rattle.statements.specs.Again.{statement_at}
use Rattle.openings.specs.declared.Where.{Where}
use Rattle.openings.specs.declared.Where.TheVariants as Wh
use Rattle.openings.specs.declared.Open.{Open}
use Rattle.openings.specs.declared.Opened.{Opened}
use Rattle.openings.specs.Open.{link_of, role_of, opened_of, labelled, end_for}
use Rattle.reading.specs.declared.State.{State}
use Rattle.reading.specs.declared.Mode.{Mode}
use Rattle.reading.specs.declared.Mode.TheVariants as Md
use Rattle.reading.specs.declared.Next.{Next}
use Rattle.reading.specs.declared.Next.TheVariants as Nx
use Rattle.reading.specs.declared.Turned.{Turned}
use Rattle.reading.specs.declared.Source.{Source}

-- ---- rows
abbrev pub stretch_of : Stretch → P.Stretch
stretch_of x = record { from = x.from; to = x.to }

-- THE ROW that a record of the table is, in the body s: its statement is read again
unfoldable pub row_of : List ℕ → Row → P.Row
row_of s x = record {
  statement = statement_at s x.statement x.content;
  place = x.place;
  parent = link_of x.parent;
  role = role_of x.role;
  next = link_of x.next;
  child = link_of x.child;
  other = link_of x.other;
  lead = stretch_of x.lead;
  text = stretch_of x.text;
}

-- n rows of the room t, from row a on
unfoldable pub rows_from : List ℕ → List ℕ → ℕ → ℕ → List P.Row
rows_from s t a zero = []
rows_from s t a (suc n) = row_of s (row_in t a) ∷ rows_from s t (suc a) n

-- ---- THE STATE: of the body s, the room of rows t, and the declarations ds so far, which the room of names has entered
unfoldable pub state_of : List ℕ → List ℕ → List P.Declared → State → D.State
state_of s t ds x = record {
  lead = stretch_of x.lead;
  first = link_of x.first;
  rows = rows_from s t 0 x.rows;
  declared = ds;
  opened = opened_of s x.opened;
  scope = scope_of x.scope;
}

abbrev pub mode_of : Mode → D.Mode
mode_of Md.Leading = D.leading_text
mode_of (Md.Behind n) = D.text_behind n
mode_of Md.Alternative = D.alternative
mode_of Md.Inner = D.inner

-- THE TURN that an answer is, where the reading goes on
abbrev pub next_of : Next → D.State → D.Turn
next_of (Nx.Go m at) st = D.go (mode_of m) at st
next_of (Nx.Stop w p) st = D.stop w p [] st
next_of Nx.Finish st = D.finish st

unfoldable pub turn_of : List ℕ → List ℕ → List P.Declared → Turned → D.Turn
turn_of s t ds r = next_of r.next (state_of s t ds r.state)

-- ---- what holds of every state: the program is around all, and what is open leads to rows that there are
abbrev pub Within : P.Link → ℕ → Type 0
Within P.nowhere n = Unit {0}
Within (P.row k) n = k < n

abbrev pub Inside : D.Where → ℕ → ℕ → Type 0
Inside D.in_program k n = Unit {0}
Inside D.in_group k n = k < n
Inside D.in_body k n = k < n
Inside D.in_then k n = k < n
Inside D.in_else k n = k < n

pub record Low (n : ℕ) (o : D.Open) : Type 0 where
  pub row : Inside o.kind o.row n
  pub last : Within o.last n

abbrev pub Around : D.Where → Type 0 → Type 0
Around D.in_program A = Unit {0}
Around D.in_group A = A
Around D.in_body A = A
Around D.in_then A = A
Around D.in_else A = A

-- with n rows
abbrev pub Stand : ℕ → List D.Open → Type 0
Stand n [] = ⊥
Stand n (o ∷ os) = Low n o × Around o.kind (Stand n os)

-- the room t holds the rows of a member behind those entered before it: at most 1,024 in a member, 2,048 in all
abbrev pub RoomFor : ℕ → List ℕ → Type 0
RoomFor entered t = (n : ℕ) → n ≤ 1024 → entered + n ≤ 2048 → 16 * n ≤ length t

pub record Placed (s t : List ℕ) (x : State) : Type 0 where
  pub room : RoomFor x.entered t
  pub own : x.rows ≤ 1024
  pub stand : Stand x.rows (opened_of s x.opened)
  pub some : 0 < x.opened.count
  pub deep : x.opened.count ≤ 19

-- one more row is allowed
abbrev pub Spare : State → Type 0
Spare x = (x.rows < 1024) × (x.entered + x.rows < 2048)

-- ---- a state that is changed
abbrev pub with_opened : State → Opened → State
with_opened x o = record { entered = x.entered; rows = x.rows; first = x.first; lead = x.lead; opened = o; scope = x.scope; tally = x.tally }

abbrev pub with_tally : State → Tally → State
with_tally x y = record { entered = x.entered; rows = x.rows; first = x.first; lead = x.lead; opened = x.opened; scope = x.scope; tally = y }

abbrev pub with_scope : State → Owner → State
with_scope x k = record { entered = x.entered; rows = x.rows; first = x.first; lead = x.lead; opened = x.opened; scope = k; tally = x.tally }

abbrev pub turned : State → Next → Turned
turned x n = record { state = x; next = n }

abbrev pub stretch_at : ℕ → ℕ → Stretch
stretch_at a b = record { from = a % 65536; to = b % 65536 }

-- a number that the table has room for
pub record After (n r : ℕ) : Type 0 where
  pub is : n < 65535 → r ≡ suc n

-- what a new row, a text or what is open leaves as it was; a scope stays one of the member
pub record Keeps (x r : State) : Type 0 where
  pub entered : r.entered ≡ x.entered
  pub tally : r.tally ≡ x.tally
  pub own : Own x.tally.member x.scope → Own x.tally.member r.scope

-- ---- what the table has of a row beside its links and texts; the definition has neither depth nor kind and type apart
pub record Alike (a b : Row) : Type 0 where
  pub statement : a.statement ≡ b.statement
  pub content : a.content ≡ b.content
  pub type : a.value_type ≡ b.value_type
  pub depth : a.depth ≡ b.depth

-- kind and type are those of the statement that is read again at c
pub record Tells (s : List ℕ) (k : Statement) (c : ℕ) (v : ValueType) : Type 0 where
  pub kind : k ≡ kind_of (statement_at s k c)
  pub type : v ≡ type_in (statement_at s k c)

abbrev pub Typed : List ℕ → Row → Type 0
Typed s x = Tells s x.statement x.content x.value_type

-- the k rows of t are those of t', which has n; a new one is as deep as what was open, and has kind and type of its statement
pub record Marks (s t : List ℕ) (k : ℕ) (o : Opened) (t' : List ℕ) (n : ℕ) : Type 0 where
  pub kept : (i : ℕ) → i < k → Alike (row_in t' i) (row_in t i)
  pub depth : (i : ℕ) → k ≤ i → i < n → (row_in t' i).depth ≡ D.depth (opened_of s o)
  pub type : (i : ℕ) → k ≤ i → i < n → Typed s (row_in t' i)

-- ---- the link to a new row n: from the last of its list, or from what it stands in
abbrev pub link_at : List ℕ → ℕ → ℕ → ℕ → List ℕ
link_at t k j n = over t (16 * k + j) (link_number (Some n) ∷ [])

abbrev pub link_last : Option ℕ → List ℕ → ℕ → List ℕ → List ℕ
link_last None t n other = other
link_last (Some l) t n other = link_at t l 7 n

abbrev pub link_in : Where → List ℕ → Open → ℕ → List ℕ
link_in Wh.InProgram t o n = link_last o.last t n t
link_in Wh.InGroup t o n = link_last o.last t n (link_at t o.row 8 n)
link_in Wh.InBody t o n = link_last o.last t n (link_at t o.row 8 n)
link_in Wh.InThen t o n = link_at t o.row 8 n
link_in Wh.InElse t o n = link_at t o.row 9 n

-- THE NEW ROW: of the clause c at the place p
pub record Adds (t : List ℕ) (x : State) (c : Clause) (p : ℕ) (t' : List ℕ) (r : State) : Type 0 where
  pub is : (s : List ℕ) (ds : List P.Declared) → Placed s t x → Spare x → p < 65536 → c.content < 65536
      → state_of s t' ds r ≡ D.add_row (statement_at s c.statement c.content) p (state_of s t ds x)
  pub stand : (s : List ℕ) → Placed s t x → Spare x → Stand (suc x.rows) (opened_of s r.opened)
  pub count : Spare x → r.rows ≡ suc x.rows
  pub deep : 0 < x.opened.count → x.opened.count ≤ 20 → r.opened.count ≡ x.opened.count
  pub keeps : Keeps x r
  pub size : length t' ≡ length t
  pub marks : (s : List ℕ) → Placed s t x → Spare x → c.content < 65536 → Tells s c.statement c.content c.value_type
      → Marks s t x.rows x.opened t' r.rows

-- the text that the program or a group begins with
pub record Leads (t : List ℕ) (x : State) (y : Stretch) (t' : List ℕ) (r : State) : Type 0 where
  pub is : (s : List ℕ) (ds : List P.Declared) → Placed s t x → x.entered + x.rows ≤ 2048
      → state_of s t' ds r ≡ D.lead_in (opened_of s x.opened) y.from y.to (state_of s t ds x)
  pub opened : r.opened ≡ x.opened
  pub rows : r.rows ≡ x.rows
  pub keeps : Keeps x r
  pub size : length t' ≡ length t
  pub marks : (i : ℕ) → Alike (row_in t' i) (row_in t i)

-- ---- behind a statement: of any rows and declarations
pub record Ends (s : List ℕ) (x : State) (n e : ℕ) (r : Turned) : Type 0 where
  pub is : (t : List ℕ) (ds : List P.Declared) (m : ℕ) → Stand m (opened_of s x.opened) → x.opened.count ≤ 20
      → turn_of s t ds r ≡ D.complete mixed s (opened_of s x.opened) n e (state_of s t ds x)
  pub rows : r.state.rows ≡ x.rows
  pub keeps : Keeps x r.state

pub record OpensIn (s : List ℕ) (x : State) (o : St.Opens) (n labels e : ℕ) (r : Turned) : Type 0 where
  pub is : (t : List ℕ) (ds : List P.Declared) (ns : List Named) (m : ℕ) → Stand m (opened_of s x.opened) → x.opened.count < 20 → D.spelled ns ≡ labelled s labels
      → turn_of s t ds r ≡ D.opened mixed o s n ns e (state_of s t ds x)
  pub rows : r.state.rows ≡ x.rows
  pub keeps : Keeps x r.state

pub record OpensAs (s : List ℕ) (x : State) (k : Opens) (n labels e : ℕ) (r : Turned) : Type 0 where
  pub so : (o : St.Opens) → k ≡ opens_for o → OpensIn s x o n labels e r

-- ---- a statement that was read, or not: R is what the definition reads
pub record Again (s : List ℕ) (c : Clause) (x : St.Clause) : Type 0 where
  pub statement : statement_at s c.statement c.content ≡ x.statement
  pub content : c.content < 65536
  pub opens : c.opens ≡ opens_for x.opens
  pub to : c.to ≡ x.to
  pub kind : c.statement ≡ kind_of x.statement
  pub type : c.value_type ≡ type_in x.statement

abbrev pub Stood : List ℕ → Read → Reading St.Clause → Type 0
Stood s (Ok c) (read x) = Again s c x
Stood s (Ok c) (refused w q) = ⊥
Stood s (Err (v, p)) (read x) = ⊥
Stood s (Err (v, p)) (refused w q) = (v ≡ w) × (p ≡ q)

-- where the clause is read, its names es follow those of its labels ns, whatever was declared before; where it is not, nothing changes
abbrev pub Taken : List ℕ → List ℕ → State → ℕ → List ℕ → Turned → List Named → List P.Declared → List P.Declared → Reading St.Clause → Type 0
Taken s t x p t' r ns ds es (read c) = turn_of s t' (ds ++ (St.means (scope_of x.scope) (D.label_meaning c.opens x.rows) ns ++ es)) r ≡ D.taken mixed s p ns (state_of s t ds x) c es
Taken s t x p t' r ns ds es (refused w q) = (r ≡ turned x (Nx.Stop w q)) × (t' ≡ t)

pub record TakesAs (s t : List ℕ) (x : State) (y : Read) (p labels : ℕ) (t' : List ℕ) (r : Turned) : Type 0 where
  pub is : (R : Reading St.Clause) (ns : List Named) (ds es : List P.Declared) → Stood s y R → Placed s t x → Spare x → x.opened.count < 20 → p < 65536
      → D.spelled ns ≡ labelled s labels → Taken s t x p t' r ns ds es R
  pub rows : Spare x → r.state.rows ≤ suc x.rows
  pub keeps : Keeps x r.state
  pub size : length t' ≡ length t
  pub marks : (R : Reading St.Clause) → Stood s y R → Placed s t x → Spare x → Marks s t x.rows x.opened t' r.state.rows

-- ---- what the definition's turn leaves: its state, and the sentence that it stopped at
abbrev pub state_in : D.Turn → D.State
state_in (D.go m at st) = st
state_in (D.stop w p begun st) = st
state_in (D.finish st) = st

abbrev pub begun_in : D.Turn → List ℕ
begun_in (D.go m at st) = []
begun_in (D.stop w p begun st) = begun
begun_in (D.finish st) = []

-- ---- what a turn needs: deck d, body s, rooms of rows t and of names n
pub record Sits (d s t n : List ℕ) (x : State) : Type 0 where
  pub ready : Ready d s n x.tally x.scope
  pub few : x.entered + x.rows ≤ 2048
  pub short : length s < 65536
  pub placed : Placed s t x

-- ---- THE TURN, where the definition takes X from a state without declarations, and k is the tally before. Where the reading goes
-- on, all is as there; a procedure's parameters are all listed in one turn, so that one listed twice is found in it
pub record Goes (d s n : List ℕ) (k : Tally) (X : D.Turn) (t' n' : List ℕ) (r : Turned) : Type 0 where
  pub turn : turn_of s t' (state_in X).declared r ≡ X
  pub entered : Entered d n k (book_whole k.member [] (state_in X).declared) n' r.state.tally

-- where it stops, the names of a wrong statement are there, but with another meaning; the refusal asks for none
pub record Stops (d s n : List ℕ) (k : Tally) (w : Why) (p : ℕ) (st : D.State) (t' n' : List ℕ) (r : Turned) : Type 0 where
  pub next : r.next ≡ Nx.Stop w p
  pub rows : rows_from s t' 0 r.state.rows ≡ st.rows
  pub names : (book_of d n' r.state.tally).identifiers ≡ (book_all k.member st.declared (book_of d n k)).identifiers
  pub past : (book_of d n' r.state.tally).past ≡ (book_all k.member st.declared (book_of d n k)).past

abbrev pub Does : List ℕ → List ℕ → List ℕ → Tally → D.Turn → List ℕ → List ℕ → Turned → Type 0
Does d s n k (D.go m at st) t' n' r = Goes d s n k (D.go m at st) t' n' r
Does d s n k (D.stop w p begun st) t' n' r = Stops d s n k w p st t' n' r
Does d s n k (D.finish st) t' n' r = Goes d s n k (D.finish st) t' n' r

-- a statement from `at` on begins at p: behind its `%`, or with its first token
pub data Starts (s : List ℕ) (p at : ℕ) : Type 0 where
  behind : p < at → Starts s p at
  opens : p ≡ (token_at mixed s at).from → D.begins (token_at mixed s at).token ≡ true → Starts s p at

-- the 2,049th sentence of all inclusions stops the reading at its place, where the definition reads its clause and on
pub record Over (s : List ℕ) (entered : ℕ) (X : D.Turn) (r : Turned) : Type 0 where
  pub place : ℕ
  pub at : ℕ
  pub state : D.State
  pub next : r.next ≡ Nx.Stop OverLimit place
  pub full : entered + length state.rows ≡ 2048
  pub low : place < length s
  pub starts : Starts s place at
  pub some : 0 < length state.opened
  pub none : state.declared ≡ []
  pub sentence : (D.is_in_group (D.kind_of state.opened) && D.is_end mixed s (D.labels mixed s at).behind) ≡ false
  pub is : X ≡ D.clause_at mixed s place at state

-- where that sentence does not come first: the turn refuses with fewer begun, or by a limit at the last that it began
pub data Counts (entered : ℕ) (w : Why) (p : ℕ) (begun : List ℕ) (st : D.State) : Type 0 where
  early : entered + length st.rows + length begun ≤ 2048 → Counts entered w p begun st
  last : w ≡ OverLimit → begun ≡ p ∷ [] → entered + length st.rows ≤ 2048 → Counts entered w p begun st

abbrev pub Fits : ℕ → D.Turn → Type 0
Fits entered (D.go m at st) = Unit {0}
Fits entered (D.stop w p begun st) = Counts entered w p begun st
Fits entered (D.finish st) = Unit {0}

pub data Way (d s n : List ℕ) (entered : ℕ) (k : Tally) (X : D.Turn) (t' n' : List ℕ) (r : Turned) : Type 0 where
  does : Fits entered X → Does d s n k X t' n' r → Way d s n entered k X t' n' r
  stops : Over s entered X r → book_of d n' r.state.tally ≡ book_of d n k → Way d s n entered k X t' n' r

pub record Takes (d s t n : List ℕ) (x : State) (X : D.Turn) (t' n' : List ℕ) (r : Turned) : Type 0 where
  pub way : Way d s n x.entered x.tally X t' n' r
  pub before : r.state.entered ≡ x.entered
  pub few : r.state.entered + r.state.rows ≤ 2048
  pub own : Own x.tally.member r.state.scope
  pub size : length t' ≡ length t
  pub marks : Marks s t x.rows x.opened t' r.state.rows

abbrev pub from_state : List ℕ → List ℕ → State → D.State
from_state s t x = state_of s t [] x

-- ---- THE CONTRACTS, each with the definition's function of the same name
pub record Clauses (d s t n : List ℕ) (x : State) (p at : ℕ) (t' n' : List ℕ) (r : Turned) : Type 0 where
  pub so : Sits d s t n x → p < length s → at ≤ length s → Starts s p at → Takes d s t n x (D.clause_at mixed s p at (from_state s t x)) t' n' r

-- a text ended with e; f are the states that it leads to, by where it ends
abbrev pub LowEnd : List ℕ → Ending → Type 0
LowEnd s (En.Percent p) = p < length s
LowEnd s En.AtEnd = Unit {0}
LowEnd s (En.OpenAt p) = Unit {0}

pub record Texts (d s t n : List ℕ) (x : State) (e : Ending) (t' n' : List ℕ) (r : Turned) : Type 0 where
  pub so : Sits d s t n x → (E : TextEnd) (f : ℕ → D.State) → e ≡ ending_for E → LowEnd s e → f (end_for s e) ≡ from_state s t x → length (f 0).opened ≡ x.opened.count
      → Takes d s t n x (D.texted mixed E s f) t' n' r

pub record Inners (d s t n : List ℕ) (x : State) (at : ℕ) (t' n' : List ℕ) (r : Turned) : Type 0 where
  pub so : Sits d s t n x → at ≤ length s → Takes d s t n x (D.inner_at mixed s at (token_at mixed s at) (from_state s t x)) t' n' r

pub record Alternatives (d s t n : List ℕ) (x : State) (at : ℕ) (t' n' : List ℕ) (r : Turned) : Type 0 where
  pub so : Sits d s t n x → at ≤ length s → Takes d s t n x (D.alternative_at mixed (scope_of x.scope) s at (token_at mixed s at) (from_state s t x)) t' n' r

-- where a text follows a row, the row is there
abbrev pub Follows : Mode → ℕ → Type 0
Follows Md.Leading n = Unit {0}
Follows (Md.Behind k) n = k < n
Follows Md.Alternative n = Unit {0}
Follows Md.Inner n = Unit {0}

pub record Turns (d s t n : List ℕ) (x : State) (m : Mode) (at : ℕ) (t' n' : List ℕ) (r : Turned) : Type 0 where
  pub so : Sits d s t n x → at ≤ length s → Follows m x.rows → Takes d s t n x (D.turn mixed s (mode_of m) at (from_state s t x)) t' n' r

-- of `start`: the member m begins at base in the deck, with so many sentences and names before it
pub record Begins (m base before names : ℕ) (r : State) : Type 0 where
  pub is : (s t : List ℕ) → state_of s t [] r ≡ D.start
  pub placed : (s t : List ℕ) → RoomFor before t → Placed s t r
  pub entered : r.entered ≡ before
  pub rows : r.rows ≡ 0
  pub scope : r.scope ≡ Ow.Everyone
  pub tally : r.tally ≡ tally_of m base names None None

pub record Enough (s : List ℕ) (r : ℕ) : Type 0 where
  pub is : length s < 65536 → r ≡ length s + 2

abbrev pub source_of : State → Result (Unit {0}) (Why × ℕ) → Source
source_of x f = record { first = x.first; lead = x.lead; rows = x.rows; names = x.tally.names; fault = fault_in x.tally.past x.tally.second f }

-- THE MEMBER m of the deck, whose body is s; b is the book before it
pub record Reads (s : List ℕ) (m : ℕ) (b : Book) (t' : List ℕ) (c : Book) (r : Source) : Type 0 where
  pub lead : stretch_of r.lead ≡ (D.read_member mixed s).lead
  pub first : link_of r.first ≡ (D.read_member mixed s).first
  pub rows : rows_from s t' 0 r.rows ≡ (D.read_member mixed s).rows
  pub tabled : Tabled t' (D.read_member mixed s).rows
  pub names : c ≡ book_whole m [] (D.read_member mixed s).declared b
