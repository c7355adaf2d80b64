-- 000, section 2.2: identifiers, the addresses they stand for, and what is kept by address. 01, "Reading": "Names have
-- global scope, or that of one procedure. An identifier and the address it stands for are kept apart. A name stands for
-- a variable with its type, an entry with its body, or a label with its place."
use Rattle.std.specs.Prelude.{ℕ, suc, ◌-◌, Bool, true, false, ◌&&◌, List, [], ◌∷◌, eqb, length, get_or, set}
use Rattle.definition.specs.Choice.{when}
use Rattle.definition.specs.Lists.{same}
use Rattle.definition.specs.Refusal.{Why, no_step}
use Rattle.definition.specs.Steps.{is_left, used_after}
use Rattle.definition.specs.Tokens.{Piece}
use Rattle.definition.specs.Program.{Type', null, nowhere, listed, Stretch, Row, Source}
use Rattle.definition.specs.Values.{Value, Answer, gives, fails}
use Rattle.definition.specs.Events.{Event, bytes_in}
use Rattle.definition.specs.Cards.{Layout}

-- the scope of a name: all of the program, or the procedure at a row of a member
pub data Owner : Type 0 where
  everyone : Owner
  procedure_at : ℕ → ℕ → Owner

abbrev pub same_owner : Owner → Owner → Bool
same_owner everyone everyone = true
same_owner everyone (procedure_at m r) = false
same_owner (procedure_at m r) everyone = false
same_owner (procedure_at m r) (procedure_at n q) = eqb m n && eqb r q

-- the body of an entry: none, or the procedure at a row of a member
pub data Body : Type 0 where
  no_body : Body
  body_at : ℕ → ℕ → Body

-- what an address stands for; of an entry also whether ENTRY declares it, of a label whether it is that of an END
pub data Denotation : Type 0 where
  variable_of : Type' → Denotation
  entry_of : Bool → Body → Denotation
  label_at : ℕ → ℕ → Bool → Denotation
  builtin_name : Denotation

-- an identifier in its scope; its address is its number in the list
pub record Identifier : Type 0 where
  pub spelling : List ℕ
  pub owner : Owner

pub data Cell : Type 0 where
  no_value : Cell
  holds : Value → Cell

pub data Activity : Type 0 where
  inactive : Activity
  rescanned : Activity
  copied_only : Activity

-- a member that was entered
pub record Entered : Type 0 where
  pub member : ℕ
  pub source : Source

-- A GHOST, which nothing in the definition reads and the promises speak of: what the scan of program text stood at when
-- an event went out. The blank before the text of a member; or a token of that text: its place, what it is, the names
-- at that moment, what they stood for and which were active, the bytes that went out for it, and the place where the
-- scan went on
pub record Sight : Type 0 where
  pub member : ℕ
  pub place : ℕ
  pub piece : Piece
  pub identifiers : List Identifier
  pub denotations : List Denotation
  pub activities : List Activity
  pub members : List Entered
  pub outcome : List ℕ
  pub to : ℕ

pub data Pass : Type 0 where
  began : ℕ → Stretch → Pass
  passed : Sight → Pass

-- all that a run changes
pub record World : Type 0 where
  -- the tables: the names that are declared; by their addresses what they stand for, their values, their activities
  pub identifiers : List Identifier
  pub denotations : List Denotation
  pub values : List Cell
  pub activities : List Activity
  -- the members entered, the newest first, and the sentences in them, each inclusion counted
  pub members : List Entered
  pub sentences : ℕ
  -- the meter: the steps that there are, and those charged
  pub limit : ℕ
  pub used : ℕ
  -- the output: what the caller says that the deck is; the events so far, the newest first; the bytes that the text room
  -- and the lines that the list room may still take; the ghost, which has a pass for each event
  pub layout : Layout
  pub events : List Event
  pub text_left : ℕ
  pub lines_left : ℕ
  pub passes : List Pass

abbrev pub new_world : Layout → ℕ → ℕ → ℕ → World
new_world layout limit text lines = record {
  identifiers = [];
  denotations = [];
  values = [];
  activities = [];
  members = [];
  sentences = 0;
  limit = limit;
  used = 0;
  layout = layout;
  events = [];
  text_left = text;
  lines_left = lines;
  passes = [];
}

-- ---- what changes together, all else as it is: the tables, the members, the meter, the output
abbrev pub with_tables : List Identifier → List Denotation → List Cell → List Activity → World → World
with_tables is ds vs xs w = record {
  identifiers = is;
  denotations = ds;
  values = vs;
  activities = xs;
  members = w.members;
  sentences = w.sentences;
  limit = w.limit;
  used = w.used;
  layout = w.layout;
  events = w.events;
  text_left = w.text_left;
  lines_left = w.lines_left;
  passes = w.passes;
}

abbrev pub with_members : List Entered → ℕ → World → World
with_members ms n w = record {
  identifiers = w.identifiers;
  denotations = w.denotations;
  values = w.values;
  activities = w.activities;
  members = ms;
  sentences = n;
  limit = w.limit;
  used = w.used;
  layout = w.layout;
  events = w.events;
  text_left = w.text_left;
  lines_left = w.lines_left;
  passes = w.passes;
}

abbrev pub with_used : ℕ → World → World
with_used u w = record {
  identifiers = w.identifiers;
  denotations = w.denotations;
  values = w.values;
  activities = w.activities;
  members = w.members;
  sentences = w.sentences;
  limit = w.limit;
  used = u;
  layout = w.layout;
  events = w.events;
  text_left = w.text_left;
  lines_left = w.lines_left;
  passes = w.passes;
}

abbrev pub with_output : List Event → ℕ → ℕ → List Pass → World → World
with_output es text lines gs w = record {
  identifiers = w.identifiers;
  denotations = w.denotations;
  values = w.values;
  activities = w.activities;
  members = w.members;
  sentences = w.sentences;
  limit = w.limit;
  used = w.used;
  layout = w.layout;
  events = es;
  text_left = text;
  lines_left = lines;
  passes = gs;
}

-- ---- what a part of the run gives: something and the world after it, or a refusal with the steps charged. A refusal
-- is a `Why` where its place is still to be said
pub data Res (E A : Type 0) : Type 0 where
  good : A → World → Res E A
  bad : E → ℕ → Res E A

abbrev pub bind : {E A B : Type 0} → Res E A → (A → World → Res E B) → Res E B
bind (good a w) f = f a w
bind (bad e u) f = bad e u

abbrev pub placed : {E F A : Type 0} → (E → F) → Res E A → Res F A
placed f (good a w) = good a w
placed f (bad e u) = bad (f e) u

-- an answer in a world
abbrev pub ask : {A : Type 0} → Answer A → World → Res Why A
ask (gives a) w = good a w
ask (fails e) w = bad e w.used

-- ---- the meter: "it is not counted"
unfoldable pub charge : World → Res Why (Unit {0})
charge w =
    when (is_left w.limit w.used) (λ _. good tt (with_used (used_after w.limit w.used) w))
    (λ _. bad no_step w.used)

-- ---- identifiers and addresses
pub data Address : Type 0 where
  address : ℕ → Address
  unknown : Address

abbrev pub is_identifier : List ℕ → Owner → Identifier → Bool
is_identifier n k i = same i.spelling n && same_owner i.owner k

unfoldable pub address_in : List ℕ → Owner → ℕ → List Identifier → Address
address_in n k a [] = unknown
address_in n k a (i ∷ is) = when (is_identifier n k i) (λ _. address a) (λ _. address_in n k (suc a) is)

abbrev pub address_of : List ℕ → Owner → World → Address
address_of n k w = address_in n k 0 w.identifiers

-- a name seen from a scope: its own names first, then the global ones
abbrev pub or_global : Address → List ℕ → World → Address
or_global (address a) n w = address a
or_global unknown n w = address_of n everyone w

unfoldable pub seen_from : Owner → List ℕ → World → Address
seen_from k n w = or_global (address_of n k w) n w

abbrev pub denotation : ℕ → World → Denotation
denotation a w = get_or w.denotations a builtin_name

abbrev pub value_at : ℕ → World → Cell
value_at a w = get_or w.values a no_value

abbrev pub activity_at : ℕ → World → Activity
activity_at a w = get_or w.activities a inactive

abbrev pub store : ℕ → Value → World → World
store a v w = with_tables w.identifiers w.denotations (set w.values a (holds v)) w.activities w

abbrev pub set_activity : Activity → ℕ → World → World
set_activity x a w = with_tables w.identifiers w.denotations w.values (set w.activities a x) w

-- one more event, which takes some lines; its bytes take their room
abbrev pub with_event : Event → Pass → ℕ → World → World
with_event e g taken w =
    with_output (e ∷ w.events) (w.text_left - length (bytes_in e)) (w.lines_left - taken) (g ∷ w.passes) w

-- ---- the rows of a member that was entered; past them stands a row that no link leads to
abbrev pub no_stretch : Stretch
no_stretch = record { from = 0; to = 0 }

abbrev pub no_row : Row
no_row = record {
  statement = null;
  place = 0;
  parent = nowhere;
  role = listed;
  next = nowhere;
  child = nowhere;
  other = nowhere;
  lead = no_stretch;
  text = no_stretch;
}

abbrev pub row_of : List Row → ℕ → Row
row_of rs n = get_or rs n no_row

unfoldable pub rows_in : ℕ → List Entered → List Row
rows_in m [] = []
rows_in m (e ∷ es) = when (eqb e.member m) (λ _. e.source.rows) (λ _. rows_in m es)

abbrev pub rows_of : ℕ → World → List Row
rows_of m w = rows_in m w.members
