-- WHAT A CALLER MAY RELY ON, said of calls themselves: of the six numbers and of the rooms at exit. Each statement is proved in
-- proofs/Corollaries.antt, of every call that `Meets` the promise of `expand`.
use Rattle.std.specs.Prelude.{ℕ, ◌*◌, ◌-◌, ◌<◌, ◌≤◌, ◌≡◌, true, false, List, ◌++◌, reverse, length, take, drop}
use Rattle.definition.specs.declared.Layout.{Layout}
use Rattle.definition.specs.declared.Layout.TheVariants.{Plain, Cards}
use Rattle.definition.specs.Bytes.{capitals, mixed}
use Rattle.definition.specs.Room.{zeros}
use Rattle.definition.specs.Deck as Deck
use Rattle.definition.specs.Deck.{is_sound}
use Rattle.definition.specs.Cards.{uneven_in, joined}
use Rattle.definition.specs.Reading.{read_member}
use Rattle.definition.specs.Events.{Line}
use Rattle.definition.specs.World.{Pass}
use Rattle.definition.specs.Names.{enter}
use Rattle.definition.specs.Run.{body_of}
use Rattle.definition.specs.Expansion as X
use Rattle.definition.specs.Expansion.{world_for, told, expansion_of, text_room_after, list_room_after}
use Rattle.printing.specs.Page.{lines_in, expansion_in}
use Rattle.promises.specs.Origin.{Cuts, Longest}
use Rattle.promises.specs.Passes.{Told, Scans, outside, passing, main_passes, listed_places, active_places}
use Rattle.promises.specs.Unread.{MainAtBar, NeverIncluded, with_body}
use Rattle.promises.specs.LowerCase.{BareNames, BareSources, BareValues, as_read}
use Rattle.promises.specs.Cards.{InRecords, rejoined}
use Rattle.expander.specs.declared.Expansion.{Expansion}
use Rattle.expander.specs.Answer.{bare, refusal_at, numbers_of}
use Rattle.expander.specs.Promise.{Working, is_roomy, Zero, answer_of, six_of, Expanded}

-- ---- A CALL of `expand`: what it is given, and what it gives back
pub record Call : Type 0 where
  pub layout : Layout
  pub deck : List ℕ
  pub text : List ℕ
  pub list : List ℕ
  pub working : Working
  pub steps : ℕ
  pub answer : Expansion
  pub text_after : List ℕ
  pub list_after : List ℕ
  pub working_after : Working

abbrev pub Meets : Call → Type 0
Meets c =
    Expanded c.layout c.deck c.text c.list c.working c.steps c.answer c.text_after c.list_after
    c.working_after

-- the lines that lie in the list room at exit, newest first, by "Twelve bytes a line"; and the bytes of the text
abbrev pub lines_out : Call → List Line
lines_out c = lines_in c.list_after c.answer.lines

abbrev pub text_out : Call → List ℕ
text_out c = take c.answer.text c.text_after

-- a list room in which 2^32 lines have no room, 48 GiB: all its lines are counted
abbrev pub Countable : Call → Type 0
Countable c = length c.list < 51539607552

-- ---- demand 1: the numbers. 1 is given exactly when the deck is malformed, 20 exactly when it is sound and a body of card images is no
-- whole number of records, 2 exactly when neither is so and a working room is too short
pub record Numbered (c : Call) : Type 0 where
  pub malformed : is_sound mixed c.deck ≡ false → c.answer ≡ bare 1
  pub one : c.answer.number ≡ 1 → is_sound mixed c.deck ≡ false
  pub uneven : (k : ℕ) → is_sound mixed c.deck ≡ true → uneven_in c.layout c.deck ≡ Deck.line k → c.answer ≡ refusal_at 20 k 0 0
  pub twenty : c.answer.number ≡ 20 → (is_sound mixed c.deck ≡ true) × (uneven_in c.layout c.deck ≡ Deck.line c.answer.member)
  pub short : is_sound mixed c.deck ≡ true → uneven_in c.layout c.deck ≡ Deck.none → is_roomy c.working ≡ false → c.answer ≡ bare 2
  pub two : c.answer.number ≡ 2 → (is_sound mixed c.deck ≡ true) × (uneven_in c.layout c.deck ≡ Deck.none) × (is_roomy c.working ≡ false)
  pub most : c.answer.number ≤ 20
  pub place : c.answer.offset < 65536
  pub steps : c.answer.steps ≤ c.steps

-- a place is one of the body as given, or just behind it
abbrev pub Placed : Call → Type 0
Placed c =
    is_sound mixed c.deck ≡ true
    → (c.answer.member < Deck.count c.deck) × (c.answer.offset ≤ length (body_of c.deck c.answer.member))

-- "A refusal reports text length and lines 0, rooms all zero"
pub record Empty (c : Call) : Type 0 where
  pub size : c.answer.text ≡ 0
  pub lines : c.answer.lines ≡ 0
  pub text : Zero c.text c.text_after
  pub list : Zero c.list c.list_after

abbrev pub Refused : Call → Type 0
Refused c = (c.answer.number ≡ 0 → ⊥) → Empty c

-- "Past the reported ends both rooms are zero."
pub record Ended (c : Call) : Type 0 where
  pub within : c.answer.text ≤ length c.text
  pub text : drop c.answer.text c.text_after ≡ zeros (length c.text - c.answer.text)
  pub lines : Countable c → 12 * c.answer.lines ≤ length c.list
  pub list : Countable c → drop (12 * c.answer.lines) c.list_after ≡ zeros (length c.list - 12 * c.answer.lines)

-- ---- WHAT IS READ OFF the numbers and the rooms is the definition's expansion: its text, its lines, and all of it, as `printing` reads
-- it to print it
abbrev pub defined_for : Call → X.Expansion
defined_for c = answer_of c.layout c.deck c.text c.list c.working c.steps

abbrev pub read_off : Call → X.Expansion
read_off c = expansion_in (six_of c.answer) c.text_after c.list_after

pub record ReadOff (c : Call) : Type 0 where
  pub text : text_out c ≡ (defined_for c).text
  pub lines : Countable c → lines_out c ≡ (defined_for c).lines
  pub whole : Countable c → read_off c ≡ defined_for c

-- the passes of the run of a plain deck that the call tells the result of
abbrev pub passes_for : Call → List Pass
passes_for c = passing (is_roomy c.working) c.deck (length c.text) (length c.list) c.steps

-- ---- demand 3: "Every byte of the text belongs to exactly one line of the list, in order ..", a copied stretch equals its source in
-- the deck as given, and is as long as can be
pub record Partitioned (c : Call) : Type 0 where
  pub cut : Cuts c.deck (reverse (lines_out c)) (text_out c)
  pub longest : Longest (reverse (lines_out c))

-- C-11: "a copied stretch is cut into a line of its own at each record edge"
abbrev pub Recorded : Call → Type 0
Recorded c = c.layout ≡ Cards → InRecords (lines_out c)

-- of a plain deck: "no name in it .. was active when the scan passed. Every name .. that was active .. is listed once for each pass": the list and the
-- text tell the passes of the run, which cover its texts
pub record Honest (c : Call) : Type 0 where
  pub told : Told (passes_for c) (lines_out c) (text_out c)
  pub scans : Scans c.deck (passes_for c) outside
  pub listed : listed_places (lines_out c) ≡ active_places (passes_for c)

-- the same of card images, sound and of whole records, in rooms that are long enough: "Demands 2 and 3 then read over the
-- joined columns" (C-11), the pieces of the list joined
abbrev pub card_passes : Call → List Pass
card_passes c =
    main_passes
    (enter 0 (read_member mixed (body_of (joined c.deck) 0)) (world_for Cards (length c.text) (length c.list) c.steps))
    (joined c.deck)

pub record HonestCards (c : Call) : Type 0 where
  pub told : Told (card_passes c) (rejoined (lines_out c)) (text_out c)
  pub scans : Scans (joined c.deck) (card_passes c) outside
  pub listed : listed_places (rejoined (lines_out c)) ≡ active_places (card_passes c)

-- ---- C-16: of two calls with one deck, the second with no fewer steps and rooms no shorter
pub record Longer (v w : Working) : Type 0 where
  pub rows : length v.rows ≤ length w.rows
  pub names : length v.names ≤ length w.names
  pub cells : length v.cells ≤ length w.cells
  pub low : length v.low ≤ length w.low
  pub high : length v.high ≤ length w.high
  pub work : length v.work ≤ length w.work
  pub joined : length v.joined ≤ length w.joined

pub record Larger (c e : Call) : Type 0 where
  pub layout : e.layout ≡ c.layout
  pub deck : e.deck ≡ c.deck
  pub text : length c.text ≤ length e.text
  pub list : length c.list ≤ length e.list
  pub working : Longer c.working e.working
  pub steps : c.steps ≤ e.steps

-- the same six numbers, and the same bytes in the two rooms, with zeros behind them
pub record Same (c e : Call) : Type 0 where
  pub numbers : e.answer ≡ c.answer
  pub text : e.text_after ≡ c.text_after ++ zeros (length e.text - length c.text)
  pub list : e.list_after ≡ c.list_after ++ zeros (length e.list - length c.list)

-- "a run that finishes also finishes with any larger step limit or rooms .. A run refused with 1 or with 3 to 16 or 19 is refused
-- alike"
abbrev pub MoreKeeps : Call → Call → Type 0
MoreKeeps c e =
    Larger c e → (c.answer.number ≡ 2 → ⊥) → (c.answer.number ≡ 17 → ⊥) → (c.answer.number ≡ 18 → ⊥) → Same c e

-- ---- "A body never included, replaced by any other of that length, changes nothing in the answer, text or list."
abbrev pub NeverIn : Layout → ℕ → List ℕ → ℕ → ℕ → ℕ → Type 0
NeverIn Plain k d text_room list_room steps = NeverIncluded k d text_room list_room steps
NeverIn Cards k d text_room list_room steps =
    MainAtBar k (enter 0 (read_member mixed (body_of (joined d) 0)) (world_for Cards text_room list_room steps)) (joined d) → ⊥

pub record Rewritten (k : ℕ) (b : List ℕ) (c e : Call) : Type 0 where
  pub layout : e.layout ≡ c.layout
  pub deck : e.deck ≡ with_body k b c.deck
  pub text : length e.text ≡ length c.text
  pub list : length e.list ≡ length c.list
  pub working : is_roomy e.working ≡ is_roomy c.working
  pub steps : e.steps ≡ c.steps
  pub sound : is_sound mixed c.deck ≡ true
  pub not_main : 0 < k
  pub line : k < Deck.count c.deck
  pub size : length b ≡ (Deck.line_at c.deck k).size
  pub never : NeverIn c.layout k c.deck (length c.text) (length c.list) c.steps

pub record Alike (c e : Call) : Type 0 where
  pub numbers : e.answer ≡ c.answer
  pub text : e.text_after ≡ c.text_after
  pub list : e.list_after ≡ c.list_after

abbrev pub UnreadBody : Call → Call → Type 0
UnreadBody c e = (k : ℕ) (b : List ℕ) → Rewritten k b c e → Alike c e

-- ---- C-15: "A deck without lower-case letters outside strings and comments, in its member names, sources and values, keeps its
-- answer, text and list": the numbers and the rooms are those of the expansion with 01's letters
pub record WithoutLowerCase (c : Call) : Type 0 where
  pub names : BareNames c.deck
  pub sources : BareSources (as_read c.layout c.deck)
  pub values : BareValues c.layout (as_read c.layout c.deck) (length c.text) (length c.list) c.steps

abbrev pub defined_before : Call → X.Expansion
defined_before c =
    expansion_of capitals c.layout (is_roomy c.working) c.deck (length c.text) (length c.list) c.steps

pub record Kept (c : Call) : Type 0 where
  pub numbers : c.answer ≡ numbers_of (defined_before c)
  pub text : c.text_after ≡ text_room_after (length c.text) (defined_before c)
  pub list : c.list_after ≡ list_room_after (length c.list) (defined_before c)

abbrev pub KeepsCase : Call → Type 0
KeepsCase c = WithoutLowerCase c → Kept c

-- ---- what lay in the rooms does not matter: calls with the same deck, lengths and steps are answered alike
pub record Even (c e : Call) : Type 0 where
  pub layout : e.layout ≡ c.layout
  pub deck : e.deck ≡ c.deck
  pub text : length e.text ≡ length c.text
  pub list : length e.list ≡ length c.list
  pub working : is_roomy e.working ≡ is_roomy c.working
  pub steps : e.steps ≡ c.steps

abbrev pub Determined : Call → Call → Type 0
Determined c e = Even c e → Alike c e

-- ---- C-11: of a call with cards and a plain call with the joined deck, in rooms of the same lengths
pub record Beside (c e : Call) : Type 0 where
  pub cards : c.layout ≡ Cards
  pub plain : e.layout ≡ Plain
  pub deck : e.deck ≡ joined c.deck
  pub text : length e.text ≡ length c.text
  pub list : length e.list ≡ length c.list
  pub working : is_roomy e.working ≡ is_roomy c.working
  pub steps : e.steps ≡ c.steps

-- what is read off the first is what is read off the second, told by the places of the deck as given; and the pieces of its lines,
-- joined, are the lines of the second. But room (17) the first may want sooner
abbrev pub Tied : Call → Call → Type 0
Tied c e =
    Beside c e → Countable c → Countable e → is_sound mixed c.deck ≡ true → uneven_in c.layout c.deck ≡ Deck.none
    → (c.answer.number ≡ 2 → ⊥) → (c.answer.number ≡ 17 → ⊥)
    → (read_off c ≡ told (joined c.deck) (read_off e)) × (rejoined (lines_out c) ≡ lines_out e)
