-- C-11, card images: "The columns 2 to 72 of all records, joined, are what 01 calls the body. Offsets in answers and in
-- the origin list stay offsets into the deck body as given. Demands 2 and 3 then read over the joined columns."
use Rattle.std.specs.Prelude.{ℕ, ◌+◌, ◌*◌, ◌-◌, ◌/◌, ◌%◌, ◌<◌, ◌≤◌, Bool, true, cond, ◌&&◌, List, [], ◌∷◌, ◌≡◌, eqb, length, get_or}
use Rattle.definition.specs.declared.Layout.{Layout}
use Rattle.definition.specs.declared.Layout.TheVariants.{Cards as cards}
use Rattle.definition.specs.Bytes.{mixed}
use Rattle.definition.specs.Limits.{include_levels, record_columns, source_columns}
use Rattle.definition.specs.Deck.{count, line_at, lines, none, is_sound}
use Rattle.definition.specs.Cards.{uneven, joined_size, joined, column, given}
use Rattle.definition.specs.Reading.{read_member}
use Rattle.definition.specs.Events.{Line, line, longer, list_bytes}
use Rattle.definition.specs.World.{World, good}
use Rattle.definition.specs.Names.{entered, enter}
use Rattle.definition.specs.Flow.{End}
use Rattle.definition.specs.Run.{body_of, run_member}
use Rattle.promises.specs.Origin.{Partition}
use Rattle.promises.specs.Passes.{main_passes, Honest}
use Rattle.promises.specs.Unread.{MainAtBar, with_body}
use Rattle.definition.specs.Expansion.{Expansion, world_for, expansion, size_in, told, expansion_of}

-- THE JOINED DECK of a sound one is sound and no longer; it has the same members by name, and byte p of a body is the
-- byte of the body as given that `column` names
pub record Joins (d : List ℕ) : Type 0 where
  pub sound : is_sound mixed (joined d) ≡ true
  pub shorter : length (joined d) ≤ length d
  pub counts : count (joined d) ≡ count d
  pub libraries : (m : ℕ) → m < count d → (line_at (joined d) m).library ≡ (line_at d m).library
  pub names : (m : ℕ) → m < count d → (line_at (joined d) m).name ≡ (line_at d m).name
  pub lengths : (m : ℕ) → m < count d → length (body_of (joined d) m) ≡ joined_size (line_at d m)
  pub bytes : (m p : ℕ) → m < count d → p < length (body_of (joined d) m)
      → get_or (body_of (joined d) m) p 0 ≡ get_or (body_of d m) (column p) 0

-- the place in the joined body of an offset as given
abbrev pub joined_place : ℕ → ℕ
joined_place g = source_columns * (g / record_columns) + (g % record_columns - 1)

-- PLACES of a deck of whole records: "A place after column 72 is column 2 of the next record, or the body's length after
-- the last". Each place of a joined body comes back from the one that is told
pub record Places (d : List ℕ) : Type 0 where
  pub inside : (m p : ℕ) → m < count d → p < length (body_of (joined d) m) → given (size_in (joined d) m) p ≡ column p
  pub last : (m : ℕ) → m < count d
      → given (size_in (joined d) m) (length (body_of (joined d) m)) ≡ length (body_of d m)
  pub back : (m p : ℕ) → m < count d → joined_place (given (size_in (joined d) m) p) ≡ p

-- "The caller says whether a deck is plain or cards": a run of the deck d keeps what it was told
abbrev pub KeepsLayout : List ℕ → Type 0
KeepsLayout d =
    (y : Layout) (text_room list_room steps : ℕ) (w v : World) (x : End)
    → enter 0 (read_member mixed (body_of d 0)) (world_for y text_room list_room steps) ≡ entered w
    → run_member mixed include_levels d 0 [] w ≡ good x v → v.layout ≡ y

-- IN ITS ROOMS lie the text of every expansion and its list, "cut into a line of its own at each record edge"
pub record InRooms (text_room list_room : ℕ) (x : Expansion) : Type 0 where
  pub text : length x.text ≤ text_room
  pub list : length (list_bytes x.lines) ≤ list_room

abbrev pub AllInRooms : List ℕ → Type 0
AllInRooms d =
    (y : Layout) (roomy : Bool) (text_room list_room steps : ℕ)
    → InRooms text_room list_room (expansion_of mixed y roomy d text_room list_room steps)

-- TIED: of a sound deck of whole records, and in working rooms that are long enough, the expansion over cards is that of
-- the joined deck, told by the places of the deck as given: the same number, member, steps and text. But room (17) it may
-- want sooner, since it takes more lines
abbrev pub TiedTo : List ℕ → Expansion → Expansion → Type 0
TiedTo d x y = (x.number ≡ 17 → ⊥) → x ≡ told (joined d) y

abbrev pub Tied : List ℕ → Type 0
Tied d =
    (text_room list_room steps : ℕ) → is_sound mixed d ≡ true → uneven 0 (lines d) ≡ none
    → TiedTo d (expansion_of mixed cards true d text_room list_room steps) (expansion mixed true (joined d) text_room list_room steps)

-- ---- JOINING THE PIECES: from the list as given the list of the joined deck, both newest first
-- a stretch that goes on with the line before it makes that longer
abbrev pub ends_at : Line → Line → Bool
ends_at a l = eqb l.kind 2 && eqb a.kind 2 && eqb a.member l.member && eqb (a.offset + a.size) l.offset

abbrev pub onto : Line → List Line → List Line
onto l [] = l ∷ []
onto l (a ∷ ls) = cond (ends_at a l) (longer l.size (a ∷ ls)) (l ∷ a ∷ ls)

abbrev pub rejoined : List Line → List Line
rejoined [] = []
rejoined (l ∷ ls) = onto (line l.kind l.member (joined_place l.offset) l.size) (rejoined ls)

-- REJOINED, the lines as given are those of the joined deck
abbrev pub Rejoins : List ℕ → Type 0
Rejoins d =
    (roomy : Bool) (text_room list_room steps : ℕ) → is_sound mixed d ≡ true → uneven 0 (lines d) ≡ none
    → ((expansion_of mixed cards roomy d text_room list_room steps).number ≡ 17 → ⊥)
    → rejoined (expansion_of mixed cards roomy d text_room list_room steps).lines
    ≡ (expansion mixed roomy (joined d) text_room list_room steps).lines

-- "Demands 2 and 3 then read over the joined columns": of a deck of whole records the list, its pieces joined, tells the
-- passes of the run over the joined deck
abbrev pub rejoined_of : Expansion → Expansion
rejoined_of x = record {
  number = x.number;
  member = x.member;
  offset = x.offset;
  steps = x.steps;
  text = x.text;
  lines = rejoined x.lines;
}

abbrev pub HonestCards : List ℕ → Type 0
HonestCards d =
    (text_room list_room steps : ℕ) → is_sound mixed d ≡ true → uneven 0 (lines d) ≡ none
    → Honest (joined d)
    (main_passes (enter 0 (read_member mixed (body_of (joined d) 0)) (world_for cards text_room list_room steps)) (joined d))
    (rejoined_of (expansion_of mixed cards true d text_room list_room steps))

-- ---- DEMAND 3 AS GIVEN: the lines of a card expansion cut its text as those of a plain one do (`Partition`), where "A
-- copied stretch equals its source", the body as given, and no stretch goes on with the one before it
-- "cut into a line of its own at each record edge": each stretch lies in columns 2 to 72 of one record
abbrev pub InRecords : List Line → Type 0
InRecords [] = Unit {0}
InRecords (l ∷ ls) =
    (l.kind ≡ 2 → (1 ≤ l.offset % record_columns) × (l.offset % record_columns + l.size ≤ 1 + source_columns))
    × InRecords ls

pub record CutAsGiven (d : List ℕ) (x : Expansion) : Type 0 where
  pub partition : Partition d x
  pub records : InRecords x.lines

abbrev pub AsGiven : List ℕ → Type 0
AsGiven d =
    (roomy : Bool) (text_room list_room steps : ℕ) → CutAsGiven d (expansion_of mixed cards roomy d text_room list_room steps)

-- ---- UNREAD: "A body never included, replaced by any other of that length, changes nothing in the answer, text or
-- list", here of a card deck, whose run is that of the joined one
abbrev pub UnreadCards : List ℕ → Type 0
UnreadCards d =
    (roomy : Bool) (k : ℕ) (b : List ℕ) (text_room list_room steps : ℕ)
    → is_sound mixed d ≡ true → 0 < k → k < count d → length b ≡ (line_at d k).size
    → (MainAtBar k (enter 0 (read_member mixed (body_of (joined d) 0)) (world_for cards text_room list_room steps)) (joined d) → ⊥)
    → expansion_of mixed cards roomy (with_body k b d) text_room list_room steps
    ≡ expansion_of mixed cards roomy d text_room list_room steps
