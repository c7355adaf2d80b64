-- 02, C-11, card images: "members as 80-column records: source in 2 to 72, column 1 for the printer, a sequence field in
-- 73 to 80. The columns 2 to 72 of all records, joined, are what 01 calls the body". What is read and run is the plain
-- deck whose bodies are the joined columns; the places of its answer and of its lines are told as given.
use Rattle.std.specs.Prelude.{ℕ, zero, suc, ◌+◌, ◌*◌, ◌/◌, ◌%◌, Bool, true, cond, ◌&&◌, not, List, [], ◌∷◌, ◌++◌, eqb}
use Rattle.definition.specs.Limits.{record_columns, source_columns}
use Rattle.definition.specs.Lists.{part, bytes}
use Rattle.definition.specs.Deck as Deck
use Rattle.definition.specs.Events.{Event, blank, copied, replaced, joins, Line, line, longer}
pub use Rattle.definition.specs.declared.Layout.{Layout}
pub use Rattle.definition.specs.declared.Layout.TheVariants.{Plain as plain, Cards as cards}

-- "The caller says whether a deck is plain or cards": by a number, 0 is plain and any other cards
abbrev pub layout_for : ℕ → Layout
layout_for n = cond (eqb n 0) plain cards

-- ---- the deck: "decks whose bodies are such records, without line ends"
-- "20, a body that is no multiple of 80, .. place the first such member": the lines are numbered from k on
unfoldable pub uneven : ℕ → List Deck.Line → Deck.Found
uneven k [] = Deck.none
uneven k (l ∷ ls) = cond (eqb (l.size % record_columns) 0) (uneven (suc k) ls) (Deck.line k)

-- in a deck that the caller calls plain no body is
abbrev pub uneven_in : Layout → List ℕ → Deck.Found
uneven_in plain d = Deck.none
uneven_in cards d = uneven 0 (Deck.lines d)

-- columns 2 to 72 of n records, the first of which begins at a place of d
unfoldable pub columns : ℕ → ℕ → List ℕ → List ℕ
columns zero at d = []
columns (suc n) at d = part source_columns (suc at) d ++ columns n (at + record_columns) d

abbrev pub records : Deck.Line → ℕ
records l = l.size / record_columns

abbrev pub joined_size : Deck.Line → ℕ
joined_size l = source_columns * records l

-- the contents of the joined deck, whose next body begins at a place: "library name (8), member name, offset, length", in
-- the deck's own layout
unfoldable pub joined_lines : ℕ → List Deck.Line → List ℕ
joined_lines at [] = []
joined_lines at (l ∷ ls) =
    l.library ++ l.name ++ bytes 4 at ++ bytes 4 (joined_size l) ++ joined_lines (at + joined_size l) ls

unfoldable pub joined_bodies : List Deck.Line → List ℕ → List ℕ
joined_bodies [] d = []
joined_bodies (l ∷ ls) d = columns (records l) l.offset d ++ joined_bodies ls d

-- THE JOINED DECK: the same members in the same order, each body its columns 2 to 72
unfoldable pub joined : List ℕ → List ℕ
joined d =
    part 2 0 d ++ joined_lines (Deck.line_place d (Deck.count d)) (Deck.lines d) ++ joined_bodies (Deck.lines d) d

-- ---- places: "Offsets in answers and in the origin list stay offsets into the deck body as given"
-- where byte p of the joined columns stands
abbrev pub column : ℕ → ℕ
column p = record_columns * (p / source_columns) + suc (p % source_columns)

-- "A place after column 72 is column 2 of the next record, or the body's length after the last": of a joined body of so
-- many bytes
unfoldable pub given : ℕ → ℕ → ℕ
given size p = cond (eqb p size) (record_columns * (p / source_columns)) (column p)

-- ---- lines: "a copied stretch is cut into a line of its own at each record edge"
-- byte p is the first of its record
abbrev pub is_first : ℕ → Bool
is_first p = eqb (p % source_columns) 0

-- n bytes of a stretch from byte p on, behind bytes of it in the newest line
unfoldable pub goes_over : ℕ → ℕ → ℕ → List Line → List Line
goes_over m p zero ls = ls
goes_over m p (suc n) ls = goes_over m (suc p) n (cond (is_first p) (line 2 m (column p) 1 ∷ ls) (longer 1 ls))

abbrev pub cut : ℕ → ℕ → ℕ → List Line → List Line
cut m p zero ls = ls
cut m p (suc n) ls = goes_over m (suc p) n (line 2 m (column p) 1 ∷ ls)

-- the lines as given, newest first; `sizes` are the bytes of the joined bodies by member
unfoldable pub as_given : (ℕ → ℕ) → List Line → List Line
as_given sizes [] = []
as_given sizes (l ∷ ls) =
    cond (eqb l.kind 2) (cut l.member l.offset l.size (as_given sizes ls))
    (line l.kind l.member (given (sizes l.member) l.offset) l.size ∷ as_given sizes ls)

-- the lines of a run as they are told
abbrev pub lines_as : Layout → (ℕ → ℕ) → List Line → List Line
lines_as plain sizes ls = ls
lines_as cards sizes ls = as_given sizes ls

-- the lines that the copied bytes from byte p on take; `on` says whether the first goes on with the newest line
abbrev pub pieces : Bool → ℕ → List ℕ → ℕ
pieces on p [] = 0
pieces on p (b ∷ bs) = cond (on && not (is_first p)) 0 1 + pieces true (suc p) bs

unfoldable pub takes : Layout → Bool → ℕ → List ℕ → ℕ
takes plain on p bs = cond on 0 1
takes cards on p bs = pieces on p bs

-- the lines that an event takes behind others
abbrev pub taking : Layout → Event → List Event → ℕ
taking y (blank m p) es = 1
taking y (copied m p l) es = takes y (joins es m p) p l
taking y (replaced m p l) es = 1
