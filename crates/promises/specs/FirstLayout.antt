-- 02, C-14, and what stays, with 01's letters: a deck of 01's layout is looked at as 01 says, and INCLUDE is read as 01 says
-- but for a `(` behind a name. (What C-15's letters leave as it was is in LowerCase.) Nothing else of the definition knows of
-- layouts or libraries: a run looks at a deck through `isSound`, `lines`, `line_at`, `count` and `find` alone.
use Rattle.std.specs.Prelude.{ℕ, zero, suc, ◌+◌, ◌*◌, ◌≤◌, Bool, true, false, cond, ◌&&◌, not, List, [], ◌∷◌, ◌≡◌, leb, length}
use Rattle.definition.specs.declared.Why.TheVariants.{Syntax as syntax}
use Rattle.definition.specs.Bytes.{capitals}
use Rattle.definition.specs.Limits.{deck_bytes, deck_lines, member_name_length}
use Rattle.definition.specs.Lists.{part, number, same}
use Rattle.definition.specs.Tokens.{is_sign, token_at}
use Rattle.definition.specs.Expressions.{Reading, refused}
use Rattle.definition.specs.Deck as Deck
use Rattle.definition.specs.Deck.{Line, is_member_name, is_padded, Found, none, line, follow, bare, in_library}
use Rattle.definition.specs.Program.{Statement, include}
use Rattle.definition.specs.Statements as St

-- ---- 01, "The deck": "Two bytes: the count n, 1 to 32. Then n lines of 16 bytes: name (8, ..), offset (4), length (4)."
abbrev pub count : List ℕ → ℕ
count d = number (part 2 0 d)

abbrev pub line_place : ℕ → ℕ
line_place k = 2 + 16 * k

unfoldable pub line_at : List ℕ → ℕ → Line
line_at d k = record {
  library = [];
  name = part member_name_length (line_place k) d;
  offset = number (part 4 (line_place k + member_name_length) d);
  size = number (part 4 (line_place k + (member_name_length + 4)) d);
}

unfoldable pub lines_from : List ℕ → ℕ → ℕ → List Line
lines_from d k zero = []
lines_from d k (suc n) = line_at d k ∷ lines_from d (suc k) n

abbrev pub lines : List ℕ → List Line
lines d = lines_from d 0 (count d)

unfoldable pub are_named : List Line → Bool
are_named [] = true
are_named (l ∷ ls) = is_member_name capitals l.name && are_named ls

-- "Names are distinct."
unfoldable pub is_repeated : List ℕ → List Line → Bool
is_repeated n [] = false
is_repeated n (l ∷ ls) = cond (same l.name n) true (is_repeated n ls)

unfoldable pub are_distinct : List Line → Bool
are_distinct [] = true
are_distinct (l ∷ ls) = not (is_repeated l.name ls) && are_distinct ls

unfoldable pub is_sound : List ℕ → Bool
is_sound d =
    leb (length d) deck_bytes
    && leb 1 (count d)
    && leb (count d) deck_lines
    && leb (line_place (count d)) (length d)
    && are_named (lines d)
    && are_distinct (lines d)
    && follow (line_place (count d)) (lines d) (length d)

-- a member is looked up by its name
unfoldable pub find : List ℕ → ℕ → List Line → Found
find w k [] = none
find w k (l ∷ ls) = cond (is_padded capitals w l.name) (line k) (find w (suc k) ls)

-- THE DECK AS 01 HAS IT: "In a deck of the first layout .. no line meets" a library
pub record Stays (d : List ℕ) : Type 0 where
  pub sound : Deck.is_sound capitals d ≡ is_sound d
  pub counted : Deck.count d ≡ count d
  pub line : (k : ℕ) → Deck.line_at d k ≡ line_at d k
  pub lined : Deck.lines d ≡ lines d
  pub found : (w : List ℕ) → Deck.find capitals (bare w) 0 (Deck.lines d) ≡ find w 0 (lines d)
  pub unmet : (l w : List ℕ) → Deck.find capitals (in_library l w) 0 (Deck.lines d) ≡ none

abbrev pub DeckStays : Type 0
DeckStays = (d : List ℕ) → count d ≤ 256 → Stays d

-- ---- 000, 3.2.1 (15): INCLUDE as 01 reads it, names with commas between them
abbrev pub bare_all : List (List ℕ) → List Deck.Sought
bare_all [] = []
bare_all (w ∷ ws) = bare w ∷ bare_all ws

abbrev pub named : List (List ℕ) → Statement
named ws = include (bare_all ws)

unfoldable pub include_clause : List ℕ → ℕ → Reading St.Clause
include_clause s at = St.list_of capitals (St.each_name capitals) named s (length s) [] at

-- READ AS 01 READS: the same, or 01 refuses a `(`
pub data ReadSo (s : List ℕ) (x : Reading St.Clause) : Reading St.Clause → Type 0 where
  alike : ReadSo s x x
  opened : (q : ℕ) → is_sign "(" (token_at capitals s q).token ≡ true → ReadSo s x (refused syntax (token_at capitals s q).from)

abbrev pub IncludeStays : Type 0
IncludeStays = (s : List ℕ) (at : ℕ) → ReadSo s (St.include_clause capitals s at) (include_clause s at)
