-- 01, "The deck": "Contents first, then bodies, numbers little-endian."
use Rattle.std.specs.Prelude.{ℕ, zero, suc, ◌+◌, ◌*◌, ◌-◌, Bool, true, false, cond, ◌&&◌, not, List, [], ◌∷◌, ◌++◌, leb, eqb, get_or, length, replicate}
use Rattle.definition.specs.Limits.{deck_bytes, deck_lines, member_name_length}
use Rattle.definition.specs.Lists.{part, number, all, past, same}
use Rattle.definition.specs.Bytes.{Letters, is_letter, is_alphameric, is_blank, folded}

-- a line of the contents: the names of its library and its member with their blanks, where the body begins, and how long
-- it is; a line of 01's layout has no library
pub record Line : Type 0 where
  pub library : List ℕ
  pub name : List ℕ
  pub offset : ℕ
  pub size : ℕ

pub data Contents : Type 0 where
  malformed : Contents
  holds : List Line → Contents

-- "Two bytes: the count n"
abbrev pub first : List ℕ → ℕ
first d = number (part 2 0 d)

-- 02, C-14: "The first two bytes of such a deck hold the count plus 256, so 257 to 288"
unfoldable pub has_libraries : List ℕ → Bool
has_libraries d = leb 257 (first d)

unfoldable pub count : List ℕ → ℕ
count d = cond (has_libraries d) (first d - 256) (first d)

-- 02, C-14: "library name (8)"
unfoldable pub library_length : List ℕ → ℕ
library_length d = cond (has_libraries d) member_name_length 0

-- where line k stands: after the count, "n lines of 16 bytes"; 02, C-14: "A contents line grows to 24 bytes"
unfoldable pub line_place : List ℕ → ℕ → ℕ
line_place d k = cond (has_libraries d) (2 + 24 * k) (2 + 16 * k)

-- "name (8, ..), offset (4), length (4)"; 02, C-14: "library name (8), member name, offset, length"
unfoldable pub line_at : List ℕ → ℕ → Line
line_at d k = record {
  library = part (library_length d) (line_place d k) d;
  name = part member_name_length (line_place d k + library_length d) d;
  offset = number (part 4 (line_place d k + (library_length d + member_name_length)) d);
  size = number (part 4 (line_place d k + (library_length d + (member_name_length + 4))) d);
}

-- n lines from line k on
unfoldable pub lines_from : List ℕ → ℕ → ℕ → List Line
lines_from d k zero = []
lines_from d k (suc n) = line_at d k ∷ lines_from d (suc k) n

abbrev pub lines : List ℕ → List Line
lines d = lines_from d 0 (count d)

-- "an identifier padded with blanks"
unfoldable pub is_member_name : Letters → List ℕ → Bool
is_member_name α w = is_letter α (get_or w 0 0) && all is_blank (past (is_alphameric α) w)

-- the library's name follows the same rule, where the layout has one
unfoldable pub are_named : Letters → Bool → List Line → Bool
are_named α b [] = true
are_named α b (l ∷ ls) = cond b (is_member_name α l.library) true && is_member_name α l.name && are_named α b ls

-- 02, C-15: "names equal but for case are one name .. member names" too
abbrev pub is_one : Letters → List ℕ → List ℕ → Bool
is_one α a b = same (folded α a) (folded α b)

-- 02, C-14: "Names must be distinct as pairs."
unfoldable pub is_repeated : Letters → Line → List Line → Bool
is_repeated α l [] = false
is_repeated α l (m ∷ ms) = cond (is_one α m.library l.library && is_one α m.name l.name) true (is_repeated α l ms)

unfoldable pub are_distinct : Letters → List Line → Bool
are_distinct α [] = true
are_distinct α (l ∷ ls) = not (is_repeated α l ls) && are_distinct α ls

-- ---- how a member is looked up
-- what INCLUDE names: a member, or 02, C-14: `library(member)`
pub data Sought : Type 0 where
  bare : List ℕ → Sought
  in_library : List ℕ → List ℕ → Sought

-- whether a name of the contents is the word w, padded with blanks
unfoldable pub is_padded : Letters → List ℕ → List ℕ → Bool
is_padded α w n = same (folded α n) (w ++ replicate (member_name_length - length w) 32)

-- "A bare member name means the first line with that member name, library ignored."; in a line of 01's layout "no line
-- meets" a library, since it has none
unfoldable pub is_called : Letters → Sought → Line → Bool
is_called α (bare w) l = is_padded α w l.name
is_called α (in_library k w) l = is_padded α k l.library && is_padded α w l.name

pub data Found : Type 0 where
  none : Found
  line : ℕ → Found

-- the first line that is called so; the lines are numbered from k on
unfoldable pub find : Letters → Sought → ℕ → List Line → Found
find α x k [] = none
find α x k (l ∷ ls) = cond (is_called α x l) (line k) (find α x (suc k) ls)

-- "Bodies follow in order without gaps; the deck ends with the last. Offsets .. must say just that."
unfoldable pub follow : ℕ → List Line → ℕ → Bool
follow at [] end = eqb at end
follow at (l ∷ ls) end = eqb l.offset at && follow (at + l.size) ls end

-- all that "The deck" asks of the bytes d
unfoldable pub is_sound : Letters → List ℕ → Bool
is_sound α d =
    leb (length d) deck_bytes
    && leb 1 (count d)
    && leb (count d) deck_lines
    && leb (line_place d (count d)) (length d)
    && are_named α (has_libraries d) (lines d)
    && are_distinct α (lines d)
    && follow (line_place d (count d)) (lines d) (length d)

unfoldable pub contents : Letters → List ℕ → Contents
contents α d = cond (is_sound α d) (holds (lines d)) malformed

-- "A member is looked at through a view": the byte of a body at a place, 0 past its end
unfoldable pub body_byte : List ℕ → Line → ℕ → ℕ
body_byte d l at = cond (leb l.size at) 0 (get_or d (l.offset + at) 0)
