-- What is put onto the page, and THE EXPANSION that the six numbers, the text room and the list room hold.
use Rattle.std.specs.Prelude.{ℕ, zero, suc, ◌+◌, ◌*◌, ◌≤◌, ◌≡◌, List, [], ◌∷◌, ◌++◌, length, get_or}
use Rattle.definition.specs.Lists.{part, number}
use Rattle.definition.specs.Room.{over}
use Rattle.definition.specs.Events.{Line, line}
use Rattle.definition.specs.Expansion.{Expansion}
use Rattle.definition.specs.Printed.{decimal, line_rest}

-- xs, at most so many bytes, stands over the page p from a place on, and r is the place past it
pub record Puts (most : ℕ) (p : List ℕ) (at : ℕ) (xs p' : List ℕ) (r : ℕ) : Type 0 where
  pub page : p' ≡ over p at xs
  pub to : r ≡ at + length xs
  pub few : length xs ≤ most

-- a place that no answer reaches: sums below it do not overflow
abbrev pub far : ℕ
far = 1099511627776

-- the line of six numbers, which may be any
unfoldable pub six_line : List ℕ → List ℕ
six_line n = decimal (get_or n 0 0) ++ line_rest (part 5 1 n)

-- line k of the list room
unfoldable pub line_at : List ℕ → ℕ → Line
line_at l k = line (get_or l (12 * k) 0) (get_or l (12 * k + 1) 0) (number (part 4 (12 * k + 4) l)) (number (part 4 (12 * k + 8) l))

-- the first n lines of the list room, newest first
unfoldable pub lines_in : List ℕ → ℕ → List Line
lines_in l zero = []
lines_in l (suc n) = line_at l n ∷ lines_in l n

-- n lines of the list room from line k on, newest first
unfoldable pub lines_from : List ℕ → ℕ → ℕ → List Line
lines_from l k zero = []
lines_from l k (suc n) = line_at l (k + n) ∷ lines_from l k n

-- numbers n, text room t, list room l
unfoldable pub expansion_in : List ℕ → List ℕ → List ℕ → Expansion
expansion_in n t l = record {
  number = get_or n 0 0;
  member = get_or n 1 0;
  offset = get_or n 2 0;
  steps = get_or n 3 0;
  text = part (get_or n 4 0) 0 t;
  lines = lines_in l (get_or n 5 0);
}
