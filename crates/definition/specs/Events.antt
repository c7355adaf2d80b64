-- 01, "Origin list": a run gives events; the text is one view of them, the origin list the other.
use Rattle.std.specs.Prelude.{ℕ, ◌+◌, Bool, false, cond, ◌&&◌, List, [], ◌∷◌, ◌++◌, eqb, length}
use Rattle.definition.specs.Lists.{bytes}

-- each with its member and its place: an inserted blank, a token copied, the outcome of one replacement
pub data Event : Type 0 where
  blank : ℕ → ℕ → Event
  copied : ℕ → ℕ → List ℕ → Event
  replaced : ℕ → ℕ → List ℕ → Event

abbrev pub bytes_in : Event → List ℕ
bytes_in (blank m p) = 32 ∷ []
bytes_in (copied m p l) = l
bytes_in (replaced m p l) = l

-- THE FIRST VIEW. A list of events has the newest first
unfoldable pub text_of : List Event → List ℕ
text_of [] = []
text_of (e ∷ es) = text_of es ++ bytes_in e

-- "Twelve bytes a line: kind, member, two zeros, offset (4), length (4). Kind 1: inserted blank. Kind 2: copied
-- stretch. Kind 3: one replaced occurrence."
pub record Line : Type 0 where
  pub kind : ℕ
  pub member : ℕ
  pub offset : ℕ
  pub size : ℕ

abbrev pub line : ℕ → ℕ → ℕ → ℕ → Line
line k m p n = record { kind = k; member = m; offset = p; size = n }

-- a copied token at the place p makes the copied stretch longer that ends there: "as long as can be"
unfoldable pub goes_on : Event → ℕ → ℕ → Bool
goes_on (blank n q) m p = false
goes_on (copied n q l) m p = eqb n m && eqb (q + length l) p
goes_on (replaced n q l) m p = false

-- whether a token copied from the place p goes on with the newest event
abbrev pub joins : List Event → ℕ → ℕ → Bool
joins [] m p = false
joins (e ∷ es) m p = goes_on e m p

abbrev pub longer : ℕ → List Line → List Line
longer n [] = []
longer n (l ∷ ls) = line l.kind l.member l.offset (l.size + n) ∷ ls

abbrev pub line_onto : Event → List Event → List Line → List Line
line_onto (blank m p) es ls = line 1 m p 1 ∷ ls
line_onto (copied m p l) es ls = cond (joins es m p) (longer (length l) ls) (line 2 m p (length l) ∷ ls)
line_onto (replaced m p l) es ls = line 3 m p (length l) ∷ ls

-- THE SECOND VIEW, newest first
unfoldable pub lines_of : List Event → List Line
lines_of [] = []
lines_of (e ∷ es) = line_onto e es (lines_of es)

abbrev pub line_bytes : Line → List ℕ
line_bytes l = l.kind ∷ l.member ∷ 0 ∷ 0 ∷ bytes 4 l.offset ++ bytes 4 l.size

-- the bytes of lines that are given newest first
unfoldable pub list_bytes : List Line → List ℕ
list_bytes [] = []
list_bytes (l ∷ ls) = list_bytes ls ++ line_bytes l
