-- 01, "The program and marked examples": the bytes that the program prints of an expansion. "It prints the six numbers,
-- the lines (B, C or V, then member, offset, length), then the text and a line feed." Of a refusal these are its
-- numbers and an empty line.
use Rattle.std.specs.Prelude.{ℕ, cond, List, [], ◌∷◌, ◌++◌, eqb, length}
use Prim.Native.Char.{code}
use Rattle.definition.specs.Values.{decimal_on}
use Rattle.definition.specs.Events.{Line}
use Rattle.definition.specs.Expansion.{Expansion}

abbrev pub line_feed : ℕ
line_feed = 10

-- shortest decimal; 10 turns are enough for a number of 4 bytes
unfoldable pub decimal : ℕ → List ℕ
decimal n = decimal_on 10 n []

-- what a line has behind its first word: a blank before each number, and the line feed
abbrev pub line_rest : List ℕ → List ℕ
line_rest [] = line_feed ∷ []
line_rest (n ∷ ns) = code " " ∷ decimal n ++ line_rest ns

-- "the six numbers"
unfoldable pub numbers_line : Expansion → List ℕ
numbers_line x =
    decimal x.number ++ line_rest (x.member ∷ x.offset ∷ x.steps ∷ length x.text ∷ length x.lines ∷ [])

-- an inserted blank, a copied stretch, a replaced occurrence (its value)
unfoldable pub letter : ℕ → ℕ
letter kind = cond (eqb kind 1) (code "B") (cond (eqb kind 2) (code "C") (code "V"))

-- "B, C or V, then member, offset, length"
unfoldable pub origin_line : Line → List ℕ
origin_line l = letter l.kind ∷ line_rest (l.member ∷ l.offset ∷ l.size ∷ [])

-- of lines that are given newest first
unfoldable pub origin_lines : List Line → List ℕ
origin_lines [] = []
origin_lines (l ∷ ls) = origin_lines ls ++ origin_line l

-- THE BYTES that are printed
unfoldable pub printed : Expansion → List ℕ
printed x = numbers_line x ++ origin_lines x.lines ++ x.text ++ line_feed ∷ []
