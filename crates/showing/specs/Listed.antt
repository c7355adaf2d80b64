-- WHAT A RUN READS AGAIN of a row: the names that its statement lists, its place and its texts.
use Rattle.std.specs.Prelude.{ℕ, ◌<◌, ◌≤◌, true, false, cond, ◌≡◌, List, [], ◌∷◌, length}
use Rattle.definition.specs.Bytes.{mixed}
use Rattle.definition.specs.Tokens.{is_sign, token_at}
use Rattle.definition.specs.Expressions.{read}
use Rattle.definition.specs.Deck.{Sought, bare, in_library}
use Rattle.definition.specs.Program as P
use Rattle.definition.specs.Statements as St
use Rattle.rows.specs.declared.Row.{Row}
use Rattle.callees.specs.Answer.{spelled_at}
use Rattle.reading.specs.State.{stretch_of}

-- the names that the statement lists, as they are read again behind the place `at`
abbrev pub Lists : List ℕ → ℕ → P.Statement → Type 0
Lists s at P.null = Unit {0}
Lists s at (P.declare ns) = (k : P.Scope) × (c : St.Clause) × (ds : List P.Declared) × (St.declare_from mixed k s (length s) [] at ≡ St.declared c ds) × (c.statement ≡ P.declare ns)
Lists s at (P.procedure ns v) = Unit {0}
Lists s at (P.assign n x) = Unit {0}
Lists s at (P.conditional x) = Unit {0}
Lists s at P.group = Unit {0}
Lists s at (P.iterated n x bs) = Unit {0}
Lists s at (P.goto n) = Unit {0}
Lists s at (P.include ns) = (c : St.Clause) × (St.include_clause mixed s at ≡ read c) × (c.statement ≡ P.include ns)
Lists s at (P.activate xs) = (c : St.Clause) × (St.activate_clause mixed s at ≡ read c) × (c.statement ≡ P.activate xs)
Lists s at (P.deactivate ns) = (c : St.Clause) × (St.deactivate_clause mixed s at ≡ read c) × (c.statement ≡ P.deactivate ns)
Lists s at (P.return x) = Unit {0}

-- ---- INCLUDE: the item behind a place is a member's name, or a library's and in parentheses a member's
abbrev pub behind_open : List ℕ → ℕ → ℕ
behind_open s at = (token_at mixed s (token_at mixed s at).to).to

unfoldable pub sought_at : List ℕ → ℕ → Sought
sought_at s at = cond (is_sign "(" (token_at mixed s (token_at mixed s at).to).token) (in_library (spelled_at s at) (spelled_at s (behind_open s at))) (bare (spelled_at s at))

-- where the item ends
unfoldable pub item_end : List ℕ → ℕ → ℕ
item_end s at = cond (is_sign "(" (token_at mixed s (token_at mixed s at).to).token) (token_at mixed s (token_at mixed s (behind_open s at)).to).to (token_at mixed s at).to

-- the item is x, and has bytes
pub record Spells (s : List ℕ) (at : ℕ) (x : Sought) : Type 0 where
  pub is : sought_at s at ≡ x
  pub above : at < item_end s at
  pub within : item_end s at ≤ length s

-- items from the place `at` on, with commas between
abbrev pub Named : List ℕ → ℕ → List Sought → Type 0
Named s at [] = ⊥
Named s at (x ∷ []) = Spells s at x × (is_sign "," (token_at mixed s (item_end s at)).token ≡ false)
Named s at (x ∷ y ∷ ys) = Spells s at x × (is_sign "," (token_at mixed s (item_end s at)).token ≡ true) × Named s (token_at mixed s (item_end s at)).to (y ∷ ys)

-- ---- place and texts of a row, in the table and in the definition
pub record Written (r : Row) (d : P.Row) : Type 0 where
  pub place : r.place ≡ d.place
  pub lead : stretch_of r.lead ≡ d.lead
  pub text : stretch_of r.text ≡ d.text
