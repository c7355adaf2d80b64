-- THE TEXT THAT IS SCANNED: a stretch of a body or of the work room. And the names in it that are active.
use Rattle.names.specs.declared.Activity.{Activity}
use Rattle.names.specs.declared.Address.{Address}
use Rattle.std.specs.Prelude.{ℕ, zero, suc, ◌-◌, ◌<◌, ◌≤◌, cond, ◌≡◌, List, [], ◌∷◌, length, Option, Some, None}
use Rattle.definition.specs.Bytes.{mixed}
use Rattle.definition.specs.Limits.{text_bytes}
use Rattle.definition.specs.Lists.{part}
use Rattle.definition.specs.Tokens as T
use Rattle.definition.specs.World as W
use Rattle.definition.specs.World.{World}
use Rattle.definition.specs.Scan as D
use Rattle.tokens.specs.declared.Piece.{Piece}
use Rattle.tokens.specs.Answer.{piece_for}
use Rattle.names.specs.Table.{name_in, activity_of, identifiers_from}
use Rattle.sums.specs.Numbers.{greatest, sum_to}
use Rattle.outcomes.specs.declared.Src.{Src}

-- the room that a source lies in: s is a body, w the work room
unfoldable pub room_of : List ℕ → List ℕ → Src → List ℕ
room_of s w x = cond x.in_work w s

-- the stretch from a place of t to another
unfoldable pub stretch_of : List ℕ → ℕ → ℕ → List ℕ
stretch_of t from to = part (to - from) from t

-- THE SOURCE, as a text
unfoldable pub text_of : List ℕ → List ℕ → Src → List ℕ
text_of s w x = stretch_of (room_of s w x) x.from x.to

-- it lies in its room
pub record Within (t : List ℕ) (from to : ℕ) : Type 0 where
  pub order : from ≤ to
  pub within : to ≤ length t
  pub short : to ≤ text_bytes

pub record PieceIn (t : List ℕ) (from to p : ℕ) (r : Piece) : Type 0 where
  pub is : Within t from to → p < to - from → r ≡ piece_for (T.piece_at mixed (stretch_of t from to) p)

abbrev pub part_of : Src → ℕ → ℕ → Src
part_of x from to = record { in_work = x.in_work; from = sum_to greatest x.from from; to = sum_to greatest x.from to }

-- ---- active names
abbrev pub active_for : Option (Address × Activity) → D.Active
active_for None = D.not_active
active_for (Some (a, y)) = D.active a.0 (activity_of y)

unfoldable pub activities_from : List ℕ → ℕ → ℕ → List W.Activity
activities_from t a zero = []
activities_from t a (suc n) = activity_of (name_in t a).activity ∷ activities_from t (suc a) n

-- the names that the table has, n of them, are those of the world B, and so are their activities
pub record Awake (d t : List ℕ) (n : ℕ) (B : World) : Type 0 where
  pub identifiers : B.identifiers ≡ identifiers_from d t 0 n
  pub activities : B.activities ≡ activities_from t 0 n

-- whether the bytes l are a name that is active
pub record ActiveIs (d t : List ℕ) (n : ℕ) (l : List ℕ) (r : Option (Address × Activity)) : Type 0 where
  pub is : (B : World) → Awake d t n B → active_for r ≡ D.active_name l B

-- the same of the token y that stands at p of a source in the room t
pub record ActiveHere (d names : List ℕ) (n : ℕ) (t : List ℕ) (x : Src) (p : ℕ) (y : Piece) (r : Option (Address × Activity)) : Type 0 where
  pub is : (B : World) → Awake d names n B → Within t x.from x.to → p < x.to - x.from
      → y ≡ piece_for (T.piece_at mixed (stretch_of t x.from x.to) p)
      → active_for r ≡ D.active_in (T.piece_at mixed (stretch_of t x.from x.to) p).piece B
