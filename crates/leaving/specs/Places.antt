-- The members that run below this one, each with the row where it stands: the definition's list of places.
use Rattle.std.specs.Prelude.{ℕ, zero, suc, ◌<◌, ◌≡◌, cond, List, [], ◌∷◌, eqb, ltb, length, get_or, Option, Some, None}
use Rattle.definition.specs.Calls.{Place}
use Rattle.definition.specs.World.{World, rows_of}
use Rattle.callees.specs.Answer.{place_of, blank}
use Rattle.leaving.specs.declared.Below.{Below}

abbrev pub place_at : ℕ → ℕ → Place
place_at m r = record { member = m; row = r }

-- those of the first n slots that are taken, newest first
unfoldable pub places_in : Below → ℕ → List Place
places_in b zero = []
places_in b (suc n) = cond (ltb n b.count) (place_of (get_or b.places n blank) ∷ places_in b n) (places_in b n)

unfoldable pub below_of : Below → List Place
below_of b = places_in b 16

-- the row where the newest of this member stands
unfoldable pub row_for : List Place → ℕ → Option ℕ
row_for [] m = None
row_for (p ∷ ps) m = cond (eqb p.member m) (Some p.row) (row_for ps m)

pub record NoneBelow (r : Below) : Type 0 where
  pub is : below_of r ≡ []
  pub count : r.count ≡ 0

-- one more that runs, where there is a slot
pub record WithBelow (b : Below) (m n : ℕ) (r : Below) : Type 0 where
  pub is : b.count < 16 → below_of r ≡ place_at m n ∷ below_of b
  pub count : b.count < 16 → r.count ≡ suc b.count

-- each stands at a row that is there
abbrev pub Stand : List Place → World → Type 0
Stand [] B = Unit {0}
Stand (p ∷ ps) B = (p.row < length (rows_of p.member B)) × Stand ps B
