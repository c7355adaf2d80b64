-- NORESCAN: a value is copied from where it lies to where its outcome goes. It is not scanned, so it is never one of the
-- unfinished values, and only the room that it goes to can be full.
use Rattle.outcomes.specs.Types.{Scanned}
use Rattle.std.specs.Prelude.{ℕ, Bool, true, false, cond, ◌≡◌, List, length, Ok, Err}
use Rattle.definition.specs.Room.{over}
use Rattle.definition.specs.Values as Val
use Rattle.definition.specs.World as W
use Rattle.definition.specs.Scan as D
use Rattle.definition.specs.declared.Why.TheVariants.{NoValue}
use Rattle.meter.specs.declared.Meter.{Meter}
use Rattle.names.specs.declared.Activity.{Activity}
use Rattle.names.specs.declared.Activity.TheVariants as A
use Rattle.outcomes.specs.declared.Dest.{Dest}
use Rattle.outcomes.specs.Places.{into_of}

abbrev pub is_rescanned : Activity → Bool
is_rescanned A.Inactive = false
is_rescanned A.Rescanned = true
is_rescanned A.CopiedOnly = false

-- the answer for n bytes
unfoldable pub copied_value : Dest → ℕ → ℕ → Meter → Scanned
copied_value d u n m = cond (D.fits (into_of d) u 0 n) (Ok (n, m)) (Err ((D.full (into_of d)), m))

-- the work room and the text room with the bytes bs, if they fit: above u, or from the place on
unfoldable pub work_copied : Dest → ℕ → List ℕ → List ℕ → List ℕ
work_copied d u bs w = cond (D.fits (into_of d) u 0 (length bs)) (cond d.to_work (over w u bs) w) w

unfoldable pub text_copied : Dest → ℕ → List ℕ → List ℕ → List ℕ
text_copied d u bs t = cond (D.fits (into_of d) u 0 (length bs)) (cond d.to_work t (over t d.at bs)) t

-- THE CONTRACT: the bytes bs went to d, or they do not fit there
pub record CopiedValue (w t bs : List ℕ) (d : Dest) (u : ℕ) (m : Meter) (w' t' : List ℕ) (r : Scanned) : Type 0 where
  pub is : r ≡ copied_value d u (length bs) m
  pub work : w' ≡ work_copied d u bs w
  pub text : t' ≡ text_copied d u bs t

-- what a cell holds, if it holds a value
abbrev pub held_by : W.Cell → Val.Answer Val.Value
held_by W.no_value = Val.fails NoValue
held_by (W.holds v) = Val.gives v

-- the characters of a value went to d; or there is none, and nothing changed
abbrev pub CopiedAs : Val.Answer Val.Value → List ℕ → List ℕ → Dest → ℕ → Meter → List ℕ → List ℕ → Scanned → Type 0
CopiedAs (Val.gives v) w t d u m w' t' r = CopiedValue w t (Val.to_characters v) d u m w' t' r
CopiedAs (Val.fails y) w t d u m w' t' r = (r ≡ Err (y, m)) × (w' ≡ w) × (t' ≡ t)

pub record CopiedFrom (a : Val.Answer Val.Value) (w t : List ℕ) (d : Dest) (u : ℕ) (m : Meter) (w' t' : List ℕ) (r : Scanned) : Type 0 where
  pub is : CopiedAs a w t d u m w' t' r
