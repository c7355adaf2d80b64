-- Procedures that are running.
-- Assumes nothing.
use mathlib.Core.Path.{◌≡◌, refl, sym, ◌∙◌}
use mathlib.Core.Bool.{Bool, true, false, ◌&&◌, ◌||◌}
use mathlib.Core.List.{List}
use Prim.Native.Nat.{ℕ, zero, suc, ◌+◌, ◌-◌, ◌<◌, ◌≤◌}
use native.Mathlib.Numerals.{add-one}
use native.Mathlib.Omega.{arith}
use lib.Dec.{eqb}
use lib.ListN.{length, get_or, set}
use lib.Seq.{get_or-set_same, get_or-set_other}
use Rattle.definition.specs.Calls.{is_running}
use Rattle.names.specs.declared.Place.{Place}
use Rattle.callees.specs.declared.Running.{Running}
use Rattle.callees.specs.Answer.{blank, on_from, on_of, StartedIs}

-- ---- what is left to look at decides
pub record Looking (g : Running) (p : Place) (i : ℕ) : Type 0 where
  pub is : is_running p.member p.row (on_from g.places i (16 - i)) ≡ is_running p.member p.row (on_of g)

pub looking_start : (g : Running) (p : Place) → Looking g p g.left
looking_start g p = record { is = refl }

module _ (g : Running) (p : Place) (i : ℕ) (k : Looking g p i) where
  module _ (b : Bool) (h : i < 16) (e : b ≡ (eqb (get_or g.places i blank).member p.member && eqb (get_or g.places i blank).row p.row)) where
    more : is_running p.member p.row (on_from g.places i (16 - i)) ≡ (b || is_running p.member p.row (on_from g.places (i + 1) (16 - (i + 1))))
    unfolding on_from is_running
    more = let f : 16 - i ≡ suc (16 - (i + 1)) = omega arith in rw (f, add-one, e)

    pub looking_more : b ≡ false → Looking g p (i + 1)
    looking_more f = record { is = sym (rw f at more) ∙ k.is }

    pub looking_here : b ≡ true → true ≡ is_running p.member p.row (on_of g)
    looking_here f = sym (rw f at more) ∙ k.is

  pub looking_done : 16 ≤ i → false ≡ is_running p.member p.row (on_of g)
  unfolding on_from is_running
  looking_done h = let f : 16 - i ≡ 0 = omega arith in rw f at k.is

-- ---- one more is running
on_set : (ps : List Place) (j : ℕ) (x : Place) (i k : ℕ) → j < i → on_from (set ps j x) i k ≡ on_from ps i k
unfolding on_from
on_set ps j x i zero h = refl
on_set ps j x i (suc k) h = rw (get_or-set_other ps j i x blank (λ e. omega (arith, e)), on_set ps j x (suc i) k (omega arith))

module _ (g : Running) (p : Place) where
  pub starts_none : g.left ≡ 0 → StartedIs g p g
  starts_none h = record { left = omega arith; on = λ a b. absurd (omega (arith, h, a)) }

  pub starts_past : 16 ≤ g.left - 1 → (r : Running) → r.left ≡ g.left - 1 → StartedIs g p r
  starts_past h r e = record { left = e; on = λ a b. absurd (omega (arith, h, b)) }

  pub starts_one : length g.places ≡ 16 → StartedIs g p (record { left = g.left - 1; places = set g.places (g.left - 1) p })
  unfolding on_from
  starts_one x = record {
    left = refl;
    on = λ h k.
        let f : 16 - (g.left - 1) ≡ suc (16 - g.left) = omega arith in
        let q : suc (g.left - 1) ≡ g.left = omega arith in
        rw (f, get_or-set_same g.places (g.left - 1) p blank (omega arith), q, on_set g.places (g.left - 1) p g.left (16 - g.left) (omega arith));
  }
