-- Members that run below.
-- Assumes nothing.
use Rattle.std.proofs.Common.{Some, None}
use mathlib.Core.Path.{◌≡◌, refl, sym, ap, ◌∙◌}
use mathlib.Core.Bool.{Bool, true, false, cond}
use mathlib.Core.List.{List, [], ◌∷◌}
use Prim.Native.Nat.{ℕ, zero, suc, ◌+◌, ◌-◌, ◌<◌, ◌≤◌}
use native.Mathlib.Numerals.{add-one}
use native.Mathlib.Omega.{arith}
use borrow.Author.Tests.{lt-ltb, le-ltb, eq-eqb, ne_eqb, eqb-true, eqb-false}
use lib.Dec.{eqb}
use lib.ListN.{length, get_or, set}
use lib.Seq.{get_or-set_same, get_or-set_other}
use Rattle.names.specs.declared.Place.{Place}
use Rattle.callees.specs.Answer.{place_of, blank}
use Rattle.leaving.specs.declared.Below.{Below}
use Rattle.leaving.specs.Places.{place_at, places_in, below_of, row_for, NoneBelow, WithBelow}

-- ---- one slot of the list
taken : (b : Below) (n : ℕ) → n < b.count → places_in b (suc n) ≡ place_of (get_or b.places n blank) ∷ places_in b n
unfolding places_in
taken b n h = rw (lt-ltb n b.count h)

free : (b : Below) (n : ℕ) → b.count ≤ n → places_in b (suc n) ≡ places_in b n
unfolding places_in
free b n h = rw (le-ltb n b.count h)

none_in : (b : Below) (n : ℕ) → b.count ≡ 0 → places_in b n ≡ []
unfolding places_in
none_in b zero e = refl
none_in b (suc n) e = free b n (omega (arith, e)) ∙ none_in b n e

pub none_is : (ps : List Place) → NoneBelow (record { count = 0; places = ps })
unfolding below_of
none_is ps = record { is = none_in (record { count = 0; places = ps }) 16 refl; count = refl }

-- ---- one more
module _ (b : Below) (m r : ℕ) (x : length b.places ≡ 16) (h : b.count < 16) where
  abbrev here : Place
  here = record { member = m; row = r }

  abbrev more : Below
  more = record { count = b.count + 1; places = set b.places b.count here }

  under : (n : ℕ) → n ≤ b.count → places_in more n ≡ places_in b n
  unfolding places_in
  under zero k = refl
  under (suc n) k =
      rw (lt-ltb n (b.count + 1) (omega arith), lt-ltb n b.count (omega arith), get_or-set_other b.places b.count n here blank (λ e. omega (arith, e)), under n (omega arith))

  newest : places_in more (suc b.count) ≡ place_at m r ∷ places_in b (suc b.count)
  newest =
      taken more b.count (omega arith)
      ∙ rw (get_or-set_same b.places b.count here blank (omega (arith, x, h)), under b.count (omega arith), free b b.count (omega arith))

  over : (n : ℕ) → b.count < n → places_in more n ≡ place_at m r ∷ places_in b n
  over zero k = absurd (omega arith)
  over (suc n) k = by (eqb n b.count) refl (λ g. over n g)
    where
      by : (v : Bool) → eqb n b.count ≡ v → (b.count < n → places_in more n ≡ place_at m r ∷ places_in b n) → places_in more (suc n) ≡ place_at m r ∷ places_in b (suc n)
      by true e f = rw (eqb-true n b.count e) newest
      by false e f =
          let g : n ≡ b.count → ⊥ = eqb-false n b.count e in
          let j : b.count < n = omega (arith, k, g) in
          free more n (omega arith) ∙ f j ∙ rw (free b n (omega arith))

pub with_one : (b : Below) (m r : ℕ) → length b.places ≡ 16 → b.count < 16
    → WithBelow b m r (record { count = b.count + 1; places = set b.places b.count (record { member = m; row = r }) })
unfolding below_of
with_one b m r x h = record { is = λ _. over b m r x h 16 h; count = λ _. add-one b.count }

pub with_none : (b : Below) (m r : ℕ) → 16 ≤ b.count → WithBelow b m r b
with_none b m r h = record { is = λ k. absurd (omega (arith, h, k)); count = λ k. absurd (omega (arith, h, k)) }

-- ---- what is left to look at decides
pub record Looking (b : Below) (m i : ℕ) : Type 0 where
  pub is : row_for (places_in b i) m ≡ row_for (below_of b) m

pub looking_start : (b : Below) (m : ℕ) → Looking b m 16
unfolding below_of
looking_start b m = record { is = refl }

module _ (b : Below) (m i : ℕ) (k : Looking b m i) where
  pub looking_done : i ≤ 0 → None ≡ row_for (below_of b) m
  unfolding places_in row_for
  looking_done h = let e : i ≡ 0 = omega arith in rw e at k.is

  module _ (h : 0 < i) where
    one_less : suc (i - 1) ≡ i
    one_less = omega arith

    pub looking_free : b.count ≤ i - 1 → Looking b m (i - 1)
    looking_free g = record { is = ap (λ z. row_for z m) (sym (free b (i - 1) g) ∙ ap (places_in b) one_less) ∙ k.is }

    module _ (g : i - 1 < b.count) where
      here_is : row_for (below_of b) m ≡ cond (eqb (get_or b.places (i - 1) blank).member m) (Some (get_or b.places (i - 1) blank).row) (row_for (places_in b (i - 1)) m)
      unfolding row_for
      here_is = sym k.is ∙ ap (λ z. row_for z m) (ap (places_in b) (sym one_less) ∙ taken b (i - 1) g)

      pub looking_here : (get_or b.places (i - 1) blank).member ≡ m → Some (get_or b.places (i - 1) blank).row ≡ row_for (below_of b) m
      looking_here e = sym (here_is ∙ rw (eq-eqb (get_or b.places (i - 1) blank).member m e))

      pub looking_on : ((get_or b.places (i - 1) blank).member ≡ m → ⊥) → Looking b m (i - 1)
      looking_on e = record { is = sym (here_is ∙ rw (ne_eqb (get_or b.places (i - 1) blank).member m e)) }
