-- Stretches of the work room: read, written, moved, and what is below them.
-- Assumes nothing.
use mathlib.Core.Path.{◌≡◌, refl, sym, ap, ◌∙◌}
use mathlib.Core.List.{List, [], ◌∷◌, ◌++◌}
use Prim.Native.Nat.{ℕ, zero, suc, ◌+◌, ◌-◌, ◌<◌, ◌≤◌}
use native.Mathlib.Nat.{add-zero, not-suc-le-zero, le_of_suc-le-suc}
use native.Mathlib.Omega.{arith}
use borrow.Author.Tests.{le-leb, lt-leb}
use lib.ListN.{length, get_or, take}
use lib.Seq.{get_or-take}
use Rattle.definition.specs.Lists.{part}
use Rattle.definition.specs.Room.{over}
use Rattle.definition.proofs.Parts.{length_part, part_more, part_first}
use Rattle.definition.proofs.Rooms.{length_over, over_nil, over_before, over_next_at, get_d_over_low, get_d_over_high}
use Rattle.operators.specs.Stands.{top_of, MovedDown, MovedUp}
use Rattle.operators.specs.Sides.{Raised}

-- ---- what was written is read back
cons_cong : (a b : ℕ) (k l : List ℕ) → a ≡ b → k ≡ l → ◌≡◌ {A = List ℕ} (a ∷ k) (b ∷ l)
cons_cong a b k l e f = rw (e, f)

up : (n at x : ℕ) (s : List ℕ) → part n (suc at) (x ∷ s) ≡ part n at s
up zero at x s = refl
up (suc n) at x s = ap (λ (t : List ℕ). get_or s at 0 ∷ t) (up n (suc at) x s)

pub part_over : (l w : List ℕ) (u : ℕ) → u + length l ≤ length w → part (length l) u (over w u l) ≡ l
part_over [] w u h = refl
part_over (x ∷ l) [] u h = absurd (omega arith)
part_over (x ∷ l) (r ∷ rs) zero h = ap (λ (t : List ℕ). x ∷ t) (up (length l) 0 x (over rs zero l) ∙ part_over l rs zero (omega arith))
part_over (x ∷ l) (r ∷ rs) (suc u) h = up (suc (length l)) u r (over rs u (x ∷ l)) ∙ part_over (x ∷ l) rs u (omega arith)

-- the same with the length given by an equation
pub part_written : (n u : ℕ) (w w' l : List ℕ) → n ≡ length l → w' ≡ over w u l → u + length l ≤ length w → part n u w' ≡ l
part_written n u w w' l e f h = rw (e, f) (part_over l w u h)

-- ---- what is below is as it was
pub take_over : (u t : ℕ) (w l : List ℕ) → u ≤ t → take u (over w t l) ≡ take u w
take_over zero t w l h = refl
take_over (suc u) t [] l h = refl
take_over (suc u) zero (r ∷ rs) l h = absurd (not-suc-le-zero h)
take_over (suc u) (suc t) (r ∷ rs) l h = ap (λ (k : List ℕ). r ∷ k) (take_over u t rs l (le_of_suc-le-suc h))

pub below_over : (u t : ℕ) (w w' l : List ℕ) → u ≤ t → w' ≡ over w t l → take u w' ≡ take u w
below_over u t w w' l h e = rw e (take_over u t w l h)

part_take : (n t u : ℕ) (w : List ℕ) → t + n ≤ u → part n t (take u w) ≡ part n t w
part_take zero t u w h = refl
part_take (suc n) t u w h = cons_cong (get_or (take u w) t 0) (get_or w t 0) (part n (suc t) (take u w)) (part n (suc t) w)
    (get_or-take u w t 0 (omega arith)) (part_take n (suc t) u w (omega arith))

pub part_below : (n t u : ℕ) (w w' : List ℕ) → take u w' ≡ take u w → t + n ≤ u → part n t w' ≡ part n t w
part_below n t u w w' e h = sym (part_take n t u w' h) ∙ ap (part n t) e ∙ part_take n t u w h

-- what is above is as it was
pub part_above : (n t u : ℕ) (w l : List ℕ) → u + length l ≤ t → part n t (over w u l) ≡ part n t w
part_above zero t u w l h = refl
part_above (suc n) t u w l h = cons_cong (get_or (over w u l) t 0) (get_or w t 0) (part n (suc t) (over w u l)) (part n (suc t) w)
    (get_d_over_high w u t l h) (part_above n (suc t) u w l (omega arith))

-- ---- two stretches, one after the other
-- what is there already
pub over_self : (n u : ℕ) (w : List ℕ) → over w u (part n u w) ≡ w
over_self n u [] = refl
over_self zero zero (r ∷ rs) = refl
over_self (suc n) zero (r ∷ rs) = ap (λ (t : List ℕ). r ∷ t) (ap (over rs 0) (up n 0 r rs) ∙ over_self n 0 rs)
over_self n (suc u) (r ∷ rs) = ap (λ (t : List ℕ). r ∷ t) (ap (over rs u) (up n u r rs) ∙ over_self n u rs)

pub over_behind : (n u : ℕ) (w l : List ℕ) → over w (u + n) l ≡ over w u (part n u w ++ l)
over_behind n u w l =
    let e : length (part n u w) ≡ n = length_part n u w in
    ap (λ (r : List ℕ). over r (u + n) l) (sym (over_self n u w)) ∙ over_next_at w u (u + n) (part n u w) l (omega (arith, e))

-- ---- places
pub top_in_lem : (u n : ℕ) → u + n ≤ 65536 → top_of u n ≡ u + n
unfolding top_of
top_in_lem u n h = rw (le-leb (u + n) 65536 h)

pub top_out : (u n : ℕ) → 65536 < u + n → top_of u n ≡ 65536
unfolding top_of
top_out u n h = rw (lt-leb (u + n) 65536 h)

-- ---- bytes come down: the first j are there
pub record Lowering (r₀ : List ℕ) (from n to : ℕ) (r : List ℕ) (j : ℕ) : Type 0 where
  pub low : j ≤ n
  pub size : length r ≡ length r₀
  pub is : to ≤ from → r ≡ over r₀ to (part j from r₀)

pub lowering_start : (r : List ℕ) (from n to : ℕ) → Lowering r from n to r 0
lowering_start r from n to = record { low = omega arith; size = refl; is = λ h. sym (over_nil r to) }

pub lowering_more : (r₀ : List ℕ) (from n to : ℕ) (r r' : List ℕ) (j b : ℕ) → Lowering r₀ from n to r j → j < n
    → b ≡ get_or r (from + j) 0 → r' ≡ over r (to + j) (b ∷ []) → Lowering r₀ from n to r' (j + 1)
lowering_more r₀ from n to r r' j b c h e f = record {
  low = omega arith;
  size = ap length f ∙ length_over r (to + j) (b ∷ []) ∙ c.size;
  is = λ k.
      let l : length (part j from r₀) ≡ j = length_part j from r₀ in
      let g : b ≡ get_or r₀ (from + j) 0 = e ∙ rw (c.is k) (get_d_over_high r₀ to (from + j) (part j from r₀) (omega (arith, l))) in
      f ∙ rw (g, c.is k, part_more) (over_next_at r₀ to (to + j) (part j from r₀) (get_or r₀ (from + j) 0 ∷ []) (omega (arith, l)));
}

pub lowering_done : (r₀ : List ℕ) (from n to : ℕ) (r : List ℕ) (j : ℕ) → Lowering r₀ from n to r j → n ≤ j → MovedDown r₀ from n to r
lowering_done r₀ from n to r j c h = record { is = λ k. let e : j ≡ n = omega (arith, c.low) in rw e at (c.is k) }

-- ---- bytes go up: those from j on are there
pub record Raising (r₀ : List ℕ) (from n to : ℕ) (r : List ℕ) (j : ℕ) : Type 0 where
  pub low : j ≤ n
  pub size : length r ≡ length r₀
  pub is : from ≤ to → r ≡ over r₀ (to + j) (part (n - j) (from + j) r₀)

pub raising_start : (r : List ℕ) (from n to : ℕ) → Raising r from n to r n
raising_start r from n to = record
    { low = omega arith; size = refl; is = λ h. let e : n - n ≡ 0 = omega arith in rw e (sym (over_nil r (to + n))) }

pub raising_more : (r₀ : List ℕ) (from n to : ℕ) (r r' : List ℕ) (j b : ℕ) → Raising r₀ from n to r j → 0 < j
    → b ≡ get_or r (from + (j - 1)) 0 → r' ≡ over r (to + (j - 1)) (b ∷ []) → Raising r₀ from n to r' (j - 1)
raising_more r₀ from n to r r' j b c h e f = record {
  low = omega (arith, c.low);
  size = ap length f ∙ length_over r (to + (j - 1)) (b ∷ []) ∙ c.size;
  is = λ k.
      let i = j - 1 in
      let q : to + j ≡ suc (to + i) = omega arith in
      let p : from + j ≡ from + i + 1 = omega arith in
      let g : b ≡ get_or r₀ (from + i) 0 = e ∙ rw (c.is k) (get_d_over_low r₀ (to + j) (from + i) (part (n - j) (from + j) r₀) (omega arith)) in
      let d : part (n - i) (from + i) r₀ ≡ get_or r₀ (from + i) 0 ∷ part (n - j) (from + j) r₀ =
      part_first (n - i) (n - j) (from + i) r₀ (omega (arith, c.low)) ∙ rw p in
      let s : over r (to + i) (b ∷ []) ≡ over (over r₀ (suc (to + i)) (part (n - j) (from + j) r₀)) (to + i) (get_or r₀ (from + i) 0 ∷ []) = rw (g, c.is k, q) in
      f ∙ s ∙ over_before r₀ (to + i) (get_or r₀ (from + i) 0) (part (n - j) (from + j) r₀) ∙ sym (ap (over r₀ (to + i)) d);
}

pub raising_done : (r₀ : List ℕ) (from n to : ℕ) (r : List ℕ) (j : ℕ) → Raising r₀ from n to r j → j ≤ 0 → MovedUp r₀ from n to r
raising_done r₀ from n to r j c h = record {
  is = λ k.
      let e : j ≡ 0 = omega arith in
      let z : n - 0 ≡ n = omega arith in
      rw (e, add-zero, add-zero, z) at (c.is k);
}

pub raise_is : (w w' : List ℕ) (u m k t : ℕ) → t ≡ top_of u k → MovedUp w u m t w' → Raised w u m k w'
raise_is w w' u m k t e h = record {
  is = λ l.
      let q : t ≡ u + k = e ∙ top_in_lem u k l in
      rw q at (h.is (rw q (omega arith)));
}
