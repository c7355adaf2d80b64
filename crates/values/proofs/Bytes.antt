-- Bytes at a place, and the tests of them.
-- Assumes nothing.
use mathlib.Core.Path.{◌≡◌, refl, ap, ◌∙◌}
use mathlib.Core.Bool.{Bool, true, false, ◌&&◌, ◌||◌}
use mathlib.Core.List.{List, [], ◌∷◌}
use Prim.Native.Nat.{ℕ, zero, suc, ◌+◌, ◌-◌, ◌<◌, ◌≤◌}
use native.Mathlib.Nat.{add-zero, zero-add, suc-add, add-suc, add_assoc, not-suc-le-zero, le_of_suc-le-suc}
use native.Mathlib.Omega.{arith}
use lib.Dec.{eqb}
use lib.ListN.{get_or, get_or-eq_default}
use Rattle.std.proofs.Common.{Option, Some, None, unwrap_or}
use Rattle.std.specs.Option.{MatchOption}
use Rattle.std.specs.List.{list_all, list_any, range_with_len}
use Rattle.definition.specs.Lists.{part, all, past, leading}
use Rattle.definition.specs.Values.{any_one}
use Rattle.definition.proofs.Parts.{part_first, length_part}
use Rattle.values.specs.Digits.{Run}

-- the first of the bytes from j to n past a place, and the others
pub next : (s : List ℕ) (at n j : ℕ) → j < n → part (n - j) (at + j) s ≡ get_or s (at + j) 0 ∷ part (n - (j + 1)) (at + (j + 1)) s
next s at n j h =
    let e : at + j + 1 ≡ at + (j + 1) = omega arith in
    part_first (n - j) (n - (j + 1)) (at + j) s (omega arith) ∙ rw e

pub nothing : (s : List ℕ) (at n j : ℕ) → n ≤ j → part (n - j) (at + j) s ≡ []
nothing s at n j h = let e : n - j ≡ 0 = omega arith in rw e

pub from_first : (s : List ℕ) (at n : ℕ) → part (n - 0) (at + 0) s ≡ part n at s
from_first s at n = let e : n - 0 ≡ n = omega arith in rw (e, add-zero)

-- byte j of a part
pub part_at : (n at j d : ℕ) (s : List ℕ) → j < n → get_or (part n at s) j d ≡ get_or s (at + j) 0
part_at zero at j d s h = absurd (not-suc-le-zero h)
part_at (suc n) at zero d s h = rw add-zero
part_at (suc n) at (suc j) d s h = part_at n (suc at) j d s (le_of_suc-le-suc h) ∙ ap (λ (k : ℕ). get_or s k 0) (omega arith)

pub part_past : (n at j d : ℕ) (s : List ℕ) → n ≤ j → get_or (part n at s) j d ≡ d
part_past n at j d s h = get_or-eq_default (part n at s) d (rw length_part h)

-- ---- a test of all bytes, of any, and the run of those that pass
pub all_part : (p : ℕ → Bool) (s : List ℕ) (at i n : ℕ) → list_all (λ j. p (get_or s (at + j) 0)) (range_with_len i n) ≡ all p (part n (at + i) s)
all_part p s at i zero = refl
all_part p s at i (suc n) =
    let e : at + (i + 1) ≡ suc (at + i) = omega arith in
    ap (λ t. p (get_or s (at + i) 0) && t) (all_part p s at (i + 1) n ∙ rw e)

pub any_part : (s : List ℕ) (at i n : ℕ) → list_any (λ j. eqb (get_or s (at + j) 0) 49) (range_with_len i n) ≡ any_one (part n (at + i) s)
unfolding any_one
any_part s at i zero = refl
any_part s at i (suc n) =
    let e : at + (i + 1) ≡ suc (at + i) = omega arith in
    ap (λ t. eqb (get_or s (at + i) 0) 49 || t) (any_part s at (i + 1) n ∙ rw e)

run_at : (p : ℕ → Bool) (s : List ℕ) (m n at : ℕ) → ((k : ℕ) → k < m → p (get_or s (at + k) 0) ≡ true) → (0 < n → p (get_or s (at + m) 0) ≡ false)
    → (part m at s ≡ leading p (part (m + n) at s)) × (part n (at + m) s ≡ past p (part (m + n) at s))
run_at p s zero zero at b a = (refl, refl)
run_at p s zero (suc n) at b a =
    let e : p (get_or s at 0) ≡ false = rw add-zero at (a (omega arith)) in
    rw (zero-add, add-zero, e) (refl, refl)
run_at p s (suc m) n at b a =
    let e : p (get_or s at 0) ≡ true = rw add-zero at (b 0 (omega arith)) in
    let r = run_at p s m n (suc at) (λ k h. rw (suc-add, ← add-suc) (b (suc k) (omega arith))) (λ h. rw (suc-add, ← add-suc) (a h)) in
    rw (suc-add, e, add-suc, ← suc-add) (ap (λ (t : List ℕ). get_or s at 0 ∷ t) r.0, r.1)

run_to : (p : ℕ → Bool) (s : List ℕ) (at i n r : ℕ) → i ≤ r → r ≤ n → ((k : ℕ) → i ≤ k → k < r → p (get_or s (at + k) 0) ≡ true)
    → (r < n → p (get_or s (at + r) 0) ≡ false) → Run p s at i n r
run_to p s at i n r h k b a =
    let e : r - i + (n - r) ≡ n - i = omega arith in
    let f : at + i + (r - i) ≡ at + r = omega arith in
    let x = run_at p s (r - i) (n - r) (at + i) (λ j l. rw add_assoc (b (i + j) (omega arith) (omega arith))) (λ l. rw f (a (omega arith))) in
    record { low = h; passed = rw e at x.0; rest = rw (f, e) at x.1 }

-- by the first that fails, if there is one
pub run_found : (p : ℕ → Bool) (s : List ℕ) (at i n : ℕ) (o : Option ℕ) (r : ℕ) → i ≤ n
    → MatchOption o ((k : ℕ) → i ≤ k → k < n → p (get_or s (at + k) 0) ≡ true)
    (λ m. (i ≤ m) × (m < n) × (p (get_or s (at + m) 0) ≡ false) × ((k : ℕ) → i ≤ k → k < m → p (get_or s (at + k) 0) ≡ true))
    → r ≡ unwrap_or o n → Run p s at i n r
run_found p s at i n None r h f e = rw e (run_to p s at i n n h (omega arith) f (λ k. absurd (omega arith)))
run_found p s at i n (Some m) r h f e = rw e (run_to p s at i n m f.0 (omega (arith, f.1)) f.3 (λ k. f.2))
