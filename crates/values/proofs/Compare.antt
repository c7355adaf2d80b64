-- Comparison: what is left of both sides decides.
-- Assumes nothing.
use mathlib.Core.Path.{◌≡◌, refl, sym, ap, ◌∙◌}
use mathlib.Core.Bool.{Bool, true, false, not, cond}
use mathlib.Core.List.{List, [], ◌∷◌}
use Prim.Native.Nat.{ℕ, zero, suc, ◌+◌, ◌-◌, ◌<◌, ◌≤◌, max}
use native.Mathlib.Nat.{le_refl}
use native.Mathlib.Numerals.{add-one}
use native.Mathlib.Omega.{arith}
use borrow.Author.Tests.{lt-ltb, le-ltb}
use lib.IntN.{ℤ}
use lib.ListN.{length, get_or, take, drop, drop_of_length-le}
use lib.Signed.{lt_z}
use Rattle.definition.specs.Lists.{part}
use Rattle.definition.specs.Values as D
use Rattle.definition.specs.Values.{Value, order_of, bytes_order, numbers_order, infixed, comparing}
use Rattle.definition.proofs.Parts.{length_part}
use Rattle.values.specs.Answers.{order_for, order_in, is_wanted, operator_of}
use Rattle.std.proofs.Math.Seq.{drop-cons}
use Rattle.std.specs.declared.cmp.Ordering.{Ordering}
use Rattle.std.specs.declared.cmp.Ordering.TheVariants as O
use Rattle.std.specs.Ordering.{MatchOrdering, nat_cmp, int_cmp, is_eq, is_ne, is_lt, is_gt, is_le, is_ge}
use Rattle.std.proofs.lemmas.Cmp.{ranked}
use Rattle.values.specs.declared.Comparison.{Comparison}
use Rattle.values.specs.declared.Comparison.TheVariants.{Greater, GreaterEqual, Equal, Less, LessEqual, NotGreater, NotEqual, NotLess}
use Rattle.values.proofs.Bytes.{part_at, part_past}

-- ---- a byte or what the shorter side is filled with
pub byte_in : (s : List ℕ) (at n j d b : ℕ) → j < n → b ≡ get_or s (at + j) 0 → b ≡ get_or (part n at s) j d
byte_in s at n j d b h e = e ∙ sym (part_at n at j d s h)

pub byte_out : (s : List ℕ) (at n j d : ℕ) → n ≤ j → d ≡ get_or (part n at s) j d
byte_out s at n j d h = sym (part_past n at j d s h)

-- ---- what both begin with alike, where they lie inside
inside : (n a : ℕ) (s : List ℕ) → a + n ≤ length s → take n (drop a s) ≡ part n a s
inside zero a s h = refl
inside (suc n) a s h = rw (drop-cons s a 0 (omega arith)) (ap (λ (t : List ℕ). get_or s a 0 ∷ t) (inside n (suc a) s (omega arith)))

slice_inside : (s : List ℕ) (a n : ℕ) → a ≤ length s → n ≤ length s - a → take (a + n - a) (drop a s) ≡ part n a s
slice_inside s a n h k = let e : a + n - a ≡ n = omega arith in rw e (inside n a s (omega arith))

pub alike_inside : (s t : List ℕ) (a n b m r : ℕ) → a ≤ length s → n ≤ length s - a → b ≤ length t → m ≤ length t - b
    → take r (take (a + n - a) (drop a s)) ≡ take r (take (b + m - b) (drop b t)) → take r (part n a s) ≡ take r (part m b t)
alike_inside s t a n b m r h k i l e = rw (slice_inside s a n h k, slice_inside t b m i l) at e

-- ---- byte by byte
drop_none : (j : ℕ) → drop {A = ℕ} j [] ≡ []
drop_none zero = refl
drop_none (suc j) = refl

order_step : (pad : ℕ) (xs ys : List ℕ) (j : ℕ)
    → bytes_order pad (drop j xs) (drop j ys) ≡ order_of (get_or xs j pad) (get_or ys j pad) (bytes_order pad (drop (suc j) xs) (drop (suc j) ys))
unfolding bytes_order order_of
order_step pad [] [] zero = rw (le-ltb pad pad (le_refl pad))
order_step pad [] (y ∷ ys) zero = refl
order_step pad (x ∷ xs) [] zero = refl
order_step pad (x ∷ xs) (y ∷ ys) zero = refl
order_step pad [] [] (suc j) = rw (le-ltb pad pad (le_refl pad))
order_step pad [] (y ∷ ys) (suc j) = rw drop_none at (order_step pad [] ys j)
order_step pad (x ∷ xs) [] (suc j) = rw drop_none at (order_step pad xs [] j)
order_step pad (x ∷ xs) (y ∷ ys) (suc j) = order_step pad xs ys j

pub record Comparing (pad : ℕ) (xs ys : List ℕ) (j : ℕ) : Type 0 where
  pub is : bytes_order pad (drop j xs) (drop j ys) ≡ bytes_order pad xs ys

-- what both begin with alike decides nothing
past_alike : (pad j : ℕ) (xs ys : List ℕ) → take j xs ≡ take j ys → bytes_order pad (drop j xs) (drop j ys) ≡ bytes_order pad xs ys
unfolding bytes_order order_of
past_alike pad zero xs ys e = refl
past_alike pad (suc j) [] [] e = refl
past_alike pad (suc j) [] (y ∷ ys) e = absurd (cc)
past_alike pad (suc j) (x ∷ xs) [] e = absurd (cc)
past_alike pad (suc j) (x ∷ xs) (y ∷ ys) e =
    let p : x ≡ y = cc in
    let q : take j xs ≡ take j ys = cc in
    rw (p, le-ltb y y (le_refl y)) (past_alike pad j xs ys q)

pub comparing_past_alike : (pad j : ℕ) (xs ys : List ℕ) → take j xs ≡ take j ys → Comparing pad xs ys j
comparing_past_alike pad j xs ys e = record { is = past_alike pad j xs ys e }

module _ (pad : ℕ) (xs ys : List ℕ) (j : ℕ) (c : Comparing pad xs ys j) (x y : ℕ) (p : x ≡ get_or xs j pad) (q : y ≡ get_or ys j pad) where
  step : order_of x y (bytes_order pad (drop (suc j) xs) (drop (suc j) ys)) ≡ bytes_order pad xs ys
  step = rw (p, q) (sym (order_step pad xs ys j) ∙ c.is)

  module _ (o : Ordering) (e : o ≡ nat_cmp x y) where
    pub comparing_apart : is_ne o ≡ true → o ≡ order_for (bytes_order pad xs ys)
    unfolding order_of
    comparing_apart f = go o (ranked x y o e) f
      where
        go : (r : Ordering) → MatchOrdering r (x < y) (x ≡ y) (y < x) → is_ne r ≡ true → r ≡ order_for (bytes_order pad xs ys)
        go O.Less h f = ap order_for (rw (lt-ltb x y h) at step)
        go O.Equal h f = absurd (cc)
        go O.Greater h f = ap order_for (rw (le-ltb x y (omega (arith, h)), lt-ltb y x h) at step)

    pub comparing_more : is_ne o ≡ false → Comparing pad xs ys (j + 1)
    unfolding order_of
    comparing_more f = go o (ranked x y o e) f
      where
        go : (r : Ordering) → MatchOrdering r (x < y) (x ≡ y) (y < x) → is_ne r ≡ false → Comparing pad xs ys (j + 1)
        go O.Less h f = absurd (cc)
        go O.Equal h f = record { is = rw add-one (rw (le-ltb x y (omega (arith, h)), le-ltb y x (omega (arith, h))) at step) }
        go O.Greater h f = absurd (cc)

pub comparing_done : (pad : ℕ) (s : List ℕ) (a n : ℕ) (t : List ℕ) (b m j most : ℕ)
    → Comparing pad (part n a s) (part m b t) j → most ≡ max n m → most ≤ j → O.Equal ≡ order_for (bytes_order pad (part n a s) (part m b t))
unfolding bytes_order
comparing_done pad s a n t b m j most c e h =
    let p : drop j (part n a s) ≡ [] = drop_of_length-le (part n a s) {i = j} (rw length_part (omega arith)) in
    let q : drop j (part m b t) ≡ [] = drop_of_length-le (part m b t) {i = j} (rw length_part (omega arith)) in
    ap order_for (rw (p, q) at c.is)

-- ---- numbers
pub numbers_compared : (x y : ℤ) → int_cmp x y ≡ order_for (numbers_order x y)
unfolding numbers_order
numbers_compared x y = go (lt_z x y) (lt_z y x)
  where
    go : (r t : Bool) → cond r O.Less (cond t O.Greater O.Equal) ≡ order_for (cond r D.below (cond t D.above D.alike))
    go true t = refl
    go false true = refl
    go false false = refl

-- ---- each comparison tests what its operator tests
same_order : (o : D.Order) → order_in (order_for o) ≡ o
same_order D.below = refl
same_order D.alike = refl
same_order D.above = refl

pub is_gt_in : (o : Ordering) → is_gt o ≡ D.is_above (order_in o)
is_gt_in O.Less = refl
is_gt_in O.Equal = refl
is_gt_in O.Greater = refl

pub is_ge_in : (o : Ordering) → is_ge o ≡ not (D.is_below (order_in o))
is_ge_in O.Less = refl
is_ge_in O.Equal = refl
is_ge_in O.Greater = refl

pub is_eq_in : (o : Ordering) → is_eq o ≡ D.is_alike (order_in o)
is_eq_in O.Less = refl
is_eq_in O.Equal = refl
is_eq_in O.Greater = refl

pub is_lt_in : (o : Ordering) → is_lt o ≡ D.is_below (order_in o)
is_lt_in O.Less = refl
is_lt_in O.Equal = refl
is_lt_in O.Greater = refl

pub is_le_in : (o : Ordering) → is_le o ≡ not (D.is_above (order_in o))
is_le_in O.Less = refl
is_le_in O.Equal = refl
is_le_in O.Greater = refl

pub is_ne_in : (o : Ordering) → is_ne o ≡ not (D.is_alike (order_in o))
is_ne_in O.Less = refl
is_ne_in O.Equal = refl
is_ne_in O.Greater = refl

pub ruleset tests_order = (is_gt_in, is_ge_in, is_eq_in, is_lt_in, is_le_in, is_ne_in)

pub wanted : (u : ℕ) (c : Comparison) (x y : Value) → infixed u (operator_of c) x y ≡ comparing (λ o. is_wanted c (order_for o)) x y
unfolding infixed
wanted u Greater x y = simp same_order
wanted u GreaterEqual x y = simp same_order
wanted u Equal x y = simp same_order
wanted u Less x y = simp same_order
wanted u LessEqual x y = simp same_order
wanted u NotGreater x y = simp same_order
wanted u NotEqual x y = simp same_order
wanted u NotLess x y = simp same_order
