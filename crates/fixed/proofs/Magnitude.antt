-- Facts on whole numbers as facts on their magnitudes, which omega reads: how large a result can be, what is in range, and the stored form.
use Prim.Native.Nat.{ℕ, zero, suc, ◌+◌, ◌-◌, ◌*◌, ◌≤◌}
use native.Mathlib.Nat.{le_refl, div-le_self}
use native.Mathlib.Omega.{arith}
use mathlib.Core.Bool.{Bool, true, false, not, cond, ◌&&◌}
use mathlib.Core.Path.{◌≡◌, refl, sym, ap, ◌∙◌}
use borrow.Author.Tests.{le-ltb, leb-true, eqb-true, eq-eqb}
use lib.Dec.{leb, ltb, leb-suc-suc}
use lib.IntN.{ℤ, pos, negsuc, neg_ℤ, nat_abs, sub_ℕ, ◌+ℤ◌, ◌-ℤ◌, ◌*ℤ◌, +ℤ-neg_ℤ_cancel}
use lib.Signed.{mag, lt_z, non_neg, quot_z}
use Rattle.definition.specs.Fixed.{is, in_range, ranged}
use Rattle.definition.specs.Values.{signed_by}
use Rattle.fixed.specs.Signed.{eq_z, stored_zero, stored_of, from_stored}

pub size_mag : (z : ℤ) → mag z ≤ nat_abs z
size_mag (pos n) = le_refl n
size_mag (negsuc n) = omega arith

pub size_negative : (z : ℤ) → nat_abs (neg_ℤ z) ≡ nat_abs z
size_negative (pos zero) = refl
size_negative (pos (suc n)) = refl
size_negative (negsuc n) = refl

size_either : (t : Bool) (m n : ℕ) {k : ℕ} → suc m ≤ k → n ≤ k → nat_abs (cond t (negsuc m) (pos n)) ≤ k
size_either true m n p q = p
size_either false m n p q = q

size_less : (a b : ℕ) → nat_abs (sub_ℕ a (suc b)) ≤ a + suc b
size_less a b = size_either (ltb a (suc b)) (suc b - suc a) (a - suc b) (omega arith) (omega arith)

pub size_sum : (x y : ℤ) → nat_abs (x +ℤ y) ≤ nat_abs x + nat_abs y
size_sum (pos a) (pos b) = le_refl (a + b)
size_sum (pos a) (negsuc b) = size_less a b
size_sum (negsuc a) (pos b) = omega (arith, size_less b a)
size_sum (negsuc a) (negsuc b) = omega arith

pub size_product : (x y : ℤ) → nat_abs (x *ℤ y) ≡ nat_abs x * nat_abs y
size_product (pos a) (pos b) = refl
size_product (pos a) (negsuc b) = size_negative (pos (a * suc b))
size_product (negsuc a) (pos b) = size_negative (pos (suc a * b))
size_product (negsuc a) (negsuc b) = refl

pub size_quotient : (x y : ℤ) → nat_abs (quot_z x y) ≤ nat_abs x
size_quotient (pos a) (pos b) = div-le_self a b
size_quotient (pos a) (negsuc b) = rw size_negative (div-le_self a (suc b))
size_quotient (negsuc a) (pos b) = rw size_negative (div-le_self (suc a) b)
size_quotient (negsuc a) (negsuc b) = div-le_self (suc a) (suc b)

-- ---- the range

and_true : (t : Bool) → t && true ≡ t
and_true true = refl
and_true false = refl

pub in_range_lem : (z : ℤ) → in_range z ≡ leb (nat_abs z) 99999
unfolding in_range
in_range_lem (pos n) = refl
in_range_lem (negsuc n) = and_true (leb n 99998) ∙ sym (leb-suc-suc n 99998)

pub range_size : (z : ℤ) → in_range z ≡ true → nat_abs z ≤ 99999
range_size z e = leb-true (nat_abs z) 99999 (sym (in_range_lem z) ∙ e)

-- ---- the sign

pub below_zero : (z : ℤ) → lt_z z (pos 0) ≡ not (non_neg z)
below_zero (pos n) = le-ltb n 0 (omega arith)
below_zero (negsuc n) = refl

-- ---- equality

pub eq_z_same : (z : ℤ) → eq_z z z ≡ true
eq_z_same (pos n) = eq-eqb n n refl
eq_z_same (negsuc n) = eq-eqb n n refl

pub eq_z_true : (x y : ℤ) → eq_z x y ≡ true → x ≡ y
eq_z_true (pos a) (pos b) e = ap pos (eqb-true a b e)
eq_z_true (pos a) (negsuc b) e = cc
eq_z_true (negsuc a) (pos b) e = cc
eq_z_true (negsuc a) (negsuc b) e = ap negsuc (eqb-true a b e)

-- ---- sign and magnitude

pub signed_size : (negative : Bool) (m : ℕ) → nat_abs (signed_by negative m) ≡ m
signed_size true m = size_negative (pos m)
signed_size false m = refl

pub signed_back : (z : ℤ) → signed_by (not (non_neg z)) (nat_abs z) ≡ z
signed_back (pos n) = refl
signed_back (negsuc n) = refl

-- ---- the stored form

pub record Stored (z : ℤ) (n : ℕ) : Type 0 where
  pub same : pos n ≡ z +ℤ stored_zero
  pub least : 1 ≤ n
  pub most : n ≤ 199999

shifted : (z : ℤ) → nat_abs z ≤ 99999 → Stored z (nat_abs (z +ℤ stored_zero))
shifted (pos n) h = record { same = refl; least = omega arith; most = omega arith }
shifted (negsuc n) h =
    rw (le-ltb 100000 (suc n) (omega arith)) (record { same = rw (le-ltb 100000 (suc n) (omega arith)); least = omega arith; most = omega arith })

pub stored_is : (z : ℤ) → in_range z ≡ true → Stored z (stored_of z)
unfolding stored_of
stored_is z e = rw e (shifted z (range_size z e))

-- what was stored comes back, for every number in range
pub stored_back : (z : ℤ) → in_range z ≡ true → from_stored (stored_of z) ≡ is z
unfolding from_stored ranged
stored_back z e =
    ap (λ (w : ℤ). ranged (w -ℤ stored_zero)) (stored_is z e).same ∙ rw (+ℤ-neg_ℤ_cancel z stored_zero, e)
