-- The machine's signed numbers: what is read back is what was written, and an operation at 64 bits on two numbers of 32 is exact.
use Prim.Native.Nat.{ℕ, suc, ◌-◌, ◌≤◌, ◌<◌}
use native.Mathlib.Nat.{mul-le-mul}
use native.Mathlib.Omega.{arith}
use mathlib.Core.Bool.{Bool, true, false}
use mathlib.Core.Path.{◌≡◌, refl, sym, ◌∙◌}
use borrow.Author.Tests.{eq-eqb, ne_eqb}
use lib.Dec.{T, eqb, lit≤}
use lib.IntN.{ℤ, pos, negsuc, neg_ℤ, nat_abs, ◌+ℤ◌, ◌-ℤ◌, ◌*ℤ◌, +ℤ_idl}
use lib.Signed.{mag, nat_abs-le, non_neg, le_z, quot_z}
use mir.Syntax.{w32, w64}
use mir.Val.{Fits, SFits, to_z, of_z}
use mir.Facts.{to_z-of_z}
use Rattle.definition.specs.Limits.{least_fixed, most_fixed}
use Rattle.definition.specs.Refusal.{number_of}
use Rattle.definition.specs.Fixed.{refusal, Result, is, out_of_range, zero_divisor, in_range, ranged, quotient}
use Rattle.std.proofs.Common.{Err}
use Rattle.fixed.specs.declared.FixedError.{FixedError}
use Rattle.fixed.specs.declared.FixedError.TheVariants.{OutOfRange, ZeroDivisor}
use Rattle.fixed.specs.Answer.{result_of, why_of}
use Rattle.fixed.specs.Signed.{stored_zero, stored_of, Narrow, Widened}
use Rattle.fixed.proofs.Magnitude.{size_mag, size_negative, size_sum, size_product, size_quotient, range_size, stored_is}

-- ---- 32 bits

pub read_narrow : {z : ℤ} → mag z < 2147483648 → to_z w32 (of_z w32 z) ≡ z
read_narrow h = to_z-of_z {w = w32} (record { sfits = h })

-- ---- 64 bits

-- a number that 64 bits hold; every result of two narrow numbers is one
abbrev pub Wide : ℤ → Type 0
Wide z = nat_abs z ≤ 4611686018427387904

-- what the machine reads of a number that it wrote
abbrev pub read : ℤ → ℤ
read z = to_z w64 (of_z w64 z)

fits_as : {n z : ℤ} → n ≡ z → Wide z → SFits w64 n
fits_as {n} {z} p h = rw p (record { sfits = omega (arith, size_mag z) })

read_as : {n z : ℤ} → n ≡ z → Wide z → read n ≡ z
read_as p h = to_z-of_z {w = w64} (fits_as p h) ∙ p

pub read_wide : {a x : ℤ} → Widened x a → read a ≡ x
read_wide u = read_as u.same (omega (arith, u.small))

pub wide_is : (z r : ℤ) → mag z < 2147483648 → r ≡ to_z w32 (of_z w32 z) → Widened z (read r)
wide_is z r h e = record { same = read_as (e ∙ read_narrow h) (omega (arith, nat_abs-le z h)); small = nat_abs-le z h }

pub wide_literal : (n : ℕ) → n ≤ 2147483648 → Widened (pos n) (pos n)
wide_literal n h = record { same = refl; small = h }

-- what each operation cites: where the exact result is wide, it is what the machine gives
module _ (op : ℤ → ℤ → ℤ) (size : (x y : ℤ) → Narrow x → Narrow y → Wide (op x y)) {a b x y : ℤ} (u : Widened x a) (v : Widened y b) where
  operands : op (read a) (read b) ≡ op x y
  operands = rw (read_wide u, read_wide v)

  pub op_fits : SFits w64 (op (read a) (read b))
  op_fits = fits_as operands (size x y u.small v.small)

  pub op_read : read (op (read a) (read b)) ≡ op x y
  op_read = read_as operands (size x y u.small v.small)

module _ (x y : ℤ) (p : Narrow x) (q : Narrow y) where
  pub sum_size : Wide (x +ℤ y)
  sum_size = omega (arith, size_sum x y)

  pub difference_size : Wide (x -ℤ y)
  difference_size = omega (arith, size_sum x (neg_ℤ y), size_negative y)

  pub product_size : Wide (x *ℤ y)
  product_size = rw size_product (mul-le-mul p q)

  pub quotient_size : Wide (quot_z x y)
  quotient_size = omega (arith, size_quotient x y)

module _ {a x : ℤ} (u : Widened x a) where
  pub negative_fits : SFits w64 (pos 0 -ℤ read a)
  negative_fits = op_fits ◌-ℤ◌ difference_size (wide_literal 0 (lit≤ tt)) u

  pub negative_read : read (pos 0 -ℤ read a) ≡ neg_ℤ x
  negative_read = op_read ◌-ℤ◌ difference_size (wide_literal 0 (lit≤ tt)) u ∙ +ℤ_idl (neg_ℤ x)

-- the difference of two unsigned numbers of 32 bits
pub unsigned_is : {a : ℤ} (n : ℕ) → n < 4294967296 → a ≡ pos n → read a ≡ pos n
unsigned_is n h e = read_as e (omega arith)

module _ {a b : ℤ} (m n : ℕ) (p : m < 4294967296) (q : n < 4294967296) (e : a ≡ pos m) (f : b ≡ pos n) where
  unsigned : read a -ℤ read b ≡ pos m -ℤ pos n
  unsigned = rw (unsigned_is m p e, unsigned_is n q f)

  size : Wide (pos m -ℤ pos n)
  size = omega (arith, size_sum (pos m) (neg_ℤ (pos n)), size_negative (pos n))

  pub unsigned_fits : SFits w64 (read a -ℤ read b)
  unsigned_fits = fits_as unsigned size

  pub unsigned_read : read (read a -ℤ read b) ≡ pos m -ℤ pos n
  unsigned_read = read_as unsigned size

-- a cast to an unsigned number of 32 bits
pub cast_fits : {z : ℤ} {n : ℕ} → z ≡ pos n → n < 4294967296 → T (non_neg z) × Fits w32 (nat_abs z)
cast_fits p h = rw p (tt, record { fits = h })

-- ---- the range

module _ {a m n : ℤ} (p : m ≡ n) (l : a ≡ least_fixed) where
  least_read : read a ≡ least_fixed
  least_read = read_as l (lit≤ tt)

  pub least_passed : {b : ℤ} → b ≡ most_fixed → le_z (read a) m ≡ true → le_z m (read b) ≡ in_range n
  unfolding in_range
  least_passed u e = rw (read_as u (lit≤ tt), ← p, rw least_read at e)

  pub least_failed : le_z (read a) m ≡ false → le_z (read a) m ≡ in_range n
  unfolding in_range
  least_failed e = rw (least_read, ← p, rw least_read at e)

module _ {m n : ℤ} {r : Bool} (p : m ≡ n) (d : r ≡ in_range m) where
  pub range_fits : r ≡ true → SFits w32 m
  range_fits e = record { sfits = omega (arith, size_mag m, range_size m (sym d ∙ e)) }

  pub range_is : r ≡ true → is (to_z w32 (of_z w32 m)) ≡ ranged n
  unfolding ranged
  range_is e = rw (to_z-of_z (range_fits e), ← p, ← d, e)

  pub range_out : r ≡ false → out_of_range ≡ ranged n
  unfolding ranged
  range_out e = rw (← p, ← d, e)

-- ---- the stored form

module _ {a x : ℤ} {r : Bool} (u : Widened x a) (d : r ≡ in_range (read a)) where
  in_range_lem : {t : Bool} → r ≡ t → in_range x ≡ t
  in_range_lem e = sym (rw (read_wide u) at d) ∙ e

  pub stored_read : r ≡ true → read (read a +ℤ stored_zero) ≡ pos (stored_of x)
  stored_read e = op_read ◌+ℤ◌ sum_size u (wide_literal 100000 (lit≤ tt)) ∙ sym (stored_is x (in_range_lem e)).same

  pub stored_fits : r ≡ true → T (non_neg (read (read a +ℤ stored_zero))) × Fits w32 (nat_abs (read (read a +ℤ stored_zero)))
  stored_fits e = cast_fits (stored_read e) (omega (arith, (stored_is x (in_range_lem e)).most))

  pub stored_out : r ≡ false → 0 ≡ stored_of x
  unfolding stored_of
  stored_out e = rw (in_range_lem e)

-- ---- zero

zero_bits : (z : ℤ) → Narrow z → eqb (of_z w64 z) 0 ≡ eqb (nat_abs z) 0
zero_bits (pos n) h = refl
zero_bits (negsuc n) h =
    ne_eqb (18446744073709551616 - suc n) 0 (λ e. omega arith) ∙ sym (ne_eqb (suc n) 0 (λ e. omega arith))

module _ (x : ℤ) {b y : ℤ} (v : Widened y b) where
  zero_test : eqb (of_z w64 b) 0 ≡ eqb (nat_abs y) 0
  zero_test = rw v.same (zero_bits y v.small)

  pub divisor_zero : of_z w64 b ≡ 0 → zero_divisor ≡ quotient x y
  unfolding quotient
  divisor_zero e = rw (← zero_test, eq-eqb _ 0 e)

  pub divisor_other : {R : Result} → (of_z w64 b ≡ 0 → ⊥) → R ≡ ranged (quot_z x y) → R ≡ quotient x y
  unfolding quotient
  divisor_other n e = rw (← zero_test, ne_eqb _ 0 n) e

-- ---- 01's number of the refusal that an error is
pub refusal_is : (e : FixedError) → number_of (why_of e) ≡ refusal (result_of (Err e))
refusal_is OutOfRange = refl
refusal_is ZeroDivisor = refl
