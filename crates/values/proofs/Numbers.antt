-- CHARACTER and BIT to FIXED: the digits are read up to what no FIXED has, and what is left of them decides.
-- Assumes nothing.
use Rattle.values.specs.declared.NumberError.TheVariants.{NoConversion, OutOfRange}
use Rattle.values.specs.declared.NumberError.{NumberError}
use Rattle.fixed.specs.declared.FixedError.TheVariants as X
use Rattle.std.proofs.Common.{Result, Ok, Err}
use Rattle.fixed.specs.declared.FixedError.{FixedError}
use mathlib.Core.Path.{◌≡◌, refl, sym, ap, ◌∙◌}
use mathlib.Core.Bool.{Bool, true, false, cond, ◌&&◌}
use mathlib.Core.List.{List, [], ◌∷◌}
use Prim.Native.Nat.{ℕ, ◌+◌, ◌*◌, ◌-◌, ◌<◌, ◌≤◌}
use native.Mathlib.Nat.{le_refl, le_trans}
use native.Mathlib.Omega.{arith}
use borrow.Author.Tests.{eq-eqb, ne_eqb, lt-ltb, le-leb, lt-leb}
use lib.Dec.{eqb, leb}
use lib.IntN.{ℤ, pos}
use lib.ListN.{length, get_or}
use mir.Syntax.{w32}
use mir.Val.{Fits}
use Rattle.definition.specs.Lists.{part, all, past, leading}
use Rattle.definition.specs.Bytes.{is_digit, is_blank}
use Rattle.definition.specs.Fixed as F
use Rattle.definition.specs.Values.{gives, from_fixed, signed_by, written, unsigned, number_in, to_fixed, characters, bit_value, constant}
use Rattle.definition.proofs.Parts.{length_part}
use Rattle.std.specs.Result.{MatchResult, IsErrAnd}
use Rattle.std.proofs.lemmas.Result.{err_from_is_err_and}
use Rattle.fixed.specs.Answer.{result_of}
use Rattle.fixed.specs.declared.Fixed.{Fixed}
use Rattle.fixed.proofs.Magnitude.{in_range_lem, signed_size}
use Rattle.values.specs.declared.Base.{Base}
use Rattle.values.specs.declared.Base.TheVariants.{Two, Ten}
use Rattle.values.specs.Answers.{answer_of}
use Rattle.values.specs.Digits.{base_of, capped, digits_in, Run}
use Rattle.values.proofs.Bytes.{next, nothing, from_first}

-- ---- the number that digits write
-- more digits write no less
written_ge : (b : Base) (n : ℕ) (l : List ℕ) → n ≤ written (base_of b) n l
unfolding written
written_ge Two n [] = le_refl n
written_ge Ten n [] = le_refl n
written_ge Two n (d ∷ ds) = le_trans (omega arith) (written_ge Two (2 * n + (d - 48)) ds)
written_ge Ten n (d ∷ ds) = le_trans (omega arith) (written_ge Ten (10 * n + (d - 48)) ds)

times_small : (b : Base) (n : ℕ) → n ≤ 99999 → base_of b * n ≤ 999990
times_small Two n h = omega arith
times_small Ten n h = omega arith

pub record Reading (b : Base) (s : List ℕ) (at i n value j : ℕ) : Type 0 where
  pub small : value ≤ 99999
  pub is : written (base_of b) value (part (n - j) (at + j) s) ≡ written (base_of b) 0 (part (n - i) (at + i) s)

pub reading_start : (b : Base) (s : List ℕ) (at i n : ℕ) → Reading b s at i n 0 i
reading_start b s at i n = record { small = omega arith; is = refl }

module _ (b : Base) (s : List ℕ) (at i n value j : ℕ) (k : Reading b s at i n value j) where
  pub times_fits : (times : ℕ) → times ≡ base_of b → Fits w32 (times * value)
  times_fits times t = rw t (omega (arith, times_small b value k.small))

  pub next_fits : (times x d : ℕ) → times ≡ base_of b → x < 256 → d ≡ x - 48 → Fits w32 (times * value + d)
  next_fits times x d t h e = rw t (omega (arith, times_small b value k.small))

  pub reading_done : n ≤ j → value ≡ capped (written (base_of b) 0 (part (n - i) (at + i) s))
  unfolding capped written
  reading_done h =
      let e : value ≡ written (base_of b) 0 (part (n - i) (at + i) s) = rw (nothing s at n j h) at k.is in
      rw (← e, le-leb value 99999 k.small)

  module _ (times x d : ℕ) (h : j < n) (t : times ≡ base_of b) (e : x ≡ get_or s (at + j) 0) (f : d ≡ x - 48) where
    step : written (base_of b) (times * value + d) (part (n - (j + 1)) (at + (j + 1)) s) ≡ written (base_of b) 0 (part (n - i) (at + i) s)
    unfolding written
    step = rw (t, f, e) (rw (next s at n j h) at k.is)

    pub reading_more : times * value + d < 100000 → Reading b s at i n (times * value + d) (j + 1)
    reading_more g = record { small = omega arith; is = step }

    pub reading_over : 100000 ≤ times * value + d → 100000 ≡ capped (written (base_of b) 0 (part (n - i) (at + i) s))
    unfolding capped
    reading_over g =
        let v = written (base_of b) 0 (part (n - i) (at + i) s) in
        let w : 99999 < v = omega (arith, written_ge b (times * value + d) (part (n - (j + 1)) (at + (j + 1)) s), step) in
        rw (lt-leb v 99999 w)

-- ---- the range
range_of : (negative : Bool) (m : ℕ) → F.in_range (signed_by negative m) ≡ leb m 99999
range_of negative m = rw (in_range_lem, signed_size)

never_zero : (z : ℤ) → F.ranged z ≡ F.zero_divisor → ⊥
unfolding F.ranged
never_zero z = go (F.in_range z)
  where
    go : (t : Bool) → cond t (F.is z) F.out_of_range ≡ F.zero_divisor → ⊥
    go true e = let q : ◌≡◌ {A = ℕ} 0 1 = cc in omega arith
    go false e = let q : ◌≡◌ {A = ℕ} 0 1 = cc in omega arith

-- past the range it does not matter how far
ranged_capped : (negative : Bool) (n : ℕ) → F.ranged (signed_by negative (capped n)) ≡ F.ranged (signed_by negative n)
unfolding capped F.ranged
ranged_capped negative n = go (leb n 99999) refl
  where
    go : (t : Bool) → leb n 99999 ≡ t → F.ranged (signed_by negative (cond t n 100000)) ≡ F.ranged (signed_by negative n)
    go true e = refl
    go false e = rw (range_of negative 100000, range_of negative n, e)

-- each error of a magnitude, which divides nothing, becomes out of range
pub number_made : (negative : Bool) (m : ℕ) (a : Result Fixed FixedError) (r : Result Fixed NumberError) (Q : FixedError → NumberError → Type 0)
    → result_of a ≡ F.ranged (signed_by negative m) → MatchResult a (λ x. r ≡ Ok x) (λ e. IsErrAnd r (Q e)) → ((e : FixedError) (d : NumberError) → Q e d → d ≡ OutOfRange)
    → answer_of r ≡ from_fixed (F.ranged (signed_by negative m))
number_made negative m (Ok x) r Q g h q = rw h (ap from_fixed g)
number_made negative m (Err X.OutOfRange) r Q g h q =
    let p = err_from_is_err_and r h in
    rw (p.1, q X.OutOfRange p.0 p.2) (ap from_fixed g)
number_made negative m (Err X.ZeroDivisor) r Q g h q = absurd (never_zero _ (sym g))

-- ---- digits and blanks
and_false : (t : Bool) → (t && false) ≡ false
and_false true = refl
and_false false = refl

module _ (negative : Bool) (s : List ℕ) (at i n e : ℕ) (run : Run is_digit s at i n e) where
  count : length (leading is_digit (part (n - i) (at + i) s)) ≡ e - i
  count = ap length (sym run.passed) ∙ length_part (e - i) (at + i) s

  pub digits_none : e ≡ i → answer_of (Err NoConversion) ≡ digits_in negative (part (n - i) (at + i) s)
  unfolding digits_in
  digits_none h = let k : e - i ≡ 0 = omega arith in rw (count, k)

  module _ (t : Bool) (f : t ≡ all is_blank (part (n - e) (at + e) s)) where
    pub digits_wrong : t ≡ false → answer_of (Err NoConversion) ≡ digits_in negative (part (n - i) (at + i) s)
    unfolding digits_in
    digits_wrong h = rw (← run.rest, ← f, h, and_false)

    pub digits_read : (e ≡ i → ⊥) → t ≡ true → (m : ℕ) (r : Result Fixed NumberError) → m ≡ capped (written 10 0 (part (e - i) (at + i) s))
        → answer_of r ≡ from_fixed (F.ranged (signed_by negative m)) → answer_of r ≡ digits_in negative (part (n - i) (at + i) s)
    unfolding digits_in
    digits_read g h m r p q =
        let k : 0 < e - i = omega (arith, run.low) in
        let v : F.ranged (signed_by negative m) ≡ F.ranged (signed_by negative (written 10 0 (part (e - i) (at + i) s))) = rw p (ranged_capped negative _) in
        rw (count, lt-ltb 0 (e - i) k, ← run.rest, ← f, h, ← run.passed) (q ∙ ap from_fixed v)

-- ---- CHARACTER to FIXED
rest_number : (b : ℕ) (l : List ℕ) → number_in (b ∷ l) ≡ digits_in (eqb b 45) (unsigned (b ∷ l))
unfolding number_in digits_in
rest_number b l = refl

module _ (s : List ℕ) (at n i : ℕ) (run : Run is_blank s at 0 n i) where
  past_is : past is_blank (part n at s) ≡ part (n - i) (at + i) s
  past_is = ap (past is_blank) (sym (from_first s at n)) ∙ sym run.rest

  pub blank_number : n ≤ i → gives (pos 0) ≡ to_fixed (characters (part n at s))
  unfolding to_fixed number_in
  blank_number h = rw (past_is, nothing s at n i h)

  module _ (h : i < n) (b : ℕ) (e : b ≡ get_or s (at + i) 0) (r : Result Fixed NumberError) where
    begins : to_fixed (characters (part n at s)) ≡ digits_in (eqb b 45) (unsigned (b ∷ part (n - (i + 1)) (at + (i + 1)) s))
    unfolding to_fixed
    begins = rw (past_is, next s at n i h, ← e, rest_number)

    pub minus_number : b ≡ 45 → answer_of r ≡ digits_in true (part (n - (i + 1)) (at + (i + 1)) s) → answer_of r ≡ to_fixed (characters (part n at s))
    minus_number f g = rw (begins, eq-eqb b 45 f) g

    pub plus_number : b ≡ 43 → answer_of r ≡ digits_in false (part (n - (i + 1)) (at + (i + 1)) s) → answer_of r ≡ to_fixed (characters (part n at s))
    plus_number f g = rw (begins, ne_eqb b 45 (λ q. omega (arith, f, q)), eq-eqb b 43 f) g

    pub bare_number : (b ≡ 45 → ⊥) → (b ≡ 43 → ⊥) → answer_of r ≡ digits_in false (part (n - i) (at + i) s) → answer_of r ≡ to_fixed (characters (part n at s))
    bare_number k f g =
        let q : part (n - i) (at + i) s ≡ b ∷ part (n - (i + 1)) (at + (i + 1)) s = next s at n i h ∙ rw e in
        rw (begins, ne_eqb b 45 k, ne_eqb b 43 f, ← q) g

-- ---- BIT to FIXED, and a constant
all_read : (base : ℕ) (s : List ℕ) (at n m : ℕ) (r : Result Fixed NumberError) → m ≡ capped (written base 0 (part (n - 0) (at + 0) s))
    → answer_of r ≡ from_fixed (F.ranged (signed_by false m)) → answer_of r ≡ from_fixed (F.ranged (pos (written base 0 (part n at s))))
all_read base s at n m r p q =
    let v : F.ranged (pos m) ≡ F.ranged (pos (written base 0 (part n at s))) = rw (p, from_first) (ranged_capped false _) in
    q ∙ ap from_fixed v

module _ (s : List ℕ) (at n m : ℕ) (r : Result Fixed NumberError) where
  pub bits_read : m ≡ capped (written 2 0 (part (n - 0) (at + 0) s)) → answer_of r ≡ from_fixed (F.ranged (signed_by false m)) → answer_of r ≡ to_fixed (bit_value (part n at s))
  unfolding to_fixed
  bits_read = all_read 2 s at n m r

  pub constant_read : m ≡ capped (written 10 0 (part (n - 0) (at + 0) s)) → answer_of r ≡ from_fixed (F.ranged (signed_by false m)) → answer_of r ≡ constant (part n at s)
  unfolding constant
  constant_read = all_read 10 s at n m r
