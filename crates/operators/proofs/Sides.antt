-- The operators on two sides: numbers and comparison.
-- Assumes nothing.
use Rattle.fixed.specs.declared.FixedError.{FixedError}
use mathlib.Core.Path.{◌≡◌, refl, sym, ap, ◌∙◌}
use mathlib.Core.Bool.{Bool, true, false}
use mathlib.Core.Logic.{◌⊎◌, inl, inr}
use mathlib.Core.List.{List, [], ◌∷◌}
use Prim.Native.Nat.{ℕ, ◌+◌}
use native.Mathlib.Nat.{add-zero}
use native.Mathlib.Omega.{arith}
use borrow.Author.Tests.{leb-true}
use lib.Dec.{leb}
use lib.IntN.{ℤ}
use Rattle.std.specs.Prelude.{Result, Ok, Err}
use Rattle.definition.specs.Lists.{part}
use Rattle.definition.specs.Room.{over}
use Rattle.definition.specs.declared.Why.{Why}
use Rattle.definition.specs.declared.Why.TheVariants.{TooLong as too_long}
use Rattle.definition.specs.declared.Operator.{Operator}
use Rattle.definition.specs.Values as D
use Rattle.definition.proofs.Rooms.{over_nil}
use Rattle.fixed.specs.declared.Fixed.{Fixed}
use Rattle.fixed.specs.Answer.{result_of, why_of}
use Rattle.std.specs.declared.cmp.Ordering.{Ordering}
use Rattle.values.specs.declared.Comparison.{Comparison}
use Rattle.values.specs.declared.Comparison.TheVariants.{Greater, GreaterEqual, Equal, Less, LessEqual, NotGreater, NotEqual, NotLess}
use Rattle.values.specs.Answers.{order_for, order_in, is_wanted}
use Rattle.operators.specs.declared.Value.{Value}
use Rattle.operators.specs.declared.Value.TheVariants.{Number, Characters, Bits}
use Rattle.operators.specs.Stands.{value_in, given_in, size_for, stacked, Ready, Gave, top_of}
use Rattle.operators.specs.Sides.{calc_of, numbers, numbers_in, pair_for, order_answer, numeric_of, wanted_by, bits_given, Judged}
use Rattle.operators.proofs.Room.{part_written, below_over, top_in_lem}
use Rattle.operators.proofs.Answers.{wrong_is, gave_number, gave_wrong}
use Rattle.operators.proofs.Texts.{never}

-- ---- what follows two numbers, or none
both_are : (x y : D.Value) (a b : ℤ) → D.gives (numbers a b) ≡ numbers_in x y → (A : Type 0) (f : ℤ → ℤ → D.Answer A)
    → D.and_then (D.to_fixed x) (λ a. D.and_then (D.to_fixed y) λ b. f a b) ≡ f a b
unfolding numbers_in
both_are x y a b e A f = go (D.to_fixed x) (D.to_fixed y) e
  where
    go : (s t : D.Answer ℤ) → D.gives (numbers a b) ≡ D.and_then s (λ a. D.and_then t λ b. D.gives (numbers a b)) → D.and_then s (λ a. D.and_then t λ b. f a b) ≡ f a b
    go (D.gives c) (D.gives d) e =
        let p : a ≡ c = cc in
        let q : b ≡ d = cc in
        rw (p, q)
    go (D.gives c) (D.fails y) e = never _ (cc)
    go (D.fails y) t e = never _ (cc)

not_both : (x y : D.Value) (r : Why) → D.fails r ≡ numbers_in x y → (A : Type 0) (f : ℤ → ℤ → D.Answer A)
    → D.and_then (D.to_fixed x) (λ a. D.and_then (D.to_fixed y) λ b. f a b) ≡ D.fails r
unfolding numbers_in
not_both x y r e A f = go (D.to_fixed x) (D.to_fixed y) e
  where
    go : (s t : D.Answer ℤ) → D.fails r ≡ D.and_then s (λ a. D.and_then t λ b. D.gives (numbers a b)) → D.and_then s (λ a. D.and_then t λ b. f a b) ≡ D.fails r
    go (D.gives c) (D.gives d) e = never _ (cc)
    go (D.gives c) (D.fails y) e = cc
    go (D.fails y) t e = cc

-- the place of the second side
top_of_lem : (w : List ℕ) (u : ℕ) (x y : Value) → Ready w u (size_for x + size_for y) → top_of u (size_for x) ≡ u + size_for x
top_of_lem w u x y h = top_in_lem u (size_for x) (omega (arith, h.top))

-- ---- arithmetic
module _ (w : List ℕ) (u : ℕ) (o : Operator) (x y : Value) where
  module _ (a b : Fixed) (h : pair_for (Ok (a, b)) ≡ numbers_in (value_in w u x) (value_in w (top_of u (size_for x)) y)) where
    calculated_from : Ready w u (size_for x + size_for y)
        → D.arithmetic (calc_of o) (value_in w u x) (value_in w (u + size_for x) y) ≡ D.and_then (D.from_fixed (calc_of o a.value b.value)) (λ z. D.gives (D.fixed z))
    unfolding D.arithmetic pair_for
    calculated_from d =
        let q : D.gives (numbers a.value b.value) ≡ numbers_in (value_in w u x) (value_in w (u + size_for x) y) = rw (top_of_lem w u x y d) at h in
        both_are (value_in w u x) (value_in w (u + size_for x) y) a.value b.value q D.Value (λ a b. D.and_then (D.from_fixed (calc_of o a b)) λ z. D.gives (D.fixed z))

    pub calculated_is : (z : Fixed) → result_of (Ok z) ≡ calc_of o a.value b.value
        → Gave w u (size_for x + size_for y) (stacked u (D.arithmetic (calc_of o) (value_in w u x) (value_in w (u + size_for x) y))) w (Ok (Number z))
    calculated_is z f = record { so = λ d. (gave_number w u (size_for x + size_for y) z _ (rw (calculated_from d, ← f))).so d }

    pub calculated_out : (e : FixedError) → result_of (Err e) ≡ calc_of o a.value b.value
        → Gave w u (size_for x + size_for y) (stacked u (D.arithmetic (calc_of o) (value_in w u x) (value_in w (u + size_for x) y))) w (Err (why_of e))
    calculated_out e f = record { so = λ d. (gave_wrong w u (size_for x + size_for y) (why_of e) _ (rw (calculated_from d, ← f, wrong_is))).so d }

  pub calculated_not : (r : Why) → pair_for (Err r) ≡ numbers_in (value_in w u x) (value_in w (top_of u (size_for x)) y)
      → Gave w u (size_for x + size_for y) (stacked u (D.arithmetic (calc_of o) (value_in w u x) (value_in w (u + size_for x) y))) w (Err r)
  unfolding D.arithmetic pair_for
  calculated_not r h = record {
    so = λ d.
        let q : D.fails r ≡ numbers_in (value_in w u x) (value_in w (u + size_for x) y) = rw (top_of_lem w u x y d) at h in
        let f : ℤ → ℤ → D.Answer D.Value = λ a b. D.and_then (D.from_fixed (calc_of o a b)) (λ z. D.gives (D.fixed z)) in
        (gave_wrong w u (size_for x + size_for y) r _ (sym (not_both (value_in w u x) (value_in w (u + size_for x) y) r q D.Value f))).so d;
  }

-- ---- comparison
order_back : (o : D.Order) → order_in (order_for o) ≡ o
order_back D.below = refl
order_back D.alike = refl
order_back D.above = refl

pub numeric_is : (X Y : D.Value) (a b : Fixed) (o : Ordering) → pair_for (Ok (a, b)) ≡ numbers_in X Y → o ≡ order_for (D.numbers_order a.value b.value) → order_answer (Ok o) ≡ numeric_of X Y
unfolding pair_for order_answer numeric_of
numeric_is X Y a b o q f = rw (f, order_back) (sym (both_are X Y a.value b.value q D.Order (λ a b. D.gives (D.numbers_order a b))))

pub numeric_not : (X Y : D.Value) (e : Why) → pair_for (Err e) ≡ numbers_in X Y → order_answer (Err e) ≡ numeric_of X Y
unfolding pair_for order_answer numeric_of
numeric_not X Y e q = sym (not_both X Y e q D.Order (λ a b. D.gives (D.numbers_order a b)))

pub order_at : (w : List ℕ) (u n m pad t : ℕ) (o : Ordering) → t ≡ top_of u n → o ≡ order_for (D.bytes_order pad (part n u w) (part m t w))
    → order_in o ≡ D.bytes_order pad (part n u w) (part m (top_of u n) w)
order_at w u n m pad t o e f = rw (f, order_back, e)

module _ (w : List ℕ) (u : ℕ) (x y : Value) (r : Result Ordering Why) where
  pub compared_number : (z : Fixed) → x ≡ Number z → order_answer r ≡ numeric_of (value_in w u x) (value_in w (top_of u (size_for x)) y)
      → order_answer r ≡ D.compared (value_in w u x) (value_in w (top_of u (size_for x)) y)
  unfolding numeric_of value_in D.compared
  compared_number z e h = h ∙ rw e

  pub compared_first : (n : ℕ) (z : Fixed) → x ≡ Characters n → y ≡ Number z → order_answer r ≡ numeric_of (value_in w u (Characters n)) (value_in w (top_of u (size_for (Characters n))) y)
      → order_answer r ≡ D.compared (value_in w u x) (value_in w (top_of u (size_for x)) y)
  unfolding numeric_of value_in D.compared
  compared_first n z e f h = rw e (h ∙ rw f)

  pub compared_bits : (n : ℕ) (z : Fixed) → x ≡ Bits n → y ≡ Number z → order_answer r ≡ numeric_of (value_in w u (Bits n)) (value_in w (top_of u (size_for (Bits n))) y)
      → order_answer r ≡ D.compared (value_in w u x) (value_in w (top_of u (size_for x)) y)
  unfolding numeric_of value_in D.compared
  compared_bits n z e f h = rw e (h ∙ rw f)

module _ (w : List ℕ) (u : ℕ) (x y : Value) (n m : ℕ) (o : Ordering) where
  pub compared_text : x ≡ Characters n → (y ≡ Characters m) ⊎ (y ≡ Bits m) → order_in o ≡ D.bytes_order 32 (part n u w) (part m (top_of u n) w)
      → order_answer (Ok o) ≡ D.compared (value_in w u x) (value_in w (top_of u (size_for x)) y)
  unfolding order_answer value_in D.compared size_for
  compared_text e (inl f) h = rw (e, f, h)
  compared_text e (inr f) h = rw (e, f, h)

  pub compared_bc : x ≡ Bits n → y ≡ Characters m → order_in o ≡ D.bytes_order 32 (part n u w) (part m (top_of u n) w)
      → order_answer (Ok o) ≡ D.compared (value_in w u x) (value_in w (top_of u (size_for x)) y)
  unfolding order_answer value_in D.compared size_for
  compared_bc e f h = rw (e, f, h)

  pub compared_bb : x ≡ Bits n → y ≡ Bits m → order_in o ≡ D.bytes_order 48 (part n u w) (part m (top_of u n) w)
      → order_answer (Ok o) ≡ D.compared (value_in w u x) (value_in w (top_of u (size_for x)) y)
  unfolding order_answer value_in D.compared size_for
  compared_bb e f h = rw (e, f, h)

-- ---- the outcome of a comparison
wanted_is : (c : Comparison) (o : Ordering) → is_wanted c o ≡ wanted_by c (order_in o)
unfolding wanted_by
wanted_is Greater o = refl
wanted_is GreaterEqual o = refl
wanted_is Equal o = refl
wanted_is Less o = refl
wanted_is LessEqual o = refl
wanted_is NotGreater o = refl
wanted_is NotEqual o = refl
wanted_is NotLess o = refl

module _ (w : List ℕ) (u : ℕ) (c : Comparison) (x y : Value) (q : Result Ordering Why) (h : order_answer q ≡ D.compared (value_in w u x) (value_in w (top_of u (size_for x)) y)) where
  pub comparing_not : (e : Why) → q ≡ Err e → Judged w u (size_for x + size_for y) (stacked u (D.comparing (wanted_by c) (value_in w u x) (value_in w (u + size_for x) y))) w (Err e)
  unfolding order_answer D.comparing given_in stacked bits_given
  comparing_not r e = record { so = λ d. record { is = rw (← k d); below = refl }; only = λ d. rw (← k d) (sym (over_nil w u)) }
    where
      k : Ready w u (size_for x + size_for y) → D.fails r ≡ D.compared (value_in w u x) (value_in w (u + size_for x) y)
      k d = rw (e, top_of_lem w u x y d) at h

  module _ (o : Ordering) (e : q ≡ Ok o) (t : Bool) (f : t ≡ leb (u + 1) 65536) where
    order_is : Ready w u (size_for x + size_for y) → D.gives (order_in o) ≡ D.compared (value_in w u x) (value_in w (u + size_for x) y)
    unfolding order_answer
    order_is d = rw (e, top_of_lem w u x y d) at h

    pub comparing_out : t ≡ false → Judged w u (size_for x + size_for y) (stacked u (D.comparing (wanted_by c) (value_in w u x) (value_in w (u + size_for x) y))) w (Err too_long)
    unfolding D.comparing given_in stacked D.unfinished bits_given
    comparing_out g =
        let b : leb (u + 1) 65536 ≡ false = sym f ∙ g in
        record {
          so = λ d. record { is = rw (← order_is d, b); below = refl };
          only = λ d. rw (← order_is d, b) (sym (over_nil w u));
        }

    pub comparing_is : (s : Bool) (b : ℕ) (w' : List ℕ) → t ≡ true → s ≡ is_wanted c o → b ≡ D.bit_of s → w' ≡ over w (u + 0) (b ∷ [])
        → Judged w u (size_for x + size_for y) (stacked u (D.comparing (wanted_by c) (value_in w u x) (value_in w (u + size_for x) y))) w' (Ok (Bits 1))
    unfolding D.comparing given_in value_in stacked D.unfinished bits_given
    comparing_is s b w' g i j m =
        let z : leb (u + 1) 65536 ≡ true = sym f ∙ g in
        let l : w' ≡ over w u (b ∷ []) = rw add-zero at m in
        let a : b ≡ D.bit_of (wanted_by c (order_in o)) = j ∙ ap D.bit_of (i ∙ wanted_is c o) in
        record {
          so = λ d.
              let v : part 1 u w' ≡ b ∷ [] = part_written 1 u w w' (b ∷ []) refl l (omega (arith, leb-true (u + 1) 65536 z, d.room)) in
              record { is = rw (← order_is d, z, v, a); below = below_over u u w w' (b ∷ []) (omega arith) l };
          only = λ d. rw (← order_is d, z) (rw a at l);
        }

pub judged_gave : {w w' : List ℕ} {u n : ℕ} {a : D.Answer D.Value} {g : (Result Value Why)} → Judged w u n a w' g → Gave w u n a w' g
judged_gave h = record { so = h.so }
