-- The test of a pass, and the turns of the loops.
-- Assumes nothing.
use Rattle.fixed.specs.declared.FixedError.TheVariants.{OutOfRange, ZeroDivisor}
use Rattle.fixed.specs.declared.FixedError.{FixedError}
use Rattle.std.proofs.Common.{Option, Some, None, Result, Ok, Err}
use mathlib.Core.Path.{◌≡◌, refl, sym, ◌∙◌}
use mathlib.Core.Bool.{Bool, true, false, not}
use mathlib.Core.List.{List}
use Prim.Native.Nat.{ℕ, suc, ◌+◌, ◌-◌, ◌<◌, ◌≤◌}
use native.Mathlib.Omega.{arith}
use borrow.Author.Tests.{le-leb, lt-leb, ltb-true, ltb-false, eq-eqb, ne_eqb}
use lib.Dec.{ltb, leb}
use lib.IntN.{ℤ, pos, negsuc}
use lib.Signed.{le_z, lt_z}
use Rattle.definition.specs.Fixed as F
use Rattle.fixed.specs.declared.Fixed.{Fixed}
use Rattle.fixed.specs.Answer.{result_of}
use Rattle.flow.specs.declared.Next.{Next}
use Rattle.flow.specs.declared.Next.TheVariants.{Over}
use Rattle.flow.specs.declared.Walk.{Walk}
use Rattle.flow.specs.declared.Walk.TheVariants.{To as Arrives, Up}
use Rattle.flow.specs.declared.Frames.{Frames}
use Rattle.flow.specs.Walks.{is_down, passes_by, behind_walk, follow, behind_on, parent_at, around_link, around_on, may_stand, may_go_link, may_go_on}

-- ---- passes
less : (a b : ℕ) → not (ltb a b) ≡ leb b a
less a b = go (ltb a b) refl
  where
    go : (t : Bool) → ltb a b ≡ t → not t ≡ leb b a
    go true e = sym (lt-leb b a (ltb-true a b e))
    go false e = sym (le-leb b a (ltb-false a b e))

not_less_lem : (a b : ℤ) → not (lt_z a b) ≡ le_z b a
not_less_lem (pos a) (pos b) = less a b
not_less_lem (pos a) (negsuc b) = refl
not_less_lem (negsuc a) (pos b) = refl
not_less_lem (negsuc a) (negsuc b) = less b a

no_limit : (s : F.Result) (z : ℤ) (x : Result Fixed FixedError) → ((n : Fixed) → x ≡ Ok n → ⊥) → true ≡ passes_by (result_of x) s z
unfolding passes_by
no_limit s z (Ok n) h = absurd (h n refl)
no_limit s z (Err OutOfRange) h = refl
no_limit s z (Err ZeroDivisor) h = refl

module _ (l s : F.Result) (z : ℤ) (to by : Result Fixed FixedError) (p : result_of to ≡ l) where
  module _ (limit : Fixed) (e : to ≡ Ok limit) (q : result_of by ≡ s) (d : Bool) (f : d ≡ is_down (result_of by)) (b : Bool) where
    is : F.is limit.value ≡ l
    is = rw e at p

    pub passes_down : d ≡ true → b ≡ lt_z z limit.value → not b ≡ passes_by l s z
    unfolding passes_by
    passes_down g h = let k : is_down s ≡ true = rw (← q) (sym f ∙ g) in rw (← is, k, h) (not_less_lem z limit.value)

    pub passes_up : d ≡ false → b ≡ lt_z limit.value z → not b ≡ passes_by l s z
    unfolding passes_by
    passes_up g h = let k : is_down s ≡ false = rw (← q) (sym f ∙ g) in rw (← is, k, h) (not_less_lem limit.value z)

  pub passes_none : ((n : Fixed) → to ≡ Ok n → ⊥) → true ≡ passes_by l s z
  passes_none h = rw (← p) (no_limit s z to h)

-- ---- turns: after k of m, what is left from here is the whole
pub record Walking (t : List ℕ) (fs : Frames) (whole : Next) (at m k : ℕ) : Type 0 where
  pub is : behind_on t fs (m - k) at ≡ whole

pub walking_start : (t : List ℕ) (fs : Frames) (n m : ℕ) → Walking t fs (behind_on t fs m n) n m 0
walking_start t fs n m = let e : m - 0 ≡ m = omega arith in record { is = rw e }

module _ (t : List ℕ) (fs : Frames) (whole : Next) (at m k : ℕ) (c : Walking t fs whole at m k) where
  pub walking_done : m ≤ k → Over ≡ whole
  unfolding behind_on
  walking_done h = let e : m - k ≡ 0 = omega arith in rw e at c.is

  module _ (h : k < m) (w : Walk) (e : w ≡ behind_walk t fs at) where
    turn : follow w (λ g. behind_on t fs (m - (k + 1)) g) ≡ whole
    unfolding behind_on
    turn = let f : m - k ≡ suc (m - (k + 1)) = omega arith in rw e (rw f at c.is)

    pub walking_there : (x : Next) → w ≡ Arrives x → x ≡ whole
    walking_there x f = rw f at turn

    pub walking_up : (g : ℕ) → w ≡ Up g → Walking t fs whole g m (k + 1)
    walking_up g f = record { is = rw f at turn }

-- ---- whether a row is around another: after k of 2048 turns, what is left decides
pub record Looking (t : List ℕ) (g : ℕ) (whole : Bool) (x : Option ℕ) (k : ℕ) : Type 0 where
  pub is : around_on t g (2048 - k) x ≡ whole

module _ (t : List ℕ) (g : ℕ) (whole : Bool) (x : Option ℕ) (k : ℕ) (c : Looking t g whole x k) where
  pub looking_done : 2048 ≤ k → false ≡ whole
  unfolding around_on
  looking_done h = let e : 2048 - k ≡ 0 = omega arith in rw e at c.is

  module _ (h : k < 2048) where
    turn_around : around_link t g (λ y. around_on t g (2048 - (k + 1)) y) x ≡ whole
    unfolding around_on
    turn_around = let f : 2048 - k ≡ suc (2048 - (k + 1)) = omega arith in rw f at c.is

    pub looking_none : x ≡ None → false ≡ whole
    looking_none e = rw e at turn_around

    module _ (p : ℕ) (e : x ≡ Some p) where
      pub looking_there : p ≡ g → true ≡ whole
      looking_there f = rw (e, eq-eqb p g f) at turn_around

      pub looking_up : (y : Option ℕ) → (p ≡ g → ⊥) → y ≡ parent_at t p → Looking t g whole y (k + 1)
      looking_up y f i = record { is = rw i (rw (e, ne_eqb p g f) at turn_around) }

pub record Going (t : List ℕ) (n : ℕ) (whole : Bool) (x : Option ℕ) (k : ℕ) : Type 0 where
  pub is : may_go_on t n (2048 - k) x ≡ whole

module _ (t : List ℕ) (n : ℕ) (whole : Bool) (x : Option ℕ) (k : ℕ) (c : Going t n whole x k) where
  pub going_done : 2048 ≤ k → true ≡ whole
  unfolding may_go_on
  going_done h = let e : 2048 - k ≡ 0 = omega arith in rw e at c.is

  module _ (h : k < 2048) where
    turn_going : may_go_link t n (λ y. may_go_on t n (2048 - (k + 1)) y) x ≡ whole
    unfolding may_go_on
    turn_going = let f : 2048 - k ≡ suc (2048 - (k + 1)) = omega arith in rw f at c.is

    pub going_out : x ≡ None → true ≡ whole
    going_out e = rw e at turn_going

    module _ (g : ℕ) (e : x ≡ Some g) (b : Bool) (f : b ≡ may_stand t g n) where
      pub going_not : b ≡ false → false ≡ whole
      going_not i = rw (e, ← f, i) at turn_going

      pub going_up : (y : Option ℕ) → b ≡ true → y ≡ parent_at t g → Going t n whole y (k + 1)
      going_up y i l = record { is = rw l (rw (e, ← f, i) at turn_going) }
