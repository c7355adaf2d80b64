-- What answers stand for: numbers, values among those that wait, and the conversions that give a number.
-- Assumes nothing.
use Rattle.fixed.specs.declared.Fixed.{Fixed}
use Rattle.fixed.specs.declared.FixedError.{FixedError}
use Rattle.fixed.specs.declared.FixedError.TheVariants.{OutOfRange, ZeroDivisor}
use Rattle.fixed.specs.Answer.{result_of, why_of}
use Rattle.std.proofs.Common.{Result, Ok, Err}
use Rattle.definition.specs.declared.Why.{Why}
use mathlib.Core.Path.{◌≡◌, refl}
use mathlib.Core.Bool.{Bool, true, false, cond}
use mathlib.Core.List.{List}
use Prim.Native.Nat.{ℕ, ◌+◌, ◌≤◌}
use native.Mathlib.Nat.{add-zero}
use native.Mathlib.Omega.{arith}
use borrow.Author.Tests.{le-leb}
use lib.Dec.{leb}
use Rattle.definition.specs.declared.Why.TheVariants.{TooLong as too_long}
use Rattle.definition.specs.declared.ValueType.{ValueType}
use Rattle.definition.specs.declared.ValueType.TheVariants.{FixedType, CharacterType}
use Rattle.definition.specs.Values as D
use Rattle.definition.proofs.Parts.{length_part}
use Rattle.operators.specs.declared.Value.{Value}
use Rattle.operators.specs.declared.Value.TheVariants.{Number, Characters, Bits}
use Rattle.operators.specs.Stands.{value_in, given_in, number_for, size_for, stacked, Gave, Made, among_for}
use Rattle.operators.proofs.Room.{below_over}

-- ---- sizes
pub size_is : (w : List ℕ) (u : ℕ) (v : Value) → D.size_of (value_in w u v) ≡ size_for v
unfolding value_in size_for
size_is w u (Number x) = refl
size_is w u (Characters n) = length_part n u w
size_is w u (Bits n) = length_part n u w

-- ---- among those that wait
pub among_is : (w : List ℕ) (u : ℕ) (v : Value) → given_in w u (among_for u v) ≡ D.unfinished u (value_in w u v)
unfolding among_for given_in D.unfinished
among_is w u v = rw size_is (go (leb (u + size_for v) 65536))
  where
    go : (t : Bool) → given_in w u (cond t (Ok v) (Err too_long)) ≡ cond t (D.gives (value_in w u v)) (D.fails too_long)
    go true = refl
    go false = refl

-- ---- numbers
-- a number stands for itself, wherever it is put
pub value_number : (w : List ℕ) (u : ℕ) (x : Fixed) → u ≤ 65536 → given_in w u (Ok (Number x)) ≡ stacked u (D.gives (D.fixed x.value))
unfolding given_in value_in stacked D.unfinished
value_number w u x h = rw (add-zero, le-leb u 65536 h)

-- an error in place of a number is its refusal
pub wrong_is : (e : FixedError) → D.from_fixed (result_of (Err e)) ≡ D.fails (why_of e)
wrong_is OutOfRange = refl
wrong_is ZeroDivisor = refl

-- what the definition gives, with the room as it was
pub gave_number : (w : List ℕ) (u n : ℕ) (x : Fixed) (a : D.Answer D.Value) → D.gives (D.fixed x.value) ≡ a → Gave w u n (stacked u a) w (Ok (Number x))
gave_number w u n x a e = record { so = λ h. record { is = rw (← e) (value_number w u x (omega (arith, h.top))); below = refl } }

pub gave_wrong : (w : List ℕ) (u n : ℕ) (y : Why) (a : D.Answer D.Value) → D.fails y ≡ a → Gave w u n (stacked u a) w (Err y)
unfolding stacked given_in
gave_wrong w u n y a e = rw (← e) (record { so = λ h. record { is = refl; below = refl } })

-- what was made stands
pub made_gave : (w : List ℕ) (u n : ℕ) (l : List ℕ) (a : D.Answer D.Value) (w' : List ℕ) (g : Result Value Why) → Made w u l a w' g → Gave w u n a w' g
made_gave w u n l a w' g m = record
    { so = λ h. record { is = m.is h.room; below = below_over u u w w' l (omega arith) m.wrote } }

-- ---- to a declared type
module _ (w : List ℕ) (u n : ℕ) (t : ValueType) (v : Value) (e : t ≡ FixedType) where
  pub convert_fixed : (x : Fixed) → number_for (Ok x) ≡ D.to_fixed (value_in w u v) → Gave w u n (stacked u (D.convert t (value_in w u v))) w (Ok (Number x))
  unfolding D.convert number_for
  convert_fixed x f = rw e (gave_number w u n x _ (rw (← f)))

  pub convert_wrong : (y : Why) → number_for (Err y) ≡ D.to_fixed (value_in w u v) → Gave w u n (stacked u (D.convert t (value_in w u v))) w (Err y)
  unfolding D.convert number_for
  convert_wrong y f = rw e (gave_wrong w u n y _ (rw (← f)))

pub convert_characters : (w : List ℕ) (u n : ℕ) (t : ValueType) (v : Value) (l w' : List ℕ) (g : Result Value Why) → t ≡ CharacterType
    → Made w u l (stacked u (D.convert CharacterType (value_in w u v))) w' g → Gave w u n (stacked u (D.convert t (value_in w u v))) w' g
convert_characters w u n t v l w' g e m = rw e (made_gave w u n l _ w' g m)
