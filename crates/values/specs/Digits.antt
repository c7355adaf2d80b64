-- Digits at a place, and the number that they write.
use Rattle.std.specs.Prelude.{ℕ, zero, suc, ◌+◌, ◌-◌, ◌/◌, ◌%◌, ◌^◌, ◌≤◌, ◌≡◌, Bool, cond, ◌&&◌, List, [], ◌∷◌, leb, ltb, ℤ, length}
use Rattle.definition.specs.Choice.{when}
use Rattle.definition.specs.declared.Why.TheVariants.{NoConversion as no_conversion}
use Rattle.definition.specs.Lists.{part, all, past, leading}
use Rattle.definition.specs.Room.{over}
use Rattle.definition.specs.Bytes.{is_digit, is_blank}
use Rattle.definition.specs.Fixed.{ranged}
use Rattle.definition.specs.Values.{Answer, fails, from_fixed, signed_by, written}
use Rattle.values.specs.declared.Base.{Base}
use Rattle.values.specs.declared.Base.TheVariants.{Two, Ten}

abbrev pub base_of : Base → ℕ
base_of Two = 2
base_of Ten = 10

-- a magnitude, or the least that no FIXED has
unfoldable pub capped : ℕ → ℕ
capped n = cond (leb n 99999) n 100000

-- the last k digits of a number to a base
unfoldable pub last_digits : ℕ → ℕ → ℕ → List ℕ
last_digits base zero n = []
last_digits base (suc k) n = (48 + n / base ^ k % base) ∷ last_digits base k n

-- what `number_in` makes of what follows the sign
unfoldable pub digits_in : Bool → List ℕ → Answer ℤ
digits_in negative l =
    when (ltb 0 (length (leading is_digit l)) && all is_blank (past is_digit l))
    (λ _. from_fixed (ranged (signed_by negative (written 10 0 (leading is_digit l)))))
    (λ _. fails no_conversion)

-- of the bytes from i to n past a place, those before r pass a test, and what is past them begins with none that does
pub record Run (p : ℕ → Bool) (s : List ℕ) (at i n r : ℕ) : Type 0 where
  pub low : i ≤ r
  pub passed : part (r - i) (at + i) s ≡ leading p (part (n - i) (at + i) s)
  pub rest : part (n - r) (at + r) s ≡ past p (part (n - i) (at + i) s)

-- a list was written over a room, and the answer is its length
pub record Wrote (l room : List ℕ) (at : ℕ) (room' : List ℕ) (r : ℕ) : Type 0 where
  pub size : r ≡ length l
  pub is : room' ≡ over room at l
