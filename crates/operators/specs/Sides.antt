-- The operators: x at u, and y directly above it.
use Rattle.std.specs.Prelude.{ℕ, ◌+◌, ◌≤◌, ◌≡◌, Bool, true, false, not, cond, List, [], ◌++◌, ℤ, length, take, Result, Ok, Err, Option, Some, None}
use Rattle.definition.specs.declared.Why.{Why}
use Rattle.definition.specs.Lists.{part}
use Rattle.definition.specs.Room.{over}
use Rattle.definition.specs.Limits.{fixed_width, unfinished_bytes}
use Rattle.definition.specs.Fixed as F
use Rattle.definition.specs.Values as D
use Rattle.definition.specs.declared.Operator.{Operator}
use Rattle.definition.specs.declared.Operator.TheVariants as O
use Rattle.values.specs.declared.Comparison.{Comparison}
use Rattle.values.specs.declared.Comparison.TheVariants.{Greater, GreaterEqual, Equal, Less, LessEqual, NotGreater, NotEqual, NotLess}
use Rattle.fixed.specs.declared.Fixed.{Fixed}
use Rattle.std.specs.declared.cmp.Ordering.{Ordering}
use Rattle.values.specs.Answers.{order_in}
use Rattle.values.specs.Substr.{piece_for}
use Rattle.operators.specs.declared.Value.{Value}
use Rattle.operators.specs.declared.Value.TheVariants.{Number, Characters, Bits}
use Rattle.operators.specs.Stands.{value_in, given_in, size_for, stacked, as_bit, Ready, Stood}

-- ---- numbers
unfoldable pub calc_of : Operator → ℤ → ℤ → F.Result
calc_of O.Plus a b = F.sum a b
calc_of O.Minus a b = F.difference a b
calc_of O.Times a b = F.product a b
calc_of O.Divided a b = F.quotient a b
calc_of O.OrOp a b = F.out_of_range
calc_of O.AndOp a b = F.out_of_range
calc_of O.Greater a b = F.out_of_range
calc_of O.GreaterEqual a b = F.out_of_range
calc_of O.Equal a b = F.out_of_range
calc_of O.Less a b = F.out_of_range
calc_of O.LessEqual a b = F.out_of_range
calc_of O.NotGreater a b = F.out_of_range
calc_of O.NotEqual a b = F.out_of_range
calc_of O.NotLess a b = F.out_of_range
calc_of O.CatOp a b = F.out_of_range

-- both sides as numbers, the first converted first
pub data Numbers : Type 0 where
  numbers : ℤ → ℤ → Numbers

unfoldable pub numbers_in : D.Value → D.Value → D.Answer Numbers
numbers_in x y = D.and_then (D.to_fixed x) λ a. D.and_then (D.to_fixed y) λ b. D.gives (numbers a b)

unfoldable pub pair_for : Result (Fixed × Fixed) Why → D.Answer Numbers
pair_for (Ok p) = D.gives (numbers p.0.value p.1.value)
pair_for (Err y) = D.fails y

-- ---- comparison
unfoldable pub order_answer : Result Ordering Why → D.Answer D.Order
order_answer (Ok o) = D.gives (order_in o)
order_answer (Err y) = D.fails y

unfoldable pub numeric_of : D.Value → D.Value → D.Answer D.Order
numeric_of x y = D.numeric x y

unfoldable pub wanted_by : Comparison → D.Order → Bool
wanted_by Greater = D.is_above
wanted_by GreaterEqual = λ o. not (D.is_below o)
wanted_by Equal = D.is_alike
wanted_by Less = D.is_below
wanted_by LessEqual = λ o. not (D.is_above o)
wanted_by NotGreater = λ o. not (D.is_above o)
wanted_by NotEqual = λ o. not (D.is_alike o)
wanted_by NotLess = λ o. not (D.is_below o)

-- THE CONTRACT of a comparison (C-13): of the work room nothing changes but where the bit goes that is given
unfoldable pub bits_given : D.Answer D.Value → List ℕ
bits_given (D.gives (D.fixed z)) = []
bits_given (D.gives (D.characters l)) = []
bits_given (D.gives (D.bit_value l)) = l
bits_given (D.fails y) = []

pub record Judged (w : List ℕ) (u n : ℕ) (a : D.Answer D.Value) (w' : List ℕ) (g : Result Value Why) : Type 0 where
  pub so : Ready w u n → Stood w u a w' g
  pub only : Ready w u n → w' ≡ over w u (bits_given a)

-- ---- bits: room is made below a second side of m bytes, where the first takes k
pub record Raised (w : List ℕ) (u m k : ℕ) (w' : List ℕ) : Type 0 where
  pub is : u + k ≤ unfinished_bytes → w' ≡ over w (u + k) (part m u w)

-- the first side as BIT at u, with the m bytes of the second directly above it
pub record First (w : List ℕ) (u : ℕ) (x : Value) (m : ℕ) (w' : List ℕ) (g : Result Value Why) : Type 0 where
  pub is : Ready w u (size_for x + m) → given_in w' u g ≡ stacked (u + m) (as_bit (value_in w u x))
  pub below : Ready w u (size_for x + m) → take u w' ≡ take u w
  pub size : Ready w u (size_for x + m) → length w' ≡ length w
  pub second : Ready w u (size_for x + m) → (v : Value) → g ≡ Ok v → part m (u + size_for v) w' ≡ part m (u + size_for x) w

-- ---- `||`
unfoldable pub text_size : Value → ℕ
text_size (Number x) = fixed_width
text_size (Characters n) = n
text_size (Bits n) = n

-- what is written for a side: the eight places of a number; below a second side of m bytes, that side is written above them
unfoldable pub number_text : Value → List ℕ
number_text (Number x) = D.fixed_text x.value
number_text (Characters n) = []
number_text (Bits n) = []

unfoldable pub first_text : List ℕ → ℕ → ℕ → Value → List ℕ
first_text w u m (Number x) = D.fixed_text x.value ++ part m u w
first_text w u m (Characters n) = []
first_text w u m (Bits n) = []

pub record WroteFirst (w : List ℕ) (u m : ℕ) (v : Value) (w' : List ℕ) : Type 0 where
  pub is : u + text_size v ≤ unfinished_bytes → w' ≡ over w u (first_text w u m v)

unfoldable pub both_bits : Value → Value → Bool
both_bits (Number x) y = false
both_bits (Characters n) y = false
both_bits (Bits n) (Number y) = false
both_bits (Bits n) (Characters m) = false
both_bits (Bits n) (Bits m) = true

unfoldable pub joined_value : Value → Value → ℕ → Value
joined_value x y n = cond (both_bits x y) (Bits n) (Characters n)

-- ---- SUBSTR
unfoldable pub same_kind : Value → ℕ → Value
same_kind (Number x) n = Characters n
same_kind (Characters k) n = Characters n
same_kind (Bits k) n = Bits n

-- a cut that lies within so many places
unfoldable pub Within : ℕ → Option (ℕ × ℕ) → Type 0
Within size (Some (i, n)) = i + n ≤ size
Within size None = Unit {0}

unfoldable pub piece_of : D.Value → Option (ℕ × ℕ) → D.Answer D.Value
piece_of v c = piece_for v c

pub record Took (w : List ℕ) (u : ℕ) (v : Value) (c : Option (ℕ × ℕ)) (w' : List ℕ) (g : Result Value Why) : Type 0 where
  pub so : Within (size_for v) c → Ready w u (size_for v) → Stood w u (stacked u (piece_of (value_in w u v) c)) w' g
