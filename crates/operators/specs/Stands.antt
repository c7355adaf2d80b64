-- What the values of the code stand for, and what a function that gives one does with the work room.
use Rattle.fixed.specs.declared.Fixed.{Fixed}
use Rattle.definition.specs.declared.Why.{Why}
use Rattle.std.specs.Prelude.{ℕ, ◌+◌, ◌≤◌, ◌≡◌, Bool, cond, List, [], leb, ℤ, nat_abs, length, take, Result, Ok, Err}
use Rattle.definition.specs.Lists.{part}
use Rattle.definition.specs.Room.{over}
use Rattle.definition.specs.Limits.{value_length, unfinished_bytes}
use Rattle.definition.specs.declared.Why.TheVariants.{TooLong as too_long}
use Rattle.definition.specs.Values as D
use Rattle.operators.specs.declared.Value.{Value}
use Rattle.operators.specs.declared.Value.TheVariants.{Number, Characters, Bits}

-- ---- THE RELATION. A value stands for a number, or for the bytes from place u of the work room on
unfoldable pub value_in : List ℕ → ℕ → Value → D.Value
value_in w u (Number x) = D.fixed x.value
value_in w u (Characters n) = D.characters (part n u w)
value_in w u (Bits n) = D.bit_value (part n u w)

unfoldable pub given_in : List ℕ → ℕ → Result Value Why → D.Answer D.Value
given_in w u (Ok v) = D.gives (value_in w u v)
given_in w u (Err y) = D.fails y

unfoldable pub number_for : Result Fixed Why → D.Answer ℤ
number_for (Ok x) = D.gives x.value
number_for (Err y) = D.fails y

unfoldable pub truth_for : Result Bool Why → D.Answer Bool
truth_for (Ok b) = D.gives b
truth_for (Err y) = D.fails y

-- the bytes that a value takes while it waits
unfoldable pub size_for : Value → ℕ
size_for (Number x) = 0
size_for (Characters n) = n
size_for (Bits n) = n

-- what is given is put among values that wait and are u bytes long
unfoldable pub stacked : ℕ → D.Answer D.Value → D.Answer D.Value
stacked u a = D.and_then a (D.unfinished u)

-- THE PREMISE: the work room is long enough, and n bytes from u on lie within the limit
pub record Ready (w : List ℕ) (u n : ℕ) : Type 0 where
  pub room : unfinished_bytes ≤ length w
  pub top : u + n ≤ unfinished_bytes

-- answer and work room stand for what the definition gives, and the bytes below u are as they were
pub record Stood (w : List ℕ) (u : ℕ) (a : D.Answer D.Value) (w' : List ℕ) (g : Result Value Why) : Type 0 where
  pub is : given_in w' u g ≡ a
  pub below : take u w' ≡ take u w

-- THE CONTRACT of what works on the n bytes at u
pub record Gave (w : List ℕ) (u n : ℕ) (a : D.Answer D.Value) (w' : List ℕ) (g : Result Value Why) : Type 0 where
  pub so : Ready w u n → Stood w u a w' g

-- the same of a truth
pub record Told (w : List ℕ) (u n : ℕ) (a : D.Answer Bool) (w' : List ℕ) (t : Result Bool Why) : Type 0 where
  pub is : Ready w u n → truth_for t ≡ a
  pub below : Ready w u n → take u w' ≡ take u w

-- of what writes a list at u and nothing else, wherever u lies
pub record Made (w : List ℕ) (u : ℕ) (l : List ℕ) (a : D.Answer D.Value) (w' : List ℕ) (g : Result Value Why) : Type 0 where
  pub wrote : w' ≡ over w u l
  pub is : unfinished_bytes ≤ length w → given_in w' u g ≡ a

-- ---- the work room
-- the place above n bytes at u, or the limit
unfoldable pub top_of : ℕ → ℕ → ℕ
top_of u n = cond (leb (u + n) unfinished_bytes) (u + n) unfinished_bytes

unfoldable pub among_for : ℕ → Value → Result Value Why
among_for u v = cond (leb (u + size_for v) unfinished_bytes) (Ok v) (Err too_long)

unfoldable pub limited_for : ℕ → Value → Result Value Why
limited_for u v = cond (leb (size_for v) value_length) (among_for u v) (Err too_long)

-- n bytes come down, or go up, to a place
pub record MovedDown (r : List ℕ) (from n to : ℕ) (r' : List ℕ) : Type 0 where
  pub is : to ≤ from → r' ≡ over r to (part n from r)

pub record MovedUp (r : List ℕ) (from n to : ℕ) (r' : List ℕ) : Type 0 where
  pub is : from ≤ to → r' ≡ over r to (part n from r)

-- ---- conversions
unfoldable pub as_bit : D.Value → D.Answer D.Value
as_bit v = D.and_then (D.to_bits v) λ l. D.gives (D.bit_value l)

unfoldable pub as_subject : D.Value → D.Answer D.Value
as_subject v = D.gives (D.subject v)

-- what a conversion writes: the digits of a number, if they fit
abbrev pub if_fits : ℕ → List ℕ → List ℕ
if_fits u l = cond (leb (u + length l) unfinished_bytes) l []

unfoldable pub text_put : ℕ → Value → List ℕ
text_put u (Number x) = if_fits u (D.fixed_text x.value)
text_put u (Characters n) = []
text_put u (Bits n) = []

unfoldable pub bits_put : ℕ → Value → List ℕ
bits_put u (Number x) = if_fits u (D.binary 17 (nat_abs x.value))
bits_put u (Characters n) = []
bits_put u (Bits n) = []
