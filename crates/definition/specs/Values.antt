-- 01, "Values": the values, their conversions, the operators, comparison and SUBSTR.
use Rattle.std.specs.Prelude.{ℕ, zero, suc, ◌+◌, ◌*◌, ◌-◌, ◌/◌, ◌%◌, ◌^◌, Bool, true, false, not, cond, ◌&&◌, ◌||◌, List, [], ◌∷◌, ◌++◌, leb, ltb, eqb, length, take, drop, replicate, ℤ, pos, negsuc, neg_ℤ, nat_abs}
use Prim.Native.Char.{code}
use Rattle.std.specs.Int.Signed.{lt_z}
use Rattle.definition.specs.Choice.{when}
use Rattle.definition.specs.Limits.{value_length, fixed_width, unfinished_bytes}
use Rattle.definition.specs.Refusal.{Why, no_conversion, out_of_range, zero_divisor, too_long, substr_outside}
use Rattle.definition.specs.Lists.{all, past, leading}
use Rattle.definition.specs.Bytes.{is_digit, is_blank}
use Rattle.definition.specs.Tokens.{is_bit}
use Rattle.definition.specs.Fixed as Fixed
use Rattle.definition.specs.Expressions.{Operator, or_op, and_op, greater, greater_equal, equal, less, less_equal, not_greater, not_equal, not_less, cat_op, plus, minus, times, divided, Prefix, positive, negative, complement}
use Rattle.definition.specs.Program.{Type', fixed_type, character_type}

-- a number, characters, or bits (each the byte of its digit)
pub data Value : Type 0 where
  fixed : ℤ → Value
  characters : List ℕ → Value
  bit_value : List ℕ → Value

-- what is asked for, or why there is none
pub data Answer (A : Type 0) : Type 0 where
  gives : A → Answer A
  fails : Why → Answer A

abbrev pub and_then : {A B : Type 0} → Answer A → (A → Answer B) → Answer B
and_then (gives a) f = f a
and_then (fails w) f = fails w

abbrev pub from_fixed : Fixed.Result → Answer ℤ
from_fixed (Fixed.is z) = gives z
from_fixed Fixed.out_of_range = fails out_of_range
from_fixed Fixed.zero_divisor = fails zero_divisor

-- ---- numbers and digits
-- the shortest decimal digits of a number; 6 turns are enough for FIXED
unfoldable pub decimal_on : ℕ → ℕ → List ℕ → List ℕ
decimal_on zero n ds = ds
decimal_on (suc f) n ds =
    when (ltb n 10) (λ _. (code "0" + n) ∷ ds) (λ _. decimal_on f (n / 10) ((code "0" + n % 10) ∷ ds))

-- "shortest decimal, `-` in front if negative"
abbrev pub shortest : ℤ → List ℕ
shortest (pos n) = decimal_on 6 n []
shortest (negsuc n) = code "-" ∷ decimal_on 6 (suc n) []

-- FIXED to CHARACTER (C-12): "eight characters, digits at the right, the minus sign directly before the first digit,
-- blanks in front"
unfoldable pub fixed_text : ℤ → List ℕ
fixed_text z = replicate (fixed_width - length (shortest z)) (code " ") ++ shortest z

-- the number that digits write, to a base
unfoldable pub written : ℕ → ℕ → List ℕ → ℕ
written base n [] = n
written base n (d ∷ ds) = written base (base * n + (d - code "0")) ds

-- a constant: "A constant past these is refused when evaluated"
unfoldable pub constant : List ℕ → Answer ℤ
constant ds = from_fixed (Fixed.ranged (pos (written 10 0 ds)))

-- ---- "CHARACTER to FIXED: blanks, at most one sign directly before one or more digits, blanks; empty or all blank is
-- 0"
abbrev pub is_minus : List ℕ → Bool
is_minus [] = false
is_minus (b ∷ l) = eqb b (code "-")

abbrev pub unsigned : List ℕ → List ℕ
unsigned [] = []
unsigned (b ∷ l) = cond (eqb b (code "-") || eqb b (code "+")) l (b ∷ l)

abbrev pub signed_by : Bool → ℕ → ℤ
signed_by true n = neg_ℤ (pos n)
signed_by false n = pos n

-- l is what follows the first blanks
unfoldable pub number_in : List ℕ → Answer ℤ
number_in [] = gives (pos 0)
number_in (b ∷ l) =
    let ds = leading is_digit (unsigned (b ∷ l)) in
    when (ltb 0 (length ds) && all is_blank (past is_digit (unsigned (b ∷ l))))
    (λ _. from_fixed (Fixed.ranged (signed_by (is_minus (b ∷ l)) (written 10 0 ds))))
    (λ _. fails no_conversion)

-- ---- conversions
unfoldable pub to_fixed : Value → Answer ℤ
to_fixed (fixed z) = gives z
to_fixed (characters l) = number_in (past is_blank l)
to_fixed (bit_value l) = from_fixed (Fixed.ranged (pos (written 2 0 l)))

unfoldable pub to_characters : Value → List ℕ
to_characters (fixed z) = fixed_text z
to_characters (characters l) = l
to_characters (bit_value l) = l

-- the last k binary digits of a number
unfoldable pub binary : ℕ → ℕ → List ℕ
binary zero n = []
binary (suc k) n = (code "0" + n / 2 ^ k % 2) ∷ binary k n

-- "FIXED to BIT: 17 bits of the magnitude." "CHARACTER to BIT: only 0 and 1."
unfoldable pub to_bits : Value → Answer (List ℕ)
to_bits (fixed z) = gives (binary 17 (nat_abs z))
to_bits (characters l) = cond (all is_bit l) (gives l) (fails no_conversion)
to_bits (bit_value l) = gives l

-- "Assignment, argument and RETURN convert to the declared type."
unfoldable pub convert : Type' → Value → Answer Value
convert fixed_type v = and_then (to_fixed v) λ z. gives (fixed z)
convert character_type v = gives (characters (to_characters v))

-- ---- limits: a value is at most 512 long, and unfinished values together are at most 65,536
abbrev pub size_of : Value → ℕ
size_of (fixed z) = 0
size_of (characters l) = length l
size_of (bit_value l) = length l

unfoldable pub limited : Value → Answer Value
limited v = cond (leb (size_of v) value_length) (gives v) (fails too_long)

-- v as an unfinished value, where others take u bytes
unfoldable pub unfinished : ℕ → Value → Answer Value
unfinished u v = cond (leb (u + size_of v) unfinished_bytes) (gives v) (fails too_long)

-- "IF holds when any bit is 1": the value is made BIT, where others take u bytes
unfoldable pub any_one : List ℕ → Bool
any_one [] = false
any_one (b ∷ l) = eqb b (code "1") || any_one l

unfoldable pub holds : ℕ → Value → Answer Bool
holds u v = and_then (to_bits v) λ l. and_then (unfinished u (bit_value l)) λ _. gives (any_one l)

-- ---- operators
abbrev pub bit_of : Bool → ℕ
bit_of b = code "0" + cond b 1 0

-- "the shorter side filled with zeros at the right"
abbrev pub is_one : ℕ → Bool
is_one b = eqb b (code "1")

unfoldable pub bitwise : (Bool → Bool → Bool) → List ℕ → List ℕ → List ℕ
bitwise f [] [] = []
bitwise f [] (y ∷ ys) = bit_of (f false (is_one y)) ∷ bitwise f [] ys
bitwise f (x ∷ xs) [] = bit_of (f (is_one x) false) ∷ bitwise f xs []
bitwise f (x ∷ xs) (y ∷ ys) = bit_of (f (is_one x) (is_one y)) ∷ bitwise f xs ys

unfoldable pub inverted : List ℕ → List ℕ
inverted [] = []
inverted (x ∷ xs) = bit_of (not (is_one x)) ∷ inverted xs

pub data Order : Type 0 where
  below : Order
  alike : Order
  above : Order

unfoldable pub order_of : ℕ → ℕ → Order → Order
order_of x y rest = when (ltb x y) (λ _. below) (λ _. when (ltb y x) (λ _. above) (λ _. rest))

-- byte by byte, the shorter side filled with a byte
unfoldable pub bytes_order : ℕ → List ℕ → List ℕ → Order
bytes_order pad [] [] = alike
bytes_order pad [] (y ∷ ys) = order_of pad y (bytes_order pad [] ys)
bytes_order pad (x ∷ xs) [] = order_of x pad (bytes_order pad xs [])
bytes_order pad (x ∷ xs) (y ∷ ys) = order_of x y (bytes_order pad xs ys)

unfoldable pub numbers_order : ℤ → ℤ → Order
numbers_order x y = cond (lt_z x y) below (cond (lt_z y x) above alike)

-- "numeric if one side is FIXED; else as characters in byte order if one is CHARACTER, shorter side padded with blanks;
-- else bits padded with zeros"
abbrev pub numeric : Value → Value → Answer Order
numeric x y = and_then (to_fixed x) λ a. and_then (to_fixed y) λ b. gives (numbers_order a b)

unfoldable pub compared : Value → Value → Answer Order
compared (fixed x) y = numeric (fixed x) y
compared (characters x) (fixed y) = numeric (characters x) (fixed y)
compared (characters x) (characters y) = gives (bytes_order 32 x y)
compared (characters x) (bit_value y) = gives (bytes_order 32 x y)
compared (bit_value x) (fixed y) = numeric (bit_value x) (fixed y)
compared (bit_value x) (characters y) = gives (bytes_order 32 x y)
compared (bit_value x) (bit_value y) = gives (bytes_order (code "0") x y)

abbrev pub is_below : Order → Bool
is_below below = true
is_below alike = false
is_below above = false

abbrev pub is_alike : Order → Bool
is_alike below = false
is_alike alike = true
is_alike above = false

abbrev pub is_above : Order → Bool
is_above below = false
is_above alike = false
is_above above = true

-- "Its outcome is one bit."
unfoldable pub comparing : (Order → Bool) → Value → Value → Answer Value
comparing test x y = and_then (compared x y) λ o. gives (bit_value (bit_of (test o) ∷ []))

-- "Arithmetic converts to FIXED"; "Operands are evaluated left to right, then converted so"
unfoldable pub arithmetic : (ℤ → ℤ → Fixed.Result) → Value → Value → Answer Value
arithmetic f x y = and_then (to_fixed x) λ a. and_then (to_fixed y) λ b. and_then (from_fixed (f a b)) λ z. gives (fixed z)

-- u bytes of other unfinished values lie below the two sides
unfoldable pub logical : ℕ → (Bool → Bool → Bool) → Value → Value → Answer Value
logical u f x y =
    and_then (to_bits x) λ a. and_then (unfinished (u + size_of y) (bit_value a)) λ _.
    and_then (to_bits y) λ b. and_then (unfinished (u + length a) (bit_value b)) λ _.
    gives (bit_value (bitwise f a b))

-- "`||` of two BIT is BIT, else CHARACTER"
unfoldable pub joined : Value → Value → Answer Value
joined (bit_value x) (bit_value y) = limited (bit_value (x ++ y))
joined (bit_value x) (fixed y) = limited (characters (x ++ fixed_text y))
joined (bit_value x) (characters y) = limited (characters (x ++ y))
joined (fixed x) y = limited (characters (fixed_text x ++ to_characters y))
joined (characters x) y = limited (characters (x ++ to_characters y))

unfoldable pub infixed : ℕ → Operator → Value → Value → Answer Value
infixed u or_op x y = logical u (λ a b. a || b) x y
infixed u and_op x y = logical u (λ a b. a && b) x y
infixed u greater x y = comparing is_above x y
infixed u greater_equal x y = comparing (λ o. not (is_below o)) x y
infixed u equal x y = comparing is_alike x y
infixed u less x y = comparing is_below x y
infixed u less_equal x y = comparing (λ o. not (is_above o)) x y
infixed u not_greater x y = comparing (λ o. not (is_above o)) x y
infixed u not_equal x y = comparing (λ o. not (is_alike o)) x y
infixed u not_less x y = comparing (λ o. not (is_below o)) x y
infixed u cat_op x y = joined x y
infixed u plus x y = arithmetic Fixed.sum x y
infixed u minus x y = arithmetic Fixed.difference x y
infixed u times x y = arithmetic Fixed.product x y
infixed u divided x y = arithmetic Fixed.quotient x y

unfoldable pub prefixed : Prefix → Value → Answer Value
prefixed positive x = and_then (to_fixed x) λ z. gives (fixed z)
prefixed negative x = and_then (to_fixed x) λ z. and_then (from_fixed (Fixed.negative z)) λ y. gives (fixed y)
prefixed complement x = and_then (to_bits x) λ l. gives (bit_value (inverted l))

-- ---- "SUBSTR(s,i,n): places i to i+n-1, without n to the end. Needs i >= 1, n >= 0, and no place past the end; i may
-- be one past it with nothing taken. A FIXED s is first made CHARACTER; the result has the type of s."
abbrev pub subject : Value → Value
subject (fixed z) = characters (fixed_text z)
subject (characters l) = characters l
subject (bit_value l) = bit_value l

abbrev pub piece : Value → ℕ → ℕ → Value
piece (fixed z) i n = characters (take n (drop i (fixed_text z)))
piece (characters l) i n = characters (take n (drop i l))
piece (bit_value l) i n = bit_value (take n (drop i l))

-- n places from place i on, counted from 0
unfoldable pub cut_out : Value → ℕ → ℕ → Answer Value
cut_out v i n = cond (leb (i + n) (size_of v)) (gives (piece v i n)) (fails substr_outside)

abbrev pub length_from : ℤ → (ℕ → Answer Value) → Answer Value
length_from (pos n) f = f n
length_from (negsuc n) f = fails substr_outside

abbrev pub start_from : ℤ → (ℕ → Answer Value) → Answer Value
start_from (pos zero) f = fails substr_outside
start_from (pos (suc i)) f = f i
start_from (negsuc i) f = fails substr_outside

-- of a FIXED; no other value comes here
abbrev pub as_number : Value → ℤ
as_number (fixed z) = z
as_number (characters l) = pos 0
as_number (bit_value l) = pos 0

-- of two or three values, of which the first is no FIXED and the others are; fewer do not come here
unfoldable pub substr : List Value → Answer Value
substr [] = fails substr_outside
substr (s ∷ []) = fails substr_outside
substr (s ∷ i ∷ []) = start_from (as_number i) λ j. cut_out s j (size_of s - j)
substr (s ∷ i ∷ n ∷ vs) = start_from (as_number i) λ j. length_from (as_number n) (cut_out s j)
