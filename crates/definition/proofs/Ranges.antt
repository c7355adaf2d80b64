-- Every value is in its range: FIXED from -99,999 to 99,999, CHARACTER and BIT at most 512 places.
-- Assumes nothing.
use Prim.Native.Nat.{ℕ, zero, suc, ◌+◌, ◌-◌, ◌/◌, ◌%◌, ◌≤◌, max}
use Prim.Native.Char.{code}
use native.Mathlib.Omega.{arith}
use mathlib.Core.Bool.{Bool, true, ◌&&◌}
use mathlib.Core.List.{List, [], ◌∷◌, ◌++◌}
use mathlib.Core.Path.{◌≡◌, refl, ap, ◌∙◌}
use lib.Dec.{leb, ltb, eqb}
use lib.IntN.{ℤ, pos, negsuc, nat_abs}
use lib.ListN.{length, get_or, set, take, drop, replicate, length-take, length-drop, length-append, length-replicate}
use lib.Signed.{quot_z}
use borrow.Author.Tests.{leb-true}
use Rattle.definition.specs.Limits.{fixed_width, value_length, unfinished_bytes}
use Rattle.definition.specs.Lists.{all, past, leading}
use Rattle.definition.specs.Bytes.{mixed, is_digit, is_blank}
use Rattle.definition.specs.Tokens.{is_bit}
use Rattle.definition.specs.Fixed as Fixed
use Rattle.definition.specs.Fixed.{Result, in_range, ranged}
use Rattle.definition.specs.Expressions.{Operator, or_op, and_op, greater, greater_equal, equal, less, less_equal, not_greater, not_equal, not_less, cat_op, plus, minus, times, divided, Prefix, positive, negative, complement, Tree}
use Rattle.definition.specs.Program.{Type', fixed_type, character_type}
use Rattle.definition.specs.Values.{Value, fixed, characters, bit_value, Answer, from_fixed, decimal_on, shortest, fixed_text, written, constant, is_minus, unsigned, signed_by, number_in, to_fixed, to_characters, binary, to_bits, convert, size_of, limited, unfinished, bit_of, bitwise, inverted, Order, compared, comparing, arithmetic, logical, joined, infixed, prefixed, subject, piece, cut_out, length_from, start_from, as_number, substr}
use Rattle.definition.specs.World as W
use Rattle.definition.specs.World.{Owner, Cell, World, good, value_at}
use Rattle.definition.specs.Evaluate.{evaluate}
use Rattle.definition.specs.Flow.{End}
use Rattle.definition.specs.Calls.{Place, calls}
use Rattle.definition.specs.Run.{run_member}
use Rattle.definition.proofs.Keeping.{Any, Gives, given, failed, any_given, then_gives, OfCell, OfAll, Laws, leaves_it, evaluate_leaves, calls_leaves}
use Rattle.definition.proofs.Members.{text_out_lem, member_leaves}
use Rattle.definition.proofs.Choices.{when_has, cond_has}

abbrev pub Small : ℤ → Type 0
Small z = in_range z ≡ true

abbrev pub Short : List ℕ → Type 0
Short l = length l ≤ value_length

-- A VALUE in its range
abbrev pub Fine : Value → Type 0
Fine (fixed z) = Small z
Fine (characters l) = Short l
Fine (bit_value l) = Short l

-- ---- numbers
abbrev Ranged : Result → Type 0
Ranged (Fixed.is z) = Small z
Ranged Fixed.out_of_range = Unit {0}
Ranged Fixed.zero_divisor = Unit {0}

ranged_in : (z : ℤ) → Ranged (ranged z)
unfolding ranged
ranged_in z = cond_has Ranged (in_range z) _ _ (λ e. e) λ _. tt

from_ranged : (r : Result) → Ranged r → Gives Small (from_fixed r)
from_ranged (Fixed.is z) h = given h
from_ranged Fixed.out_of_range h = failed
from_ranged Fixed.zero_divisor h = failed

ranged_small : (z : ℤ) → Gives Small (from_fixed (ranged z))
ranged_small z = from_ranged (ranged z) (ranged_in z)

sum_in : (x y : ℤ) → Ranged (Fixed.sum x y)
unfolding Fixed.sum
sum_in x y = ranged_in _

difference_in : (x y : ℤ) → Ranged (Fixed.difference x y)
unfolding Fixed.difference
difference_in x y = ranged_in _

product_in : (x y : ℤ) → Ranged (Fixed.product x y)
unfolding Fixed.product
product_in x y = ranged_in _

quotient_in : (x y : ℤ) → Ranged (Fixed.quotient x y)
unfolding Fixed.quotient
quotient_in x y = cond_has Ranged (eqb (nat_abs y) 0) _ _ (λ _. tt) λ _. ranged_in (quot_z x y)

pub constant_small : (ds : List ℕ) → Gives Small (constant ds)
unfolding constant
constant_small ds = ranged_small (pos (written 10 0 ds))

number_small : (l : List ℕ) → Gives Small (number_in l)
unfolding number_in in_range
number_small [] = given refl
number_small (b ∷ l) =
    let ds : List ℕ = leading is_digit (unsigned (b ∷ l)) in
    when_has (Gives Small) (ltb 0 (length ds) && all is_blank (past is_digit (unsigned (b ∷ l)))) _ _
    (λ _. ranged_small (signed_by (is_minus (b ∷ l)) (written 10 0 ds))) λ _. failed

pub to_fixed_small : (v : Value) → Fine v → Gives Small (to_fixed v)
unfolding to_fixed
to_fixed_small (fixed z) h = given h
to_fixed_small (characters l) h = number_small (past is_blank l)
to_fixed_small (bit_value l) h = ranged_small (pos (written 2 0 l))

-- ---- characters and bits
pub decimal_length : (f n : ℕ) (ds : List ℕ) → length (decimal_on f n ds) ≤ f + length ds
unfolding decimal_on
decimal_length zero n ds = omega arith
decimal_length (suc f) n ds = when_has (λ (l : List ℕ). length l ≤ suc f + length ds) (ltb n 10) _ _ (λ _. omega arith) λ _. omega (arith, decimal_length f (n / 10) ((code "0" + n % 10) ∷ ds))

shortest_length : (z : ℤ) → length (shortest z) ≤ fixed_width
shortest_length (pos n) = omega (arith, decimal_length 6 n [])
shortest_length (negsuc n) = omega (arith, decimal_length 6 (suc n) [])

-- C-12: FIXED to CHARACTER gives eight places
pub text_wide : (z : ℤ) → length (fixed_text z) ≡ fixed_width
unfolding fixed_text
text_wide z =
    length-append (replicate (fixed_width - length (shortest z)) (code " ")) (shortest z)
    ∙ rw (length-replicate {A = ℕ}) (omega (arith, shortest_length z))

text_short : (z : ℤ) → Short (fixed_text z)
text_short z = rw (text_wide z) (omega arith)

pub to_characters_short : (v : Value) → Fine v → Short (to_characters v)
unfolding to_characters
to_characters_short (fixed z) h = text_short z
to_characters_short (characters l) h = h
to_characters_short (bit_value l) h = h

binary_length : (k n : ℕ) → length (binary k n) ≡ k
unfolding binary
binary_length zero n = refl
binary_length (suc k) n = ap suc (binary_length k n)

pub to_bits_short : (v : Value) → Fine v → Gives Short (to_bits v)
unfolding to_bits
to_bits_short (fixed z) h = given {a = binary 17 (nat_abs z)} (omega (arith, binary_length 17 (nat_abs z)))
to_bits_short (characters l) h = cond_has (Gives Short) (all is_bit l) _ _ (λ _. given h) λ _. failed
to_bits_short (bit_value l) h = given h

pub convert_fine : (t : Type') (v : Value) → Fine v → Gives Fine (convert t v)
unfolding convert
convert_fine fixed_type v h = then_gives (to_fixed_small v h) λ z k. given k
convert_fine character_type v h = given (to_characters_short v h)

-- only a number is asked to be in range already
abbrev NumberFine : Value → Type 0
NumberFine (fixed z) = Small z
NumberFine (characters l) = Unit {0}
NumberFine (bit_value l) = Unit {0}

limit_fine : (v : Value) → NumberFine v → size_of v ≤ value_length → Fine v
limit_fine (fixed z) h k = h
limit_fine (characters l) h k = k
limit_fine (bit_value l) h k = k

pub limited_fine : (v : Value) → NumberFine v → Gives Fine (limited v)
unfolding limited
limited_fine v h = cond_has (Gives Fine) (leb (size_of v) value_length) _ _ (λ e. given (limit_fine v h (leb-true (size_of v) value_length e))) λ _. failed

pub unfinished_fine : (u : ℕ) (v : Value) → Fine v → Gives Fine (unfinished u v)
unfolding unfinished
unfinished_fine u v h = cond_has (Gives Fine) (leb (u + size_of v) unfinished_bytes) _ _ (λ _. given h) λ _. failed

-- ---- operators
bitwise_length : (f : Bool → Bool → Bool) (a b : List ℕ) → length (bitwise f a b) ≤ max (length a) (length b)
unfolding bitwise
bitwise_length f [] [] = omega arith
bitwise_length f [] (y ∷ ys) = omega (arith, bitwise_length f [] ys)
bitwise_length f (x ∷ xs) [] = omega (arith, bitwise_length f xs [])
bitwise_length f (x ∷ xs) (y ∷ ys) = omega (arith, bitwise_length f xs ys)

inverted_length : (l : List ℕ) → length (inverted l) ≡ length l
unfolding inverted
inverted_length [] = refl
inverted_length (x ∷ xs) = ap suc (inverted_length xs)

logical_fine : (u : ℕ) (f : Bool → Bool → Bool) (x y : Value) → Fine x → Fine y → Gives Fine (logical u f x y)
unfolding logical
logical_fine u f x y h k =
    then_gives (to_bits_short x h) λ a p. then_gives (unfinished_fine (u + size_of y) (bit_value a) p) λ _ _.
    then_gives (to_bits_short y k) λ b q. then_gives (unfinished_fine (u + length a) (bit_value b) q) λ _ _.
    given {a = bit_value (bitwise f a b)} (omega (arith, bitwise_length f a b))

one_bit : (b : ℕ) → Fine (bit_value (b ∷ []))
one_bit b = omega arith

comparing_fine : (test : Order → Bool) (x y : Value) → Gives Fine (comparing test x y)
unfolding comparing
comparing_fine test x y = then_gives (any_given (compared x y)) λ o _. given (one_bit (bit_of (test o)))

arithmetic_fine : (f : ℤ → ℤ → Result) → ((a b : ℤ) → Ranged (f a b)) → (x y : Value) → Fine x → Fine y → Gives Fine (arithmetic f x y)
unfolding arithmetic
arithmetic_fine f r x y h k =
    then_gives (to_fixed_small x h) λ a _. then_gives (to_fixed_small y k) λ b _. then_gives (from_ranged (f a b) (r a b)) λ z e. given e

joined_fine : (x y : Value) → Gives Fine (joined x y)
unfolding joined
joined_fine (bit_value x) (bit_value y) = limited_fine _ tt
joined_fine (bit_value x) (fixed y) = limited_fine _ tt
joined_fine (bit_value x) (characters y) = limited_fine _ tt
joined_fine (fixed x) y = limited_fine _ tt
joined_fine (characters x) y = limited_fine _ tt

pub infixed_fine : (u : ℕ) (o : Operator) (x y : Value) → Fine x → Fine y → Gives Fine (infixed u o x y)
unfolding infixed
infixed_fine u or_op x y h k = logical_fine u _ x y h k
infixed_fine u and_op x y h k = logical_fine u _ x y h k
infixed_fine u greater x y h k = comparing_fine _ x y
infixed_fine u greater_equal x y h k = comparing_fine _ x y
infixed_fine u equal x y h k = comparing_fine _ x y
infixed_fine u less x y h k = comparing_fine _ x y
infixed_fine u less_equal x y h k = comparing_fine _ x y
infixed_fine u not_greater x y h k = comparing_fine _ x y
infixed_fine u not_equal x y h k = comparing_fine _ x y
infixed_fine u not_less x y h k = comparing_fine _ x y
infixed_fine u cat_op x y h k = joined_fine x y
infixed_fine u plus x y h k = arithmetic_fine _ sum_in x y h k
infixed_fine u minus x y h k = arithmetic_fine _ difference_in x y h k
infixed_fine u times x y h k = arithmetic_fine _ product_in x y h k
infixed_fine u divided x y h k = arithmetic_fine _ quotient_in x y h k

negative_in : (z : ℤ) → Ranged (Fixed.negative z)
unfolding Fixed.negative
negative_in z = ranged_in _

pub prefixed_fine : (o : Prefix) (x : Value) → Fine x → Gives Fine (prefixed o x)
unfolding prefixed
prefixed_fine positive x h = then_gives (to_fixed_small x h) λ z e. given e
prefixed_fine negative x h = then_gives (to_fixed_small x h) λ z _. then_gives (from_ranged (Fixed.negative z) (negative_in z)) λ y e. given e
prefixed_fine complement x h = then_gives (to_bits_short x h) λ l e. given {a = bit_value (inverted l)} (omega (arith, inverted_length l))

-- ---- SUBSTR
pub subject_fine : (v : Value) → Fine v → Fine (subject v)
subject_fine (fixed z) h = text_short z
subject_fine (characters l) h = h
subject_fine (bit_value l) h = h

cut_short : (l : List ℕ) (i n : ℕ) → Short l → Short (take n (drop i l))
cut_short l i n h = simp (length-take, length-drop) (omega arith)

piece_fine : (v : Value) (i n : ℕ) → Fine v → Fine (piece v i n)
piece_fine (fixed z) i n h = cut_short (fixed_text z) i n (text_short z)
piece_fine (characters l) i n h = cut_short l i n h
piece_fine (bit_value l) i n h = cut_short l i n h

cut_out_fine : (v : Value) (i n : ℕ) → Fine v → Gives Fine (cut_out v i n)
unfolding cut_out
cut_out_fine v i n h = cond_has (Gives Fine) (leb (i + n) (size_of v)) _ _ (λ _. given (piece_fine v i n h)) λ _. failed

length_fine : (z : ℤ) (f : ℕ → Answer Value) → ((n : ℕ) → Gives Fine (f n)) → Gives Fine (length_from z f)
length_fine (pos n) f h = h n
length_fine (negsuc n) f h = failed

start_fine : (z : ℤ) (f : ℕ → Answer Value) → ((n : ℕ) → Gives Fine (f n)) → Gives Fine (start_from z f)
start_fine (pos zero) f h = failed
start_fine (pos (suc i)) f h = h i
start_fine (negsuc i) f h = failed

pub substr_fine : (vs : List Value) → OfAll Fine vs → Gives Fine (substr vs)
unfolding substr
substr_fine [] h = failed
substr_fine (s ∷ []) h = failed
substr_fine (s ∷ i ∷ []) h = start_fine (as_number i) _ λ j. cut_out_fine s j (size_of s - j) h.0
substr_fine (s ∷ i ∷ n ∷ vs) h = start_fine (as_number i) _ λ j. length_fine (as_number n) _ λ k. cut_out_fine s j k h.0

-- ---- THE RUN: in a world whose cells are fine every part of a run gives fine values, and leaves such a world
pub record FineWorld (w : World) : Type 0 where
  pub cells : (a : ℕ) → OfCell Fine (value_at a w)

abbrev FineCells : List Cell → Type 0
FineCells cs = (a : ℕ) → OfCell Fine (get_or cs a W.no_value)

set_fine : (cs : List Cell) (i : ℕ) (v : Value) → Fine v → FineCells cs → FineCells (set cs i (W.holds v))
set_fine [] i v e h a = tt
set_fine (c ∷ cs) zero v e h zero = e
set_fine (c ∷ cs) zero v e h (suc a) = h (suc a)
set_fine (c ∷ cs) (suc i) v e h zero = h zero
set_fine (c ∷ cs) (suc i) v e h (suc a) = set_fine cs i v e (λ b. h (suc b)) a

more_fine : (cs : List Cell) → FineCells cs → FineCells (cs ++ W.no_value ∷ [])
more_fine [] h zero = tt
more_fine [] h (suc a) = tt
more_fine (c ∷ cs) h zero = h zero
more_fine (c ∷ cs) h (suc a) = more_fine cs (λ b. h (suc b)) a

pub ranges : Laws FineWorld Fine Any
ranges = record {
  left = λ w h. tt;
  charged = λ w h l. record { cells = h.cells };
  changed = λ v w h _ r. record { cells = rw r h.cells };
  named = λ v w h _ r. record { cells = rw r (more_fine w.values h.cells) };
  stored = λ a x w e h. record { cells = set_fine w.values a x e h.cells };
  cells = λ a w h. h.cells a;
  constants = constant_small;
  strings = λ l. limited_fine (characters l) tt;
  bit_strings = λ l. limited_fine (bit_value l) tt;
  prefixes = prefixed_fine;
  infixes = infixed_fine;
  converts = convert_fine;
  numbers = to_fixed_small;
  sums = λ y z. from_ranged (Fixed.sum y z) (sum_in y z);
  subjects = subject_fine;
  substrs = substr_fine;
  scanned = λ l h. h;
}

pub evaluate_fine : (n : ℕ) (ps : List Place) (k : Owner) (x : Tree) (u : ℕ) (w : World) → FineWorld w → {v : Value} {y : World} → evaluate (calls n ps) k x u w ≡ good v y → Fine v × FineWorld y
evaluate_fine n ps k x u w h e = leaves_it ranges (evaluate_leaves ranges (calls n ps) (calls_leaves ranges n ps) k x u w h) e

pub member_fine : (n : ℕ) (d : List ℕ) (m : ℕ) (ps : List Place) (w : World) → FineWorld w → {x : End} {y : World} → run_member mixed n d m ps w ≡ good x y → FineWorld y
member_fine n d m ps w h e = (leaves_it ranges (member_leaves ranges d (text_out_lem ranges d λ e _ k v _ g. record { cells = g.cells }) n m ps w h) e).1
