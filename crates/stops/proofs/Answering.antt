-- Why there is no value: for one of 3 to 19.
-- Assumes nothing.
use Prim.Native.Nat.{ℕ, zero, suc, ◌+◌}
use mathlib.Core.Bool.{Bool, ◌&&◌}
use mathlib.Core.List.{List, [], ◌∷◌}
use lib.Dec.{leb, ltb}
use lib.IntN.{ℤ, pos, negsuc}
use lib.ListN.{length}
use Rattle.definition.specs.declared.Why.{Why}
use Rattle.definition.specs.declared.Operator.{Operator}
use Rattle.definition.specs.declared.Operator.TheVariants as O
use Rattle.definition.specs.declared.Prefix.{Prefix}
use Rattle.definition.specs.declared.Prefix.TheVariants as P
use Rattle.definition.specs.declared.ValueType.{ValueType}
use Rattle.definition.specs.declared.ValueType.TheVariants.{FixedType, CharacterType}
use Rattle.definition.specs.Limits.{value_length, unfinished_bytes}
use Rattle.definition.specs.Bytes.{is_digit, is_blank}
use Rattle.definition.specs.Lists.{all, past, leading}
use Rattle.definition.specs.Tokens.{is_bit}
use Rattle.definition.specs.Fixed as Fixed
use Rattle.definition.specs.Values as Values
use Rattle.definition.specs.Values.{Value, fixed, characters, bit_value, Answer, gives, fails, and_then, from_fixed, written, constant, is_minus, unsigned, signed_by, number_in, to_fixed, to_bits, convert, size_of, limited, unfinished, holds, numeric, compared, comparing, arithmetic, logical, joined, infixed, prefixed, cut_out, length_from, start_from, as_number, substr}
use Rattle.definition.specs.World.{Owner, Denotation, variable_of, entry_of, label_at, builtin_name, Address, address, unknown, World, Body, no_body, body_at, address_of, denotation}
use Rattle.definition.specs.Evaluate.{parameter_as, parameter_at, parameters, callee, Wish, as_type, as_subject, wished}
use Rattle.stops.proofs.Reasons.{Late, choice, pick}

pub data Tells {A : Type 0} : Answer A → Type 0 where
  told : {a : A} → Tells (gives a)
  failed : {e : Why} → Late e → Tells (fails e)

pub then_tells : {A B : Type 0} {x : Answer A} {f : A → Answer B} → Tells x → ((a : A) → Tells (f a)) → Tells (and_then x f)
then_tells (told {a}) k = k a
then_tells (failed h) k = failed h

pub from_fixed_lem : (r : Fixed.Result) → Tells (from_fixed r)
from_fixed_lem (Fixed.is z) = told
from_fixed_lem Fixed.out_of_range = failed tt
from_fixed_lem Fixed.zero_divisor = failed tt

pub constant_tells : (ds : List ℕ) → Tells (constant ds)
unfolding constant
constant_tells ds = from_fixed_lem (Fixed.ranged (pos (written 10 0 ds)))

number_in_lem : (l : List ℕ) → Tells (number_in l)
unfolding number_in
number_in_lem [] = told
number_in_lem (b ∷ l) =
    let ds : List ℕ = leading is_digit (unsigned (b ∷ l)) in
    choice Tells (ltb 0 (length ds) && all is_blank (past is_digit (unsigned (b ∷ l)))) _ _ (from_fixed_lem (Fixed.ranged (signed_by (is_minus (b ∷ l)) (written 10 0 ds)))) (failed tt)

pub to_fixed_lem : (v : Value) → Tells (to_fixed v)
unfolding to_fixed
to_fixed_lem (fixed z) = told
to_fixed_lem (characters l) = number_in_lem (past is_blank l)
to_fixed_lem (bit_value l) = from_fixed_lem (Fixed.ranged (pos (written 2 0 l)))

to_bits_lem : (v : Value) → Tells (to_bits v)
unfolding to_bits
to_bits_lem (fixed z) = told
to_bits_lem (characters l) = pick Tells (all is_bit l) _ _ told (failed tt)
to_bits_lem (bit_value l) = told

pub convert_tells : (t : ValueType) (v : Value) → Tells (convert t v)
unfolding convert
convert_tells FixedType v = then_tells (to_fixed_lem v) λ z. told
convert_tells CharacterType v = told

pub limited_tells : (v : Value) → Tells (limited v)
unfolding limited
limited_tells v = pick Tells (leb (size_of v) value_length) _ _ told (failed tt)

pub unfinished_tells : (u : ℕ) (v : Value) → Tells (unfinished u v)
unfolding unfinished
unfinished_tells u v = pick Tells (leb (u + size_of v) unfinished_bytes) _ _ told (failed tt)

pub holds_tells : (u : ℕ) (v : Value) → Tells (holds u v)
unfolding holds
holds_tells u v = then_tells (to_bits_lem v) λ l. then_tells (unfinished_tells u (bit_value l)) λ _. told

numeric_tells : (x y : Value) → Tells (numeric x y)
numeric_tells x y = then_tells (to_fixed_lem x) λ a. then_tells (to_fixed_lem y) λ b. told

compared_tells : (x y : Value) → Tells (compared x y)
unfolding compared
compared_tells (fixed x) y = numeric_tells (fixed x) y
compared_tells (characters x) (fixed y) = numeric_tells (characters x) (fixed y)
compared_tells (characters x) (characters y) = told
compared_tells (characters x) (bit_value y) = told
compared_tells (bit_value x) (fixed y) = numeric_tells (bit_value x) (fixed y)
compared_tells (bit_value x) (characters y) = told
compared_tells (bit_value x) (bit_value y) = told

comparing_tells : (f : Values.Order → Bool) (x y : Value) → Tells (comparing f x y)
unfolding comparing
comparing_tells f x y = then_tells (compared_tells x y) λ o. told

arithmetic_tells : (f : ℤ → ℤ → Fixed.Result) (x y : Value) → Tells (arithmetic f x y)
unfolding arithmetic
arithmetic_tells f x y = then_tells (to_fixed_lem x) λ a. then_tells (to_fixed_lem y) λ b. then_tells (from_fixed_lem (f a b)) λ z. told

logical_tells : (u : ℕ) (f : Bool → Bool → Bool) (x y : Value) → Tells (logical u f x y)
unfolding logical
logical_tells u f x y = then_tells (to_bits_lem x) λ a. then_tells (unfinished_tells _ (bit_value a)) λ _. then_tells (to_bits_lem y) λ b. then_tells (unfinished_tells _ (bit_value b)) λ _. told

joined_tells : (x y : Value) → Tells (joined x y)
unfolding joined
joined_tells (bit_value x) (bit_value y) = limited_tells _
joined_tells (bit_value x) (fixed y) = limited_tells _
joined_tells (bit_value x) (characters y) = limited_tells _
joined_tells (fixed x) y = limited_tells _
joined_tells (characters x) y = limited_tells _

pub infixed_tells : (u : ℕ) (o : Operator) (x y : Value) → Tells (infixed u o x y)
unfolding infixed
infixed_tells u O.OrOp x y = logical_tells u _ x y
infixed_tells u O.AndOp x y = logical_tells u _ x y
infixed_tells u O.Greater x y = comparing_tells _ x y
infixed_tells u O.GreaterEqual x y = comparing_tells _ x y
infixed_tells u O.Equal x y = comparing_tells _ x y
infixed_tells u O.Less x y = comparing_tells _ x y
infixed_tells u O.LessEqual x y = comparing_tells _ x y
infixed_tells u O.NotGreater x y = comparing_tells _ x y
infixed_tells u O.NotEqual x y = comparing_tells _ x y
infixed_tells u O.NotLess x y = comparing_tells _ x y
infixed_tells u O.CatOp x y = joined_tells x y
infixed_tells u O.Plus x y = arithmetic_tells _ x y
infixed_tells u O.Minus x y = arithmetic_tells _ x y
infixed_tells u O.Times x y = arithmetic_tells _ x y
infixed_tells u O.Divided x y = arithmetic_tells _ x y

pub prefixed_tells : (o : Prefix) (x : Value) → Tells (prefixed o x)
unfolding prefixed
prefixed_tells P.Positive x = then_tells (to_fixed_lem x) λ z. told
prefixed_tells P.Negative x = then_tells (to_fixed_lem x) λ z. then_tells (from_fixed_lem (Fixed.negative z)) λ y. told
prefixed_tells P.Complement x = then_tells (to_bits_lem x) λ l. told

cut_out_lem : (v : Value) (i n : ℕ) → Tells (cut_out v i n)
unfolding cut_out
cut_out_lem v i n = pick Tells (leb (i + n) (size_of v)) _ _ told (failed tt)

length_from_lem : (z : ℤ) (f : ℕ → Answer Value) → ((n : ℕ) → Tells (f n)) → Tells (length_from z f)
length_from_lem (pos n) f h = h n
length_from_lem (negsuc n) f h = failed tt

start_from_lem : (z : ℤ) (f : ℕ → Answer Value) → ((n : ℕ) → Tells (f n)) → Tells (start_from z f)
start_from_lem (pos zero) f h = failed tt
start_from_lem (pos (suc i)) f h = h i
start_from_lem (negsuc i) f h = failed tt

pub substr_tells : (vs : List Value) → Tells (substr vs)
unfolding substr
substr_tells [] = failed tt
substr_tells (s ∷ []) = failed tt
substr_tells (s ∷ i ∷ []) = start_from_lem (as_number i) _ λ j. cut_out_lem s j _
substr_tells (s ∷ i ∷ n ∷ vs) = start_from_lem (as_number i) _ λ j. length_from_lem (as_number n) _ (cut_out_lem s j)

parameter_as_lem : (d : Denotation) (a : ℕ) → Tells (parameter_as d a)
parameter_as_lem (variable_of t) a = told
parameter_as_lem (entry_of e b) a = failed tt
parameter_as_lem (label_at m r x) a = failed tt
parameter_as_lem builtin_name a = failed tt

parameter_at_lem : (x : Address) (w : World) → Tells (parameter_at x w)
parameter_at_lem (address a) w = parameter_as_lem (denotation a w) a
parameter_at_lem unknown w = failed tt

parameters_tell : (k : Owner) (ns : List (List ℕ)) (w : World) → Tells (parameters k ns w)
unfolding parameters
parameters_tell k [] w = told
parameters_tell k (n ∷ ns) w = then_tells (parameter_at_lem (address_of n k w) w) λ p. then_tells (parameters_tell k ns w) λ ps. told

pub callee_tells : (b : Body) (w : World) → Tells (callee b w)
unfolding callee
callee_tells no_body w = failed tt
callee_tells (body_at m r) w = then_tells (parameters_tell _ _ w) λ ps. told

pub wished_tells : (g : Wish) (v : Value) → Tells (wished g v)
wished_tells (as_type t) v = convert_tells t v
wished_tells as_subject v = told
