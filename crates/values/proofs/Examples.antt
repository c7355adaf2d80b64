-- Worked examples of the definition.
use mathlib.Core.Path.{◌≡◌, refl}
use mathlib.Core.Bool.{◌||◌}
use mathlib.Core.List.{[], ◌∷◌}
use lib.IntN.{pos, negsuc}
use Rattle.definition.specs.Text.{bytes_of}
use Rattle.definition.specs.Bytes.{is_digit, is_blank}
use Rattle.definition.specs.declared.Why.TheVariants.{NoConversion as no_conversion, OutOfRange as out_of_range, SubstrOutside as substr_outside}
use Rattle.definition.specs.Fixed.{in_range, ranged}
use Rattle.definition.specs.Values.{fixed, characters, bit_value, gives, fails, written, number_in, to_fixed, decimal_on, fixed_text, binary, order_of, bytes_order, alike, below, bitwise, cut_out, substr}

-- blanks, a sign, digits, blanks
signed_number : to_fixed (characters (bytes_of "  -12 ")) ≡ gives (negsuc 11)
unfolding to_fixed number_in is_digit is_blank written ranged in_range
signed_number = refl

all_blank : to_fixed (characters (bytes_of "   ")) ≡ gives (pos 0)
unfolding to_fixed number_in is_blank
all_blank = refl

-- the sign stands directly before the digits
sign_apart : to_fixed (characters (bytes_of "- 1")) ≡ fails no_conversion
unfolding to_fixed number_in is_digit is_blank
sign_apart = refl

sign_alone : to_fixed (characters (bytes_of "+")) ≡ fails no_conversion
unfolding to_fixed number_in is_digit is_blank
sign_alone = refl

-- the form comes before the range
long_number : to_fixed (characters (bytes_of "100000")) ≡ fails out_of_range
unfolding to_fixed number_in is_digit is_blank written ranged in_range
long_number = refl

long_word : to_fixed (characters (bytes_of "100000 X")) ≡ fails no_conversion
unfolding to_fixed number_in is_digit is_blank
long_word = refl

bits_five : to_fixed (bit_value (bytes_of "0101")) ≡ gives (pos 5)
unfolding to_fixed written ranged in_range
bits_five = refl

five_bits : binary 17 5 ≡ bytes_of "00000000000000101"
unfolding binary
five_bits = refl

-- C-12
least_text : fixed_text (negsuc 99998) ≡ bytes_of "  -99999"
unfolding fixed_text decimal_on
least_text = refl

zero_text : fixed_text (pos 0) ≡ bytes_of "       0"
unfolding fixed_text decimal_on
zero_text = refl

-- the shorter side is filled
blanks_alike : bytes_order 32 (bytes_of "A") (bytes_of "A  ") ≡ alike
unfolding bytes_order order_of
blanks_alike = refl

blank_below : bytes_order 32 (bytes_of "A") (bytes_of "AB") ≡ below
unfolding bytes_order order_of
blank_below = refl

either_bit : bitwise (λ x y. x || y) (bytes_of "1") (bytes_of "0011") ≡ bytes_of "1011"
unfolding bitwise
either_bit = refl

-- one past the end with nothing taken, and two past it
past_end : substr (characters (bytes_of "ABC") ∷ fixed (pos 4) ∷ []) ≡ gives (characters [])
unfolding substr cut_out
past_end = refl

too_far : substr (characters (bytes_of "ABC") ∷ fixed (pos 5) ∷ []) ≡ fails substr_outside
unfolding substr cut_out
too_far = refl
