-- Worked examples of the definition: cut towards zero, both ends of the range, zero; and of the stored form.
use mathlib.Core.Path.{◌≡◌, refl}
use lib.IntN.{ℤ, pos, negsuc}
use Rattle.definition.specs.Fixed.{is, out_of_range, zero_divisor, in_range, ranged, sum, difference, product, negative, quotient}
use Rattle.fixed.specs.Signed.{stored_of}

-- -7 / 2, 7 / -2, -7 / -2, -1 / 2
negative_dividend : quotient (negsuc 6) (pos 2) ≡ is (negsuc 2)
unfolding quotient ranged in_range
negative_dividend = refl

negative_divisor : quotient (pos 7) (negsuc 1) ≡ is (negsuc 2)
unfolding quotient ranged in_range
negative_divisor = refl

both_negative : quotient (negsuc 6) (negsuc 1) ≡ is (pos 3)
unfolding quotient ranged in_range
both_negative = refl

cut_to_zero : quotient (negsuc 0) (pos 2) ≡ is (pos 0)
unfolding quotient ranged in_range
cut_to_zero = refl

by_zero : (x : ℤ) → quotient x (pos 0) ≡ zero_divisor
unfolding quotient
by_zero x = refl

-- 99999 + 1, 0 - 99999, -99999 - 1
past_most : sum (pos 99999) (pos 1) ≡ out_of_range
unfolding sum ranged in_range
past_most = refl

least_stands : difference (pos 0) (pos 99999) ≡ is (negsuc 99998)
unfolding difference ranged in_range
least_stands = refl

past_least : difference (negsuc 99998) (pos 1) ≡ out_of_range
unfolding difference ranged in_range
past_least = refl

-- 99999 * 99999, -(-99999), -0
large_product : product (pos 99999) (pos 99999) ≡ out_of_range
unfolding product ranged in_range
large_product = refl

least_negated : negative (negsuc 99998) ≡ is (pos 99999)
unfolding negative ranged in_range
least_negated = refl

zero_negated : negative (pos 0) ≡ is (pos 0)
unfolding negative ranged in_range
zero_negated = refl

stored_least : stored_of (negsuc 99998) ≡ 1
unfolding stored_of in_range
stored_least = refl

stored_most : stored_of (pos 99999) ≡ 199999
unfolding stored_of in_range
stored_most = refl

stored_none : stored_of (pos 100000) ≡ 0
unfolding stored_of in_range
stored_none = refl
