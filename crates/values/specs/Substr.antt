-- SUBSTR's test, by the length of the value and two numbers.
use Rattle.std.specs.Prelude.{ℕ, zero, suc, ◌+◌, ◌-◌, cond, leb, ℤ, pos, negsuc, Option, Some, None}
use Rattle.definition.specs.declared.Why.TheVariants.{SubstrOutside as substr_outside}
use Rattle.definition.specs.Values.{Value, Answer, gives, fails, piece}

-- n places from place i on, counted from 0
unfoldable pub stretch : ℕ → ℕ → ℕ → Option (ℕ × ℕ)
stretch size i n = cond (leb (i + n) size) (Some (i, n)) None

-- n places from place i on, counted from 1
unfoldable pub cut_at : ℕ → ℕ → ℕ → Option (ℕ × ℕ)
cut_at size zero n = None
cut_at size (suc i) n = stretch size i n

unfoldable pub cut_part : ℕ → ℤ → ℤ → Option (ℕ × ℕ)
cut_part size (pos i) (pos n) = cut_at size i n
cut_part size (pos i) (negsuc n) = None
cut_part size (negsuc i) n = None

-- all places from place i on
unfoldable pub cut_rest : ℕ → ℤ → Option (ℕ × ℕ)
cut_rest size (pos i) = cut_at size i (size - (i - 1))
cut_rest size (negsuc i) = None

-- what a cut takes of a value
abbrev pub piece_for : Value → Option (ℕ × ℕ) → Answer Value
piece_for v (Some (i, n)) = gives (piece v i n)
piece_for v None = fails substr_outside
