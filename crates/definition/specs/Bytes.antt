-- 01, "What is covered": the classes of the 256 byte values. Bytes are ASCII.
use Rattle.std.specs.Prelude.{ℕ, ◌-◌, Bool, false, cond, ◌&&◌, ◌||◌, List, [], ◌∷◌, leb, eqb}
use Prim.Native.Char.{code}
use Rattle.definition.specs.Text.{bytes_of}
use Rattle.definition.specs.Lists.{among}
use Rattle.definition.specs.declared.Class.{Class}
use Rattle.definition.specs.declared.Class.TheVariants.{Letter, Digit, Break, Blank, LineFeed, Percent, Quote, Mark, Other}

-- THE LETTERS IN FORCE: 01's, where "lower case is no letter"; or, and this is what runs, those of 02, C-15: "Lower-case
-- letters become letters"
pub data Letters : Type 0 where
  capitals : Letters
  mixed : Letters

-- a to z, where they are letters
unfoldable pub is_small : Letters → ℕ → Bool
is_small capitals b = false
is_small mixed b = leb (code "a") b && leb b (code "z")

-- "Letters are A to Z, `$ @ #`"
unfoldable pub is_letter : Letters → ℕ → Bool
is_letter α b = leb (code "A") b && leb b (code "Z") || is_small α b || among b (bytes_of "$@#")

-- 02, C-15: "names equal but for case are one name": a name is read with each small letter as its capital, which stands
-- 32 before it
unfoldable pub capital : Letters → ℕ → ℕ
capital α b = cond (is_small α b) (b - 32) b

unfoldable pub folded : Letters → List ℕ → List ℕ
folded α [] = []
folded α (b ∷ l) = capital α b ∷ folded α l

-- 000, 3.2.2 (54): 0 to 9
unfoldable pub is_digit : ℕ → Bool
is_digit b = leb (code "0") b && leb b (code "9")

-- 000, 3.2.2 (53): letter, digit or `_`
unfoldable pub is_alphameric : Letters → ℕ → Bool
is_alphameric α b = is_letter α b || is_digit b || eqb b (code "_")

-- "A blank is byte 32"
unfoldable pub is_blank : ℕ → Bool
is_blank b = eqb b 32

-- the bytes of the delimiters of 000, 3.1.1; "`^` stands for the not sign"
unfoldable pub is_mark : ℕ → Bool
is_mark b = among b (bytes_of "=+-*/(),;:&|^><")

-- the class of a byte: letter, digit, `_`, blank, line feed, `%`, quote, mark, or any other
unfoldable pub class_of : Letters → ℕ → Class
class_of α b =
    cond (is_letter α b) Letter
    (cond (is_digit b) Digit
    (cond (eqb b (code "_")) Break
    (cond (is_blank b) Blank
    (cond (eqb b 10) LineFeed
    (cond (eqb b (code "%")) Percent
    (cond (eqb b (code "'")) Quote
    (cond (is_mark b) Mark Other)))))))
