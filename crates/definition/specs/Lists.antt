-- Lists of bytes: the few notions that every part of the definition reads by.
use Rattle.std.specs.Prelude.{ℕ, zero, suc, ◌+◌, ◌*◌, ◌/◌, ◌%◌, Bool, true, false, cond, ◌&&◌, ◌||◌, List, [], ◌∷◌, eqb, get_or}

-- the n bytes from a place on; past the end each is 0
abbrev pub part : ℕ → ℕ → List ℕ → List ℕ
part zero at s = []
part (suc n) at s = get_or s at 0 ∷ part n (suc at) s

-- the number that bytes say, the least first ("numbers little-endian")
abbrev pub number : List ℕ → ℕ
number [] = 0
number (b ∷ bs) = b + 256 * number bs

-- a number as k bytes, the least first
abbrev pub bytes : ℕ → ℕ → List ℕ
bytes zero n = []
bytes (suc k) n = n % 256 ∷ bytes k (n / 256)

-- whether all bytes pass a test
abbrev pub all : (ℕ → Bool) → List ℕ → Bool
all p [] = true
all p (b ∷ bs) = p b && all p bs

-- what is left past the longest beginning whose bytes all pass a test
abbrev pub past : (ℕ → Bool) → List ℕ → List ℕ
past p [] = []
past p (b ∷ bs) = cond (p b) (past p bs) (b ∷ bs)

-- whether two lists are the same
abbrev pub same : List ℕ → List ℕ → Bool
same [] [] = true
same [] (y ∷ ys) = false
same (x ∷ xs) [] = false
same (x ∷ xs) (y ∷ ys) = eqb x y && same xs ys

-- whether a number is one of a list
abbrev pub among : ℕ → List ℕ → Bool
among b [] = false
among b (x ∷ xs) = eqb b x || among b xs

-- whether a list is one of several
abbrev pub is_one_of : List ℕ → List (List ℕ) → Bool
is_one_of w [] = false
is_one_of w (x ∷ xs) = same w x || is_one_of w xs

-- the longest beginning whose bytes all pass a test
abbrev pub leading : (ℕ → Bool) → List ℕ → List ℕ
leading p [] = []
leading p (b ∷ bs) = cond (p b) (b ∷ leading p bs) []
