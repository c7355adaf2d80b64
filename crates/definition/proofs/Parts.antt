-- The laws of `part`, `all`, `past` and `same`: what a loop over bytes has in hand.
-- Assumes nothing.
use mathlib.Core.Path.{◌≡◌, refl, ap, ◌∙◌}
use mathlib.Core.Bool.{Bool, true, false, ◌&&◌}
use mathlib.Core.List.{List, [], ◌∷◌, ◌++◌}
use Prim.Native.Nat.{ℕ, zero, suc, ◌+◌, ◌*◌, ◌/◌, ◌^◌, ◌<◌, ◌≤◌}
use native.Mathlib.Nat.{not-suc-le-zero, add-zero, zero-add, suc-add, add-suc, div-add-mod, pow-succ', pow-zero}
use native.Mathlib.Numerals.{add-one}
use native.Mathlib.Omega.{arith}
use lib.Dec.{eqb}
use lib.ListN.{length, get_or}
use Rattle.definition.specs.Lists.{part, number, bytes, same}

pub length_part : (n at : ℕ) (s : List ℕ) → length (part n at s) ≡ n
length_part zero at s = refl
length_part (suc n) at s = ap suc (length_part n (suc at) s)

-- a part of a part
pub get_d_part : (k p a : ℕ) (s : List ℕ) → p < k → get_or (part k a s) p 0 ≡ get_or s (a + p) 0
get_d_part zero p a s h = absurd (not-suc-le-zero h)
get_d_part (suc k) zero a s h = rw add-zero
get_d_part (suc k) (suc p) a s h = get_d_part k p (suc a) s (omega arith) ∙ rw (suc-add, add-suc)

pub part_of_part : (n p k a : ℕ) (s : List ℕ) → p + n ≤ k → part n p (part k a s) ≡ part n (a + p) s
part_of_part zero p k a s h = refl
part_of_part (suc n) p k a s h = rw (get_d_part k p a s (omega arith), part_of_part n (suc p) k a s (omega arith), add-suc)

-- two parts, one behind the other
pub part_append : (n m at : ℕ) (s : List ℕ) → part (n + m) at s ≡ part n at s ++ part m (at + n) s
part_append zero m at s = rw (zero-add, add-zero)
part_append (suc n) m at s = rw (suc-add, add-suc) (ap (λ (t : List ℕ). get_or s at 0 ∷ t) (part_append n m (suc at) s ∙ rw suc-add))

-- one byte more
part_last : (j at : ℕ) (s : List ℕ) → part (suc j) at s ≡ part j at s ++ (get_or s (at + j) 0 ∷ [])
part_last zero at s = rw add-zero
part_last (suc j) at s = ap (λ (t : List ℕ). get_or s at 0 ∷ t) (part_last j (suc at) s ∙ rw (suc-add, add-suc))

pub part_more : (j at : ℕ) (s : List ℕ) → part (j + 1) at s ≡ part j at s ++ (get_or s (at + j) 0 ∷ [])
part_more j at s = rw add-one (part_last j at s)

-- the first byte, and the others
pub part_first : (n m at : ℕ) (s : List ℕ) → n ≡ m + 1 → part n at s ≡ get_or s at 0 ∷ part m (at + 1) s
part_first n m at s e = rw (e, add-one, add-one)

-- two bytes and four
pub part2 : (at : ℕ) (s : List ℕ) → part 2 at s ≡ get_or s at 0 ∷ get_or s (at + 1) 0 ∷ []
part2 at s = rw (part_first 2 1 at s refl, part_first 1 0 (at + 1) s refl)

pub part4 : (at : ℕ) (s : List ℕ) → part 4 at s ≡ get_or s at 0 ∷ get_or s (at + 1) 0 ∷ get_or s (at + 2) 0 ∷ get_or s (at + 3) 0 ∷ []
part4 at s =
    let e : at + 1 + 1 ≡ at + 2 = omega arith in
    let f : at + 2 + 1 ≡ at + 3 = omega arith in
    rw (part_first 4 3 at s refl, part_first 3 2 (at + 1) s refl, e, part_first 2 1 (at + 2) s refl, f, part_first 1 0 (at + 3) s refl)

-- ---- numbers: k bytes say the number that was written as k bytes, at every width
quotient_less : (n w : ℕ) → n < 256 * w → n / 256 < w
quotient_less n w h = omega (arith, div-add-mod n 256)

pub number_bytes : (k n : ℕ) → n < 256 ^ k → number (bytes k n) ≡ n
number_bytes zero n h = let e : n < 1 = rw pow-zero at h in omega arith
number_bytes (suc k) n h =
    let e : n < 256 * 256 ^ k = rw pow-succ' at h in
    rw (number_bytes k (n / 256) (quotient_less n (256 ^ k) e)) (omega (arith, div-add-mod n 256))

-- ---- lists of different lengths are not the same
and_no : (a b : Bool) → false ≡ b → false ≡ (a && b)
and_no true b e = e
and_no false b e = refl

pub same_length : (xs ys : List ℕ) → (length xs ≡ length ys → ⊥) → false ≡ same xs ys
same_length [] [] h = absurd (h refl)
same_length [] (y ∷ ys) h = refl
same_length (x ∷ xs) [] h = refl
same_length (x ∷ xs) (y ∷ ys) h = and_no (eqb x y) (same xs ys) (same_length xs ys (λ e. h (ap suc e)))
