-- The laws of `over`, which every proof about a lent room cites.
-- Assumes nothing.
use mathlib.Core.Path.{◌≡◌, refl, sym, ap, ◌∙◌}
use mathlib.Core.List.{List, [], ◌∷◌, ◌++◌, append-nil}
use Prim.Native.Nat.{ℕ, zero, suc, ◌+◌, ◌<◌, ◌≤◌}
use native.Mathlib.Nat.{zero-add, suc-add, not-suc-le-zero, le_of_suc-le-suc}
use native.Mathlib.Numerals.{add-one}
use native.Mathlib.Omega.{arith}
use lib.ListN.{length, get_or, set, drop, length-replicate, replicate-append-replicate}
use Rattle.definition.specs.Room.{over, zeros}

pub length_over : (r : List ℕ) (at : ℕ) (xs : List ℕ) → length (over r at xs) ≡ length r
length_over [] at xs = refl
length_over (r ∷ rs) zero [] = refl
length_over (r ∷ rs) zero (x ∷ xs) = ap suc (length_over rs zero xs)
length_over (r ∷ rs) (suc at) xs = ap suc (length_over rs at xs)

pub over_nil : (r : List ℕ) (at : ℕ) → over r at [] ≡ r
over_nil [] at = refl
over_nil (r ∷ rs) zero = refl
over_nil (r ∷ rs) (suc at) = ap (λ (t : List ℕ). r ∷ t) (over_nil rs at)

-- one number stored is a list of one written over
pub set_is_over : (r : List ℕ) (i v : ℕ) → set r i v ≡ over r i (v ∷ [])
set_is_over [] i v = refl
set_is_over (r ∷ rs) zero v = ap (λ (t : List ℕ). v ∷ t) (sym (over_nil rs 0))
set_is_over (r ∷ rs) (suc i) v = ap (λ (t : List ℕ). r ∷ t) (set_is_over rs i v)

next0 : (r xs ys : List ℕ) → over (over r 0 xs) (length xs) ys ≡ over r 0 (xs ++ ys)
next0 [] xs ys = refl
next0 (r ∷ rs) [] ys = refl
next0 (r ∷ rs) (x ∷ xs) ys = ap (λ (t : List ℕ). x ∷ t) (next0 rs xs ys)

-- what is written over next goes after what was written
pub over_next : (r : List ℕ) (at : ℕ) (xs ys : List ℕ) → over (over r at xs) (at + length xs) ys ≡ over r at (xs ++ ys)
over_next r zero xs ys = rw zero-add (next0 r xs ys)
over_next [] (suc at) xs ys = refl
over_next (r ∷ rs) (suc at) xs ys = rw suc-add (ap (λ (t : List ℕ). r ∷ t) (over_next rs at xs ys))

-- the same with the place given by an equation, so that omega finds it
pub over_next_at : (r : List ℕ) (at n : ℕ) (xs ys : List ℕ) → n ≡ at + length xs → over (over r at xs) n ys ≡ over r at (xs ++ ys)
over_next_at r at n xs ys e = rw e (over_next r at xs ys)

under0 : (r xs ys : List ℕ) → over (over r (length xs) ys) 0 xs ≡ over r 0 (xs ++ ys)
under0 [] xs ys = refl
under0 (r ∷ rs) [] ys = over_nil (over (r ∷ rs) 0 ys) 0
under0 (r ∷ rs) (x ∷ xs) ys = ap (λ (t : List ℕ). x ∷ t) (under0 rs xs ys)

-- what is written before what was written
pub over_under : (r : List ℕ) (u n : ℕ) (xs ys : List ℕ) → n ≡ length xs → over (over r (u + n) ys) u xs ≡ over r u (xs ++ ys)
over_under r zero n xs ys e = rw (zero-add, e) (under0 r xs ys)
over_under [] (suc u) n xs ys e = refl
over_under (r ∷ rs) (suc u) n xs ys e = rw suc-add (ap (λ (t : List ℕ). r ∷ t) (over_under rs u n xs ys e))

pub over_before : (r : List ℕ) (p x : ℕ) (xs : List ℕ) → over (over r (suc p) xs) p (x ∷ []) ≡ over r p (x ∷ xs)
over_before r p x xs = rw (← add-one p) (over_under r p 1 (x ∷ []) xs refl)

-- what is written over the front of what was written
front0 : (r l m : List ℕ) → over (over r 0 l) 0 m ≡ over r 0 (m ++ drop (length m) l)
front0 [] l m = refl
front0 (r ∷ rs) l [] = over_nil (over (r ∷ rs) 0 l) 0
front0 (r ∷ rs) [] (x ∷ m) = ap (λ (t : List ℕ). x ∷ over rs 0 t) (sym (append-nil m))
front0 (r ∷ rs) (y ∷ l) (x ∷ m) = ap (λ (t : List ℕ). x ∷ t) (front0 rs l m)

pub over_front : (r : List ℕ) (at : ℕ) (l m : List ℕ) → over (over r at l) at m ≡ over r at (m ++ drop (length m) l)
over_front r zero l m = front0 r l m
over_front [] (suc at) l m = refl
over_front (r ∷ rs) (suc at) l m = ap (λ (t : List ℕ). r ∷ t) (over_front rs at l m)

over_same : (r ys zs : List ℕ) → length ys ≤ length zs → over (over r 0 ys) 0 zs ≡ over r 0 zs
over_same [] ys zs h = refl
over_same (r ∷ rs) [] zs h = refl
over_same (r ∷ rs) (y ∷ ys) [] h = absurd (not-suc-le-zero h)
over_same (r ∷ rs) (y ∷ ys) (z ∷ zs) h = ap (λ (t : List ℕ). z ∷ t) (over_same rs ys zs (le_of_suc-le-suc h))

-- what was written after xs is written anew
pub over_again : (r xs ys zs : List ℕ) → length ys ≤ length zs → over (over r 0 (xs ++ ys)) (length xs) zs ≡ over r 0 (xs ++ zs)
over_again [] xs ys zs h = refl
over_again (r ∷ rs) [] ys zs h = over_same (r ∷ rs) ys zs h
over_again (r ∷ rs) (x ∷ xs) ys zs h = ap (λ (t : List ℕ). x ∷ t) (over_again rs xs ys zs h)

pub over_all : (r xs : List ℕ) → length r ≡ length xs → over r 0 xs ≡ xs
over_all [] [] e = refl
over_all [] (x ∷ xs) e = let z : ◌≡◌ {A = ℕ} 0 (suc (length xs)) = e in absurd (omega arith)
over_all (r ∷ rs) [] e = let z : ◌≡◌ {A = ℕ} (suc (length rs)) 0 = e in absurd (omega arith)
over_all (r ∷ rs) (x ∷ xs) e = let z : suc (length rs) ≡ suc (length xs) = e in ap (λ (t : List ℕ). x ∷ t) (over_all rs xs (omega arith))

pub get_d_over : (r xs : List ℕ) (i : ℕ) → i < length xs → i < length r → get_or (over r 0 xs) i 0 ≡ get_or xs i 0
get_d_over [] xs i h k = absurd (not-suc-le-zero k)
get_d_over (r ∷ rs) [] i h k = absurd (not-suc-le-zero h)
get_d_over (r ∷ rs) (x ∷ xs) zero h k = refl
get_d_over (r ∷ rs) (x ∷ xs) (suc i) h k = get_d_over rs xs i (le_of_suc-le-suc h) (le_of_suc-le-suc k)

pub set_over : (r xs : List ℕ) (i v : ℕ) → i < length xs → set (over r 0 xs) i v ≡ over r 0 (set xs i v)
set_over [] xs i v h = refl
set_over (r ∷ rs) [] i v h = absurd (not-suc-le-zero h)
set_over (r ∷ rs) (x ∷ xs) zero v h = refl
set_over (r ∷ rs) (x ∷ xs) (suc i) v h = ap (λ (t : List ℕ). x ∷ t) (set_over rs xs i v (le_of_suc-le-suc h))

-- a store just after what was written over
pub set_next_lem : (r : List ℕ) (at n : ℕ) (xs : List ℕ) (v : ℕ) → n ≡ at + length xs → set (over r at xs) n v ≡ over r at (xs ++ v ∷ [])
set_next_lem r at n xs v e = set_is_over (over r at xs) n v ∙ over_next_at r at n xs (v ∷ []) e

-- a turn of the loop that zeroes a room, and its end
pub zero_more : (r : List ℕ) (i : ℕ) → set (over r 0 (zeros i)) i 0 ≡ over r 0 (zeros (i + 1))
zero_more r i =
    set_next_lem r 0 i (zeros i) 0 (rw (zero-add, length-replicate {A = ℕ} i 0))
    ∙ ap (λ (t : List ℕ). over r 0 t) (replicate-append-replicate i 1 0)

pub zero_all : (r : List ℕ) (i : ℕ) → i ≡ length r → over r 0 (zeros i) ≡ zeros (length r)
zero_all r i e = rw e (over_all r (zeros (length r)) (sym (length-replicate {A = ℕ} (length r) 0)))

-- some zeros written over a room of zeros change nothing
pub zeros_over : (n k : ℕ) → over (zeros n) 0 (zeros k) ≡ zeros n
zeros_over zero k = refl
zeros_over (suc n) zero = refl
zeros_over (suc n) (suc k) = ap (λ (t : List ℕ). 0 ∷ t) (zeros_over n k)

-- what is written past the end is lost
pub over_past : (r : List ℕ) (at : ℕ) (xs : List ℕ) → length r ≤ at → over r at xs ≡ r
over_past [] at xs h = refl
over_past (r ∷ rs) zero xs h = absurd (not-suc-le-zero h)
over_past (r ∷ rs) (suc at) xs h = ap (λ (t : List ℕ). r ∷ t) (over_past rs at xs (le_of_suc-le-suc h))

-- a number of a room that was written over: one of those written, or as it was
pub get_d_over_at : (r : List ℕ) (at i : ℕ) (xs : List ℕ) → i < length xs → at + i < length r → get_or (over r at xs) (at + i) 0 ≡ get_or xs i 0
get_d_over_at r zero i xs h k = rw zero-add (get_d_over r xs i h (rw zero-add at k))
get_d_over_at [] (suc at) i xs h k = absurd (not-suc-le-zero k)
get_d_over_at (r ∷ rs) (suc at) i xs h k = rw suc-add (get_d_over_at rs at i xs h (le_of_suc-le-suc (rw suc-add at k)))

pub get_d_over_low : (r : List ℕ) (at i : ℕ) (xs : List ℕ) → i < at → get_or (over r at xs) i 0 ≡ get_or r i 0
get_d_over_low [] at i xs h = refl
get_d_over_low (r ∷ rs) zero i xs h = absurd (not-suc-le-zero h)
get_d_over_low (r ∷ rs) (suc at) zero xs h = refl
get_d_over_low (r ∷ rs) (suc at) (suc i) xs h = get_d_over_low rs at i xs (le_of_suc-le-suc h)

over_high : (r : List ℕ) (i : ℕ) (xs : List ℕ) → length xs ≤ i → get_or (over r 0 xs) i 0 ≡ get_or r i 0
over_high [] i xs h = refl
over_high (r ∷ rs) i [] h = refl
over_high (r ∷ rs) zero (x ∷ xs) h = absurd (not-suc-le-zero h)
over_high (r ∷ rs) (suc i) (x ∷ xs) h = over_high rs i xs (le_of_suc-le-suc h)

pub get_d_over_high : (r : List ℕ) (at i : ℕ) (xs : List ℕ) → at + length xs ≤ i → get_or (over r at xs) i 0 ≡ get_or r i 0
get_d_over_high r zero i xs h = over_high r i xs (rw zero-add at h)
get_d_over_high [] (suc at) i xs h = refl
get_d_over_high (r ∷ rs) (suc at) zero xs h = absurd (not-suc-le-zero (rw suc-add at h))
get_d_over_high (r ∷ rs) (suc at) (suc i) xs h = get_d_over_high rs at i xs (le_of_suc-le-suc (rw suc-add at h))
