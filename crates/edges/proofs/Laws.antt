-- Bytes of one record make one piece: the lines as given, and how many there are.
-- Assumes nothing.
use mathlib.Core.Path.{◌≡◌, refl, sym, ◌∙◌}
use mathlib.Core.Bool.{Bool, true, false, cond, ◌&&◌, not}
use mathlib.Core.List.{List, [], ◌∷◌, ◌++◌}
use Prim.Native.Nat.{ℕ, zero, suc, ◌+◌, ◌*◌, ◌/◌, ◌%◌, ◌<◌, ◌≤◌}
use native.Mathlib.Nat.{add-zero, zero-add, suc-add, add-suc, add_assoc}
use native.Mathlib.Omega.{arith}
use borrow.Author.Tests.{eq-eqb, ne_eqb, eqb-true, eqb-false}
use lib.Dec.{eqb}
use lib.ListN.{length}
use Rattle.definition.specs.Events.{Line, line, longer}
use Rattle.definition.specs.Cards.{is_first, column, given, goes_over, pieces}
use Rattle.definition.proofs.Pieces.{over_both}
use Rattle.edges.specs.Pieces.{onto}

-- ---- where bytes stand: behind n bytes of a record comes the next column, or the next record
pub column_next : (p n : ℕ) → 1 ≤ n → p % 71 + n ≤ 71 → eqb (column p + n) (column (p + n)) ≡ not (is_first (p + n))
column_next p n h k = go (is_first (p + n)) refl
  where
    go : (t : Bool) → is_first (p + n) ≡ t → eqb (column p + n) (column (p + n)) ≡ not t
    go true e = ne_eqb (column p + n) (column (p + n)) (λ f. omega (arith, f, eqb-true ((p + n) % 71) 0 e))
    go false e =
        let z : (p + n) % 71 ≡ 0 → ⊥ = eqb-false ((p + n) % 71) 0 e in
        eq-eqb (column p + n) (column (p + n)) (omega (arith, z))

not_first : (p a b : ℕ) → p ≡ 71 * a + b → 1 ≤ b → b < 71 → is_first p ≡ false
not_first p a b e h k = ne_eqb (p % 71) 0 (λ f. omega (arith, e, f))

-- ---- lines that grow
longer_none : (ls : List Line) → longer 0 ls ≡ ls
longer_none [] = refl
longer_none (l ∷ ls) = rw add-zero

longer_again : (a b : ℕ) (ls : List Line) → longer b (longer a ls) ≡ longer (a + b) ls
longer_again a b [] = refl
longer_again a b (l ∷ ls) = rw add_assoc

-- bytes within a record make the newest line longer
over_in : (m a b p k : ℕ) (ls : List Line) → p ≡ 71 * a + b → 1 ≤ b → b + k ≤ 71 → goes_over m p k ls ≡ longer k ls
unfolding goes_over
over_in m a b p zero ls e h i = sym (longer_none ls)
over_in m a b p (suc k) ls e h i =
    rw (not_first p a b e h (omega (arith, i)))
    (over_in m a (suc b) (suc p) k (longer 1 ls) (omega (arith, e)) (omega arith) (omega (arith, i)) ∙ longer_again 1 k ls ∙ rw (suc-add, zero-add))

-- the bytes of one record
pub onto_in : (on : Bool) (m p n : ℕ) (ls : List Line) → 1 ≤ n → p % 71 + n ≤ 71 → onto on m p n ls ≡ cond (on && not (is_first p)) (longer n ls) (line 2 m (column p) n ∷ ls)
onto_in on m p zero ls h k = absurd (omega arith)
onto_in on m p (suc n) ls h k = go (on && not (is_first p))
  where
    go : (t : Bool) → goes_over m (suc p) n (cond t (longer 1 ls) (line 2 m (column p) 1 ∷ ls)) ≡ cond t (longer (suc n) ls) (line 2 m (column p) (suc n) ∷ ls)
    go true = over_in m (p / 71) (suc (p % 71)) (suc p) n (longer 1 ls) (omega arith) (omega arith) (omega (arith, k)) ∙ longer_again 1 n ls ∙ rw (suc-add, zero-add)
    go false = over_in m (p / 71) (suc (p % 71)) (suc p) n (line 2 m (column p) 1 ∷ ls) (omega arith) (omega arith) (omega (arith, k)) ∙ rw (suc-add, zero-add)

-- ---- bytes behind bytes
onto_on : (m p n : ℕ) (ls : List Line) → onto true m p n ls ≡ goes_over m p n ls
unfolding goes_over
onto_on m p zero ls = refl
onto_on m p (suc n) ls = go (is_first p)
  where
    go : (t : Bool) → goes_over m (suc p) n (cond (not t) (longer 1 ls) (line 2 m (column p) 1 ∷ ls)) ≡ goes_over m (suc p) n (cond t (line 2 m (column p) 1 ∷ ls) (longer 1 ls))
    go true = refl
    go false = refl

pub onto_more : (on : Bool) (m p a b : ℕ) (ls : List Line) → 1 ≤ a → onto on m p (a + b) ls ≡ onto true m (p + a) b (onto on m p a ls)
onto_more on m p zero b ls h = absurd (omega arith)
onto_more on m p (suc a) b ls h = rw suc-add (over_both m (suc p) a b _ ∙ rw (suc-add, ← add-suc) (sym (onto_on m (p + suc a) b _)))

-- ---- how many pieces there are
pieces_none : (a b p : ℕ) (bs : List ℕ) → p ≡ 71 * a + b → 1 ≤ b → b + length bs ≤ 71 → pieces true p bs ≡ 0
pieces_none a b p [] e h k = refl
pieces_none a b p (x ∷ bs) e h k = rw (not_first p a b e h (omega (arith, k)), zero-add) (pieces_none a (suc b) (suc p) bs (omega (arith, e)) (omega arith) (omega (arith, k)))

pub pieces_in : (on : Bool) (p : ℕ) (bs : List ℕ) → 1 ≤ length bs → p % 71 + length bs ≤ 71 → pieces on p bs ≡ cond (on && not (is_first p)) 0 1
pieces_in on p [] h k = absurd (omega arith)
pieces_in on p (x ∷ bs) h k = rw (pieces_none (p / 71) (suc (p % 71)) (suc p) bs (omega arith) (omega arith) (omega (arith, k)), add-zero)

pieces_on : (p : ℕ) (xs ys : List ℕ) → pieces true p (xs ++ ys) ≡ pieces true p xs + pieces true (p + length xs) ys
pieces_on p [] ys = rw (add-zero, zero-add)
pieces_on p (x ∷ xs) ys = rw (pieces_on (suc p) xs ys, add-suc, suc-add, add_assoc)

pub pieces_more : (on : Bool) (p : ℕ) (xs ys : List ℕ) → 1 ≤ length xs → pieces on p (xs ++ ys) ≡ pieces on p xs + pieces true (p + length xs) ys
pieces_more on p [] ys h = absurd (omega arith)
pieces_more on p (x ∷ xs) ys h = rw (pieces_on (suc p) xs ys, add-suc, suc-add, add_assoc)

-- ---- a place is told
pub given_end : (size q : ℕ) → q ≡ size → 80 * (q / 71) ≡ given size q
unfolding given
given_end size q e = rw (eq-eqb q size e)

pub given_in_lem : (size q r : ℕ) → (q ≡ size → ⊥) → r ≡ column q → r ≡ given size q
unfolding given
given_in_lem size q r h e = e ∙ rw (ne_eqb q size h)
