-- Lines as given: a copied stretch that grows is cut on, and an event takes the lines by which the list as it is told grows.
-- Assumes nothing.
use Prim.Native.Nat.{ℕ, zero, suc, ◌+◌, ◌≤◌}
use native.Mathlib.Nat.{not-suc-le-zero, zero-add, add-zero, suc-add}
use native.Mathlib.Omega.{arith}
use mathlib.Core.Bool.{Bool, true, false, cond, ◌&&◌, not, false≢true}
use mathlib.Core.List.{List, [], ◌∷◌}
use mathlib.Core.Path.{◌≡◌, refl, sym, ◌∙◌}
use lib.Dec.{eqb}
use lib.ListN.{length}
use borrow.Author.Tests.{eqb-true, eq-eqb}
use Rattle.definition.specs.Events.{Event, blank, copied, replaced, Line, line, goes_on, joins, longer, lines_of}
use Rattle.definition.specs.Cards.{Layout, plain, cards, column, given, is_first, goes_over, cut, as_given, lines_as, pieces, takes}
use Rattle.definition.proofs.Views.{sizes, HasLine, longer_has, longer_sizes, longer_full, longer_length, taken_by, lines_taken, FullEvents, FullLines, no_stretch_empty, Newest, newest_line, and_true}

-- ---- a stretch is cut piece by piece
pub over_both : (m p a b : ℕ) (ls : List Line) → goes_over m p (a + b) ls ≡ goes_over m (p + a) b (goes_over m p a ls)
unfolding goes_over
over_both m p zero b ls = rw (zero-add, add-zero)
over_both m p (suc a) b ls = let e : p + suc a ≡ suc p + a = omega arith in rw (suc-add, e) (over_both m (suc p) a b (cond (is_first p) (line 2 m (column p) 1 ∷ ls) (longer 1 ls)))

pub cut_on_lem : (m q k n : ℕ) (ls : List Line) → 1 ≤ k → cut m q (k + n) ls ≡ goes_over m (q + k) n (cut m q k ls)
cut_on_lem m q zero n ls h = absurd (not-suc-le-zero h)
cut_on_lem m q (suc k) n ls h = let e : q + suc k ≡ suc q + k = omega arith in rw (suc-add, e) (over_both m (suc q) k n (line 2 m (column q) 1 ∷ ls))

one_over : (t : Bool) (l : Line) (ls : List Line) → length (cond t (l ∷ ls) (longer 1 ls)) ≡ length ls + cond (true && not t) 0 1
one_over true l ls = omega arith
one_over false l ls = omega (arith, longer_length 1 ls)

length_over : (m p : ℕ) (bs : List ℕ) (ls : List Line) → length (goes_over m p (length bs) ls) ≡ length ls + pieces true p bs
unfolding goes_over
length_over m p [] ls = omega arith
length_over m p (b ∷ bs) ls = length_over m (suc p) bs (cond (is_first p) (line 2 m (column p) 1 ∷ ls) (longer 1 ls)) ∙ omega (arith, one_over (is_first p) (line 2 m (column p) 1) ls)

length_cut : (m p : ℕ) (bs : List ℕ) (ls : List Line) → length (cut m p (length bs) ls) ≡ length ls + pieces false p bs
length_cut m p [] ls = omega arith
length_cut m p (b ∷ bs) ls = length_over m (suc p) bs (line 2 m (column p) 1 ∷ ls) ∙ omega arith

-- ---- no byte is lost, and no piece is empty
over_has : (t : Bool) (l : Line) (ls : List Line) → HasLine ls → HasLine (cond t (l ∷ ls) (longer 1 ls))
over_has true l ls h = tt
over_has false l ls h = longer_has 1 ls h

over_one : (t : Bool) (m p : ℕ) (ls : List Line) → HasLine ls → sizes (cond t (line 2 m p 1 ∷ ls) (longer 1 ls)) ≡ sizes ls + 1
over_one true m p ls h = refl
over_one false m p ls h = longer_sizes 1 ls h

sizes_over : (m p n : ℕ) (ls : List Line) → HasLine ls → sizes (goes_over m p n ls) ≡ sizes ls + n
unfolding goes_over
sizes_over m p zero ls h = omega arith
sizes_over m p (suc n) ls h = omega (arith, sizes_over m (suc p) n (cond (is_first p) (line 2 m (column p) 1 ∷ ls) (longer 1 ls)) (over_has (is_first p) (line 2 m (column p) 1) ls h), over_one (is_first p) m (column p) ls h)

sizes_cut : (m p n : ℕ) (ls : List Line) → sizes (cut m p n ls) ≡ sizes ls + n
sizes_cut m p zero ls = omega arith
sizes_cut m p (suc n) ls = omega (arith, sizes_over m (suc p) n (line 2 m (column p) 1 ∷ ls) tt)

one_full : (t : Bool) (m p : ℕ) (ls : List Line) → FullLines ls → FullLines (cond t (line 2 m p 1 ∷ ls) (longer 1 ls))
one_full true m p ls f = (λ _. omega arith, f)
one_full false m p ls f = longer_full 1 ls (omega arith) f

full_over : (m p n : ℕ) (ls : List Line) → FullLines ls → FullLines (goes_over m p n ls)
unfolding goes_over
full_over m p zero ls f = f
full_over m p (suc n) ls f = full_over m (suc p) n _ (one_full (is_first p) m (column p) ls f)

full_cut : (m p n : ℕ) (ls : List Line) → FullLines ls → FullLines (cut m p n ls)
full_cut m p zero ls f = f
full_cut m p (suc n) ls f = full_over m (suc p) n (line 2 m (column p) 1 ∷ ls) (λ _. omega arith, f)

module _ (s : ℕ → ℕ) where
  pub sizes_told : (y : Layout) (ls : List Line) → sizes (lines_as y s ls) ≡ sizes ls
  unfolding as_given
  sizes_told plain ls = refl
  sizes_told cards [] = refl
  sizes_told cards (l ∷ ls) = go (eqb l.kind 2) (sizes_told cards ls)
    where
      go : (t : Bool) → sizes (as_given s ls) ≡ sizes ls → sizes (cond t (cut l.member l.offset l.size (as_given s ls)) (line l.kind l.member (given (s l.member) l.offset) l.size ∷ as_given s ls)) ≡ sizes ls + l.size
      go true h = sizes_cut l.member l.offset l.size (as_given s ls) ∙ omega arith
      go false h = omega arith

  pub full_told : (y : Layout) (ls : List Line) → FullLines ls → FullLines (lines_as y s ls)
  unfolding as_given
  full_told plain ls f = f
  full_told cards [] f = tt
  full_told cards (l ∷ ls) f = go (eqb l.kind 2) (full_told cards ls f.1)
    where
      go : (t : Bool) → FullLines (as_given s ls) → FullLines (cond t (cut l.member l.offset l.size (as_given s ls)) (line l.kind l.member (given (s l.member) l.offset) l.size ∷ as_given s ls))
      go true h = full_cut l.member l.offset l.size (as_given s ls) h
      go false h = (f.0, h)

  -- ---- one event more
  given_stretch : (a : Line) (ls : List Line) → a.kind ≡ 2 → as_given s (a ∷ ls) ≡ cut a.member a.offset a.size (as_given s ls)
  unfolding as_given
  given_stretch a ls e = rw (eq-eqb a.kind 2 e)

  -- a token that goes on with the newest stretch is cut on
  pub given_longer : (m p n : ℕ) (es : List Event) (ls : List Line) → joins es m p ≡ true → Newest es ls → FullLines ls → as_given s (longer n ls) ≡ goes_over m p n (as_given s ls)
  unfolding goes_on
  given_longer m p n [] [] j h f = absurd (false≢true j)
  given_longer m p n [] (a ∷ ls) j h f = absurd (false≢true j)
  given_longer m p n (e ∷ es) [] j h f = absurd h
  given_longer m p n (blank k q ∷ es) (a ∷ ls) j h f = absurd (false≢true j)
  given_longer m p n (replaced k q x ∷ es) (a ∷ ls) j h f = absurd (false≢true j)
  given_longer m p n (copied k q x ∷ es) (a ∷ ls) j h f =
      let i : (eqb k m ≡ true) × (eqb (q + length x) p ≡ true) = and_true (eqb k m) (eqb (q + length x) p) j in
      let same : a.member ≡ m = h.1 ∙ eqb-true k m i.0 in
      let end : a.offset + a.size ≡ p = h.2 ∙ eqb-true (q + length x) p i.1 in
      given_stretch (line a.kind a.member a.offset (a.size + n)) ls h.0
      ∙ cut_on_lem a.member a.offset a.size n (as_given s ls) (f.0 h.0)
      ∙ (λ i. goes_over (same i) (end i) n (sym (given_stretch a ls h.0) i))

  given_taken : (e : Event) (es : List Event) → FullEvents es → length (as_given s (lines_of (e ∷ es))) ≡ length (as_given s (lines_of es)) + taken_by cards e es
  unfolding lines_of as_given takes
  given_taken (blank m p) es f = omega arith
  given_taken (replaced m p l) es f = omega arith
  given_taken (copied m p l) es f = go (joins es m p) refl
    where
      go : (t : Bool) → joins es m p ≡ t → length (as_given s (cond t (longer (length l) (lines_of es)) (line 2 m p (length l) ∷ lines_of es))) ≡ length (as_given s (lines_of es)) + pieces t p l
      go true e = rw (given_longer m p (length l) es (lines_of es) e (newest_line es) (no_stretch_empty es f)) (length_over m p l (as_given s (lines_of es)))
      go false e = length_cut m p l (as_given s (lines_of es))

  -- THE LINES THAT AN EVENT TAKES are those by which the list as it is told grows
  pub told_taken : (y : Layout) (e : Event) (es : List Event) → FullEvents es → length (lines_as y s (lines_of (e ∷ es))) ≡ length (lines_as y s (lines_of es)) + taken_by y e es
  told_taken plain e es f = lines_taken e es
  told_taken cards e es f = given_taken e es f
