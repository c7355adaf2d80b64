-- The two views of a run agree: the sizes of the lines add up to the length of the text, and no copied stretch is empty.
-- Assumes nothing.
use Prim.Native.Nat.{ℕ, ◌+◌, ◌≤◌}
use native.Mathlib.Omega.{arith}
use mathlib.Core.Bool.{Bool, true, false, cond, ◌&&◌, false≢true}
use mathlib.Core.List.{List, [], ◌∷◌}
use mathlib.Core.Path.{◌≡◌, refl, ◌∙◌}
use lib.Dec.{eqb}
use lib.ListN.{length, length-append}
use borrow.Author.Tests.{eqb-true}
use Rattle.definition.specs.Events.{Event, blank, copied, replaced, text_of, Line, line, goes_on, joins, longer, lines_of}
use Rattle.definition.specs.Cards.{Layout, plain, takes, taking}

abbrev pub sizes : List Line → ℕ
sizes [] = 0
sizes (l ∷ ls) = sizes ls + l.size

-- ---- where there are events there is a line, so that a token that goes on has a line to make longer
abbrev pub HasLine : List Line → Type 0
HasLine [] = ⊥
HasLine (l ∷ ls) = Unit {0}

pub longer_has : (n : ℕ) (ls : List Line) → HasLine ls → HasLine (longer n ls)
longer_has n [] h = h
longer_has n (l ∷ ls) h = tt

abbrev Covered : List Event → Type 0
Covered [] = Unit {0}
Covered (e ∷ es) = HasLine (lines_of (e ∷ es))

copied_has : (m p n : ℕ) (es : List Event) → Covered es → HasLine (cond (joins es m p) (longer n (lines_of es)) (line 2 m p n ∷ lines_of es))
copied_has m p n [] h = tt
copied_has m p n (e ∷ es) h = go (goes_on e m p)
  where
    go : (t : Bool) → HasLine (cond t (longer n (lines_of (e ∷ es))) (line 2 m p n ∷ lines_of (e ∷ es)))
    go true = longer_has n (lines_of (e ∷ es)) h
    go false = tt

covered : (es : List Event) → Covered es
unfolding lines_of
covered [] = tt
covered (blank m p ∷ es) = tt
covered (copied m p l ∷ es) = copied_has m p (length l) es (covered es)
covered (replaced m p l ∷ es) = tt

pub longer_sizes : (n : ℕ) (ls : List Line) → HasLine ls → sizes (longer n ls) ≡ sizes ls + n
longer_sizes n [] h = absurd h
longer_sizes n (l ∷ ls) h = omega arith

copied_sizes : (m p n : ℕ) (es : List Event) → sizes (cond (joins es m p) (longer n (lines_of es)) (line 2 m p n ∷ lines_of es)) ≡ sizes (lines_of es) + n
copied_sizes m p n [] = refl
copied_sizes m p n (e ∷ es) = go (goes_on e m p)
  where
    go : (t : Bool) → sizes (cond t (longer n (lines_of (e ∷ es))) (line 2 m p n ∷ lines_of (e ∷ es))) ≡ sizes (lines_of (e ∷ es)) + n
    go true = longer_sizes n (lines_of (e ∷ es)) (covered (e ∷ es))
    go false = refl

-- THE SIZES of the lines add up to the length of the text
pub sizes_add_up : (es : List Event) → sizes (lines_of es) ≡ length (text_of es)
unfolding lines_of text_of
sizes_add_up [] = refl
sizes_add_up (blank m p ∷ es) = simp length-append (omega (arith, sizes_add_up es))
sizes_add_up (copied m p l ∷ es) = simp length-append (omega (arith, copied_sizes m p (length l) es, sizes_add_up es))
sizes_add_up (replaced m p l ∷ es) = simp length-append (omega (arith, sizes_add_up es))

-- ---- the lines that an event takes
abbrev pub taken_by : Layout → Event → List Event → ℕ
taken_by y e es = taking y e es

pub longer_length : (n : ℕ) (ls : List Line) → length (longer n ls) ≡ length ls
longer_length n [] = refl
longer_length n (l ∷ ls) = refl

pub lines_taken : (e : Event) (es : List Event) → length (lines_of (e ∷ es)) ≡ length (lines_of es) + taken_by plain e es
unfolding lines_of takes
lines_taken (blank m p) es = omega arith
lines_taken (copied m p l) es = go (joins es m p)
  where
    go : (t : Bool) → length (cond t (longer (length l) (lines_of es)) (line 2 m p (length l) ∷ lines_of es)) ≡ length (lines_of es) + cond t 0 1
    go true = omega (arith, longer_length (length l) (lines_of es))
    go false = omega arith
lines_taken (replaced m p l) es = omega arith

-- ---- every copied event has a byte; every line of kind 2 has one
abbrev pub FullEvents : List Event → Type 0
FullEvents [] = Unit {0}
FullEvents (blank m p ∷ es) = FullEvents es
FullEvents (copied m p l ∷ es) = (1 ≤ length l) × FullEvents es
FullEvents (replaced m p l ∷ es) = FullEvents es

abbrev pub FullLines : List Line → Type 0
FullLines [] = Unit {0}
FullLines (l ∷ ls) = (l.kind ≡ 2 → 1 ≤ l.size) × FullLines ls

pub longer_full : (n : ℕ) (ls : List Line) → 1 ≤ n → FullLines ls → FullLines (longer n ls)
longer_full n [] h f = tt
longer_full n (l ∷ ls) h f = (λ _. omega arith, f.1)

pub no_stretch_empty : (es : List Event) → FullEvents es → FullLines (lines_of es)
unfolding lines_of
no_stretch_empty [] h = tt
no_stretch_empty (blank m p ∷ es) h = (λ _. omega arith, no_stretch_empty es h)
no_stretch_empty (replaced m p l ∷ es) h = (λ e. let z : ◌≡◌ {A = ℕ} 3 2 = e in absurd (omega arith), no_stretch_empty es h)
no_stretch_empty (copied m p l ∷ es) h = go (joins es m p) (no_stretch_empty es h.1)
  where
    go : (t : Bool) → FullLines (lines_of es) → FullLines (cond t (longer (length l) (lines_of es)) (line 2 m p (length l) ∷ lines_of es))
    go true f = longer_full (length l) (lines_of es) h.0 f
    go false f = (λ _. h.0, f)

-- ---- what the newest line says of the newest event
abbrev pub Newest : List Event → List Line → Type 0
Newest [] [] = Unit {0}
Newest [] (a ∷ ls) = ⊥
Newest (e ∷ es) [] = ⊥
Newest (blank m p ∷ es) (a ∷ ls) = a.kind ≡ 1
Newest (copied m p l ∷ es) (a ∷ ls) = (a.kind ≡ 2) × (a.member ≡ m) × (a.offset + a.size ≡ p + length l)
Newest (replaced m p l ∷ es) (a ∷ ls) = a.kind ≡ 3

pub and_true : (a b : Bool) → (a && b) ≡ true → (a ≡ true) × (b ≡ true)
and_true true true h = (refl, refl)
and_true true false h = absurd (false≢true h)
and_true false b h = absurd (false≢true h)

-- the newest line is that of the newest event
grown_line : (m p : ℕ) (l : List ℕ) (es : List Event) (ls : List Line) → joins es m p ≡ true → Newest es ls → Newest (copied m p l ∷ es) (longer (length l) ls)
unfolding goes_on
grown_line m p l [] [] j h = absurd (false≢true j)
grown_line m p l [] (a ∷ ls) j h = absurd (false≢true j)
grown_line m p l (e ∷ es) [] j h = absurd h
grown_line m p l (blank n q ∷ es) (a ∷ ls) j h = absurd (false≢true j)
grown_line m p l (replaced n q x ∷ es) (a ∷ ls) j h = absurd (false≢true j)
grown_line m p l (copied n q x ∷ es) (a ∷ ls) j h =
    let i : (eqb n m ≡ true) × (eqb (q + length x) p ≡ true) = and_true (eqb n m) (eqb (q + length x) p) j in
    (h.0, h.1 ∙ eqb-true n m i.0, omega (arith, h.2, eqb-true (q + length x) p i.1))

pub newest_line : (es : List Event) → Newest es (lines_of es)
unfolding lines_of
newest_line [] = tt
newest_line (blank m p ∷ es) = refl
newest_line (replaced m p l ∷ es) = refl
newest_line (copied m p l ∷ es) = go (joins es m p) refl (newest_line es)
  where
    go : (t : Bool) → joins es m p ≡ t → Newest es (lines_of es) → Newest (copied m p l ∷ es) (cond t (longer (length l) (lines_of es)) (line 2 m p (length l) ∷ lines_of es))
    go true e h = grown_line m p l es (lines_of es) e h
    go false e h = (refl, refl, refl)
