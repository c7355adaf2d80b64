-- The loop over the pieces: what is left gives what all gives.
-- Assumes nothing.
use Rattle.std.proofs.Common.{Option, Some, None}
use mathlib.Core.Path.{◌≡◌, refl, sym, ap, subst, ◌∙◌}
use mathlib.Core.Bool.{Bool, true, false, cond, ◌&&◌, not, false≢true}
use mathlib.Core.List.{List, ◌∷◌, ◌++◌, append_assoc, append-nil}
use Prim.Native.Nat.{ℕ, ◌+◌, ◌-◌, ◌%◌, ◌<◌, ◌≤◌}
use native.Mathlib.Omega.{arith}
use borrow.Author.Tests.{eq-eqb, le-leb, lt-leb, leb-true, leb-false}
use lib.Dec.{leb, eqb}
use lib.ListN.{length}
use Rattle.definition.specs.Lists.{part}
use Rattle.definition.specs.Events.{Event, copied, goes_on, joins, text_of, Line, line, longer, lines_of}
use Rattle.definition.specs.Cards.{is_first, column, pieces}
use Rattle.definition.proofs.Parts.{length_part, part_append}
use Rattle.output.specs.declared.Out.{Out}
use Rattle.output.specs.Shows as Output
use Rattle.output.specs.Shows.{Fine, Shows, More, PutsFine}
use Rattle.edges.specs.Pieces.{PieceIs, onto, Answers, fits, PiecesFine}
use Rattle.edges.proofs.Laws.{column_next, onto_in, onto_more, pieces_in, pieces_more}

-- ---- what stands in the rooms when the bytes up to `at` went out, behind the events es
pub record Along (s : List ℕ) (from to m : ℕ) (o₀ : Out) (es : List Event) (on : Bool) (at : ℕ) (o : Out) (t l : List ℕ) : Type 0 where
  pub events : List Event
  pub goes : Bool
  pub shows : Shows events o t l
  pub fine : Fine o (length t) (length l)
  pub within : at ≤ to
  pub joined : joins events m (column at) ≡ (goes && not (is_first at))
  pub text : text_of events ++ part (to - at) at s ≡ text_of es ++ part (to - from) from s
  pub lines : onto goes m at (to - at) (lines_of events) ≡ onto on m from (to - from) (lines_of es)
  pub room : o₀.room + (to - at) ≡ o.room + (to - from)
  pub free : o₀.free + pieces goes at (part (to - at) at s) ≡ o.free + pieces on from (part (to - from) from s)

pub record Piecing (s : List ℕ) (from to m : ℕ) (o₀ : Out) (t₀ l₀ : List ℕ) (at : ℕ) (o : Out) (t l : List ℕ) : Type 0 where
  pub long : length t ≡ length t₀
  pub list : length l ≡ length l₀
  pub so : Fine o₀ (length t₀) (length l₀) → from ≤ to → to ≤ 65536 → (es : List Event) (on : Bool) → Shows es o₀ t₀ l₀ → joins es m (column from) ≡ (on && not (is_first from)) → Along s from to m o₀ es on at o t l

pub piecing_start : (s : List ℕ) (from to m : ℕ) (o : Out) (t l : List ℕ) → Piecing s from to m o t l from o t l
piecing_start s from to m o t l = record {
  long = refl;
  list = refl;
  so = λ f h k es on sh j. record { events = es; goes = on; shows = sh; fine = f; within = h; joined = j; text = refl; lines = refl; room = refl; free = refl };
}

-- ---- the end: nothing is left
all_fit : (on : Bool) (p : ℕ) (bs : List ℕ) (o : Out) → pieces on p bs ≤ o.free → length bs ≤ o.room → fits on p bs o ≡ true
all_fit on p bs o h k = rw (le-leb (pieces on p bs) o.free h, le-leb (length bs) o.room k) refl

pub piecing_end : (s : List ℕ) (from to m : ℕ) (o₀ : Out) (t₀ l₀ : List ℕ) (at : ℕ) (o : Out) (t l : List ℕ) → Piecing s from to m o₀ t₀ l₀ at o t l → to ≤ at → PiecesFine s from to m o₀ t₀ l₀ (Some o) t l
piecing_end s from to m o₀ t₀ l₀ at o t l i h = record {
  is = λ f g k. record {
    is = λ es on sh j.
        let z = i.so f g k es on sh j in
        let none : to - at ≡ 0 = omega arith in
        let all : List ℕ = part (to - from) from s in
        let size : length all ≡ to - from = length_part (to - from) from s in
        let text : text_of z.events ≡ text_of es ++ all = sym (append-nil (text_of z.events)) ∙ ap (λ (n : ℕ). text_of z.events ++ part n at s) (sym none) ∙ z.text in
        let lines : lines_of z.events ≡ onto on m from (to - from) (lines_of es) = ap (λ (n : ℕ). onto z.goes m at n (lines_of z.events)) (sym none) ∙ z.lines in
        let free : o₀.free ≡ o.free + pieces on from all = omega (arith, z.free, ap (λ (n : ℕ). pieces z.goes at (part n at s)) none) in
        rw (all_fit on from all o₀ (omega (arith, free)) (omega (arith, size, z.room, none)))
        (o, refl, record { events = z.events; shows = z.shows; fine = z.fine; text = text; lines = rw size lines; room = omega (arith, size, z.room, none); free = omega (arith, free) });
  };
}

-- ---- one piece more
-- the lines behind a token copied from a place that is known otherwise
lines_by : (m c p n : ℕ) (bs : List ℕ) (es : List Event) (b : Bool) → c ≡ p → length bs ≡ n → joins es m c ≡ b → lines_of (copied m c bs ∷ es) ≡ cond b (longer n (lines_of es)) (line 2 m p n ∷ lines_of es)
unfolding lines_of
lines_by m c p n bs es b e f g = rw (g, f) (ap (λ (q : ℕ). cond b (longer n (lines_of es)) (line 2 m q n ∷ lines_of es)) e)

joins_by : (m c p q n : ℕ) (bs : List ℕ) (es : List Event) → c ≡ p → length bs ≡ n → joins (copied m c bs ∷ es) m q ≡ eqb (p + n) q
unfolding goes_on
joins_by m c p q n bs es e f = rw (eq-eqb m m refl, f) (ap (λ (a : ℕ). eqb (a + n) q) e)

two_true : (a b : Bool) → (a && b) ≡ true → (a ≡ true) × (b ≡ true)
two_true true b e = (refl, e)
two_true false b e = absurd (false≢true e)

none_fit : (on : Bool) (p : ℕ) (bs : List ℕ) (o : Out) (a : ℕ) (x : Out) (b : ℕ) → (leb a x.free && leb b x.room) ≡ false → (x.free < a → o.free < pieces on p bs) → (x.room < b → o.room < length bs) → fits on p bs o ≡ false
none_fit on p bs o a x b e h k = by (leb a x.free) refl e
  where
    by : (t : Bool) → leb a x.free ≡ t → (t && leb b x.room) ≡ false → fits on p bs o ≡ false
    by true i j = go (leb (pieces on p bs) o.free)
      where
        go : (t : Bool) → (t && leb (length bs) o.room) ≡ false
        go true = lt-leb (length bs) o.room (k (leb-false b x.room j))
        go false = refl
    by false i j = rw (lt-leb (pieces on p bs) o.free (h (leb-false a x.free i))) refl

module _ (s : List ℕ) (from to m : ℕ) (o₀ : Out) (t₀ l₀ : List ℕ) (at : ℕ) (o : Out) (t l : List ℕ) (i : Piecing s from to m o₀ t₀ l₀ at o t l) (h : at < to) (n : ℕ) (pc : PieceIs at to n) (c : ℕ) (ce : c ≡ column (at % 65536)) (r : Option Out) (t' l' : List ℕ) (put : PutsFine (copied m c (part n at s)) o t l r t' l') where
  abbrev bs : List ℕ
  bs = part n at s

  abbrev rest : ℕ
  rest = to - (at + n)

  abbrev all : List ℕ
  all = part (to - from) from s

  size : length bs ≡ n
  size = length_part n at s

  left : to - at ≡ n + rest
  left = omega (arith, pc.within h)

  split : part (to - at) at s ≡ bs ++ part rest (at + n) s
  split = ap (λ (k : ℕ). part k at s) left ∙ part_append n rest at s

  module _ (f : Fine o₀ (length t₀) (length l₀)) (g : from ≤ to) (k : to ≤ 65536) (es : List Event) (on : Bool) (sh : Shows es o₀ t₀ l₀) (j : joins es m (column from) ≡ (on && not (is_first from))) where
    z : Along s from to m o₀ es on at o t l
    z = i.so f g k es on sh j

    at_column : c ≡ column at
    at_column = ce ∙ ap (λ (p : ℕ). column p) (let e : at % 65536 ≡ at = omega arith in e)

    abbrev e : Event
    e = copied m c bs

    abbrev taken : ℕ
    taken = Output.taken e z.events

    joined_here : joins z.events m c ≡ (z.goes && not (is_first at))
    joined_here = ap (λ (p : ℕ). joins z.events m p) at_column ∙ z.joined

    counted : pieces z.goes at bs ≡ taken
    counted = pieces_in z.goes at bs (omega (arith, size, pc.some h)) (omega (arith, size, pc.record_end)) ∙ ap (λ (b : Bool). cond b 0 1) (sym joined_here)

    all_counted : pieces z.goes at (part (to - at) at s) ≡ taken + pieces true (at + n) (part rest (at + n) s)
    all_counted =
        ap (λ (b : List ℕ). pieces z.goes at b) split ∙ pieces_more z.goes at bs (part rest (at + n) s) (omega (arith, size, pc.some h))
        ∙ ap (λ (b : ℕ). b + pieces true (at + length bs) (part rest (at + n) s)) counted ∙ ap (λ (b : ℕ). taken + pieces true (at + b) (part rest (at + n) s)) size

    lines_here : lines_of (e ∷ z.events) ≡ onto z.goes m at n (lines_of z.events)
    lines_here = lines_by m c (column at) n bs z.events (z.goes && not (is_first at)) at_column size joined_here ∙ sym (onto_in z.goes m at n (lines_of z.events) (pc.some h) pc.record_end)

    answered : Output.Answers (Output.fits e z.events o) e z.events o r t' l'
    answered = (put.is z.fine).is z.events z.shows

    more : (x : Out) → More e z.events o x t' l' → taken ≤ o.free → length bs ≤ o.room → Along s from to m o₀ es on (at + n) x t' l'
    unfolding text_of
    more x y u v = record {
      events = e ∷ z.events;
      goes = true;
      shows = y.shows;
      fine = y.fine;
      within = pc.within h;
      joined = joins_by m c (column at) (column (at + n)) n bs z.events at_column size ∙ column_next at n (pc.some h) pc.record_end;
      text = append_assoc (text_of z.events) bs (part rest (at + n) s) ∙ ap (λ (b : List ℕ). text_of z.events ++ b) (sym split) ∙ z.text;
      lines =
          ap (λ (b : List Line). onto true m (at + n) rest b) lines_here
          ∙ sym (onto_more z.goes m at n rest (lines_of z.events) (pc.some h)) ∙ ap (λ (b : ℕ). onto z.goes m at b (lines_of z.events)) (sym left) ∙ z.lines;
      room = omega (arith, y.room, v, size, left, z.room);
      free = omega (arith, y.free, u, all_counted, z.free);
    }

    done_by : (x : Out) → r ≡ Some x → (b : Bool) → Output.fits e z.events o ≡ b → Output.Answers b e z.events o r t' l' → Along s from to m o₀ es on (at + n) x t' l'
    done_by x q true b a =
        let same : a.0 ≡ x = cc (a.1, q) in
        let w = two_true _ _ b in
        subst (λ (y : Out). Along s from to m o₀ es on (at + n) y t' l') same (more a.0 a.2 (leb-true taken o.free w.0) (leb-true (length bs) o.room w.1))
    done_by x q false b a = cc (a, q)

    full_by : r ≡ None → (b : Bool) → Output.fits e z.events o ≡ b → Output.Answers b e z.events o r t' l' → Answers (fits on from all o₀) on m from all es o₀ None t' l'
    full_by q true b a = cc (q, a.1)
    full_by q false b a =
        rw (none_fit on from all o₀ taken o (length bs) b (λ u. omega (arith, u, all_counted, z.free)) (λ u. omega (arith, u, size, left, z.room, length_part (to - from) from s))) refl

  pub piecing_more : (x : Out) → r ≡ Some x → length t' ≡ length t → length l' ≡ length l → Piecing s from to m o₀ t₀ l₀ (at + n) x t' l'
  piecing_more x q u v = record {
    long = u ∙ i.long;
    list = v ∙ i.list;
    so = λ f g k es on sh j. done_by f g k es on sh j x q _ refl (answered f g k es on sh j);
  }

  pub piecing_full : r ≡ None → PiecesFine s from to m o₀ t₀ l₀ None t' l'
  piecing_full q = record { is = λ f g k. record { is = λ es on sh j. full_by f g k es on sh j q _ refl (answered f g k es on sh j) } }
