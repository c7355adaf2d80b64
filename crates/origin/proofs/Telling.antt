-- An event of the definition is told: what the two rooms and the cursor then show.
-- Assumes nothing.
use Rattle.std.proofs.Common.{Option}
use mathlib.Core.Path.{◌≡◌, refl, sym, ap, subst, ◌∙◌}
use mathlib.Core.Bool.{Bool, true, false, cond, ◌&&◌, not}
use mathlib.Core.List.{List, ◌∷◌, ◌++◌}
use Prim.Native.Nat.{ℕ, ◌-◌, ◌%◌, ◌<◌, ◌≤◌}
use native.Mathlib.Omega.{arith}
use lib.Dec.{leb}
use lib.ListN.{length}
use Rattle.definition.specs.declared.Layout.{Layout}
use Rattle.definition.specs.declared.Layout.TheVariants.{Plain, Cards}
use Rattle.definition.specs.Lists.{part}
use Rattle.definition.specs.Events.{Event, blank, copied, replaced, bytes_in, joins, text_of, Line, line, longer, lines_of}
use Rattle.definition.specs.Cards.{is_first, column, given, lines_as, pieces, takes, taking}
use Rattle.definition.specs.World.{World}
use Rattle.definition.proofs.Parts.{length_part}
use Rattle.output.specs.declared.Out.{Out}
use Rattle.output.specs.Shows as Output
use Rattle.output.specs.Shows.{top, grows_from, Fine, More, PutsFine, EndsFine}
use Rattle.output.proofs.Laws.{joins_line}
use Rattle.edges.specs.Pieces as Edges
use Rattle.edges.specs.Pieces.{PiecesFine}
use Rattle.origin.specs.Written.{place_as, Filled, Written, fits, Gone, Answers, Tells, Ends}
use Rattle.origin.proofs.Lines.{told_grows, told_copied, told_mark, filled_more}

low : (p : ℕ) → p < 65536 → p % 65536 ≡ p
low p h = omega arith

-- ---- places
pub place_plain : (y : Layout) (size p q : ℕ) → y ≡ Plain → q ≡ p → q ≡ place_as y size p
place_plain y size p q e f = f ∙ ap (λ (z : Layout). place_as z size p) (sym e)

pub place_cards : (y : Layout) (size p q : ℕ) → y ≡ Cards → q ≡ given size p → q ≡ place_as y size p
place_cards y size p q e f = f ∙ ap (λ (z : Layout). place_as z size p) (sym e)

-- ---- one event more, which is told as another
module _ (sizes : ℕ → ℕ) (y : Layout) (t ls : List ℕ) (o : Out) (B : World) (w : Written sizes y t ls o B) (e e' : Event) (t' ls' : List ℕ) where
  gone_by : (x : Out) → bytes_in e' ≡ bytes_in e → Output.taken e' w.events ≡ taking y e B.events → lines_of (e' ∷ w.events) ≡ lines_as y sizes (lines_of (e ∷ B.events)) → Filled (lines_of (e ∷ B.events)) → More e' w.events o x t' ls' → Gone sizes y e B t' ls' x
  unfolding text_of
  gone_by x b k l f m = record {
    written = λ z. record {
      layout = w.layout;
      events = e' ∷ w.events;
      out = m.shows;
      fine = m.fine;
      same = rw (b, w.same) refl;
      told = l;
      full = f;
      text = ap (λ (n : ℕ). n - length (bytes_in e)) w.text ∙ ap (λ (c : List ℕ). o.room - length c) (sym b) ∙ sym m.room;
      lines = ap (λ (n : ℕ). n - taking y e B.events) w.lines ∙ ap (λ (n : ℕ). o.free - n) (sym k) ∙ sym m.free;
    };
  }

  answers_by : (r : Option Out) → bytes_in e' ≡ bytes_in e → Output.taken e' w.events ≡ taking y e B.events → lines_of (e' ∷ w.events) ≡ lines_as y sizes (lines_of (e ∷ B.events)) → Filled (lines_of (e ∷ B.events)) → (b : Bool) → Output.Answers b e' w.events o r t' ls' → Answers b sizes y e B r t' ls'
  answers_by r i k l f true a = (a.0, a.1, gone_by a.0 i k l f a.2)
  answers_by r i k l f false a = a

  fits_same : bytes_in e' ≡ bytes_in e → Output.taken e' w.events ≡ taking y e B.events → Output.fits e' w.events o ≡ fits y e B.events o
  fits_same b k = ap (λ (n : ℕ). leb n o.free && leb (length (bytes_in e')) o.room) k ∙ ap (λ (c : List ℕ). leb (taking y e B.events) o.free && leb (length c) o.room) b

  told_by : (r : Option Out) → bytes_in e' ≡ bytes_in e → Output.taken e' w.events ≡ taking y e B.events → lines_of (e' ∷ w.events) ≡ lines_as y sizes (lines_of (e ∷ B.events)) → Filled (lines_of (e ∷ B.events)) → PutsFine e' o t ls r t' ls' → Answers (fits y e B.events o) sizes y e B r t' ls'
  told_by r i k l f p = answers_by r i k l f (fits y e B.events o) (subst (λ (b : Bool). Output.Answers b e' w.events o r t' ls') (fits_same i k) ((p.is w.fine).is w.events w.out))

-- ---- a blank
pub blank_told : (y : Layout) (size m p q : ℕ) (o : Out) (t ls : List ℕ) (r : Option Out) (t' ls' : List ℕ) → q ≡ place_as y size (p % 65536) → PutsFine (blank m q) o t ls r t' ls' → Tells y size (blank m p) m p o t ls r t' ls'
unfolding lines_of
blank_told y size m p q o t ls r t' ls' e k = record {
  is = λ sizes B s w lp _ _.
      let at : q ≡ place_as y (sizes m) p = e ∙ ap (λ (n : ℕ). place_as y size n) (low p lp) ∙ ap (λ (n : ℕ). place_as y n p) (sym s) in
      let l : line 1 m q 1 ∷ lines_of w.events ≡ lines_as y sizes (line 1 m p 1 ∷ lines_of B.events) = ap (λ (n : ℕ). line 1 m n 1 ∷ lines_of w.events) at ∙ ap (λ (z : List Line). line 1 m (place_as y (sizes m) p) 1 ∷ z) w.told ∙ sym (told_mark sizes y 1 m p 1 (lines_of B.events) refl) in
      told_by sizes y t ls o B w (blank m p) (blank m q) t' ls' r refl refl l ((λ a. absurd (omega (arith, a))), w.full) k;
}

-- ---- the line of a replacement
pub replaced_told : (y : Layout) (size m p q n : ℕ) (o : Out) (T : ℕ) (ls : List ℕ) (r : Out) (ls' : List ℕ) → q ≡ place_as y size (p % 65536) → EndsFine m q n o T ls r ls' → Ends y size m p n o T ls r ls'
unfolding lines_of
replaced_told y size m p q n o T ls r ls' e k = record {
  is = λ sizes B t t' bytes s w len text size' some room lp.
      let at : q ≡ place_as y (sizes m) p = e ∙ ap (λ (a : ℕ). place_as y size a) (low p lp) ∙ ap (λ (a : ℕ). place_as y a p) (sym s) in
      let l : line 3 m q (length bytes) ∷ lines_of w.events ≡ lines_as y sizes (line 3 m p (length bytes) ∷ lines_of B.events) = ap (λ (a : ℕ). line 3 m a (length bytes) ∷ lines_of w.events) at ∙ ap (λ (z : List Line). line 3 m (place_as y (sizes m) p) (length bytes) ∷ z) w.told ∙ sym (told_mark sizes y 3 m p (length bytes) (lines_of B.events) refl) in
      let fine : Fine o T (length ls) = subst (λ (a : ℕ). Fine o a (length ls)) len w.fine in
      gone_by sizes y t ls o B w (replaced m p bytes) (replaced m q bytes) t' ls' r refl refl l ((λ a. absurd (omega (arith, a))), w.full) ((k.is fine (some, room)).is w.events bytes t t' len size' w.out text);
}

-- ---- a token copied from a plain deck
joins_same : (es fs : List Event) (m p : ℕ) → lines_of es ≡ lines_of fs → joins es m p ≡ joins fs m p
joins_same es fs m p e = joins_line es m p ∙ ap (λ (z : List Line). grows_from (top z) m p) e ∙ sym (joins_line fs m p)

pub plain_told : (y : Layout) (s : List ℕ) (from to m q k n : ℕ) (o : Out) (t ls : List ℕ) (r : Option Out) (t' ls' : List ℕ) → y ≡ Plain → q ≡ from % 65536 → k ≡ to - from → n ≡ k % 65536 → PutsFine (copied m q (part n from s)) o t ls r t' ls'
    → Tells y (length s) (copied m from (part (to - from) from s)) m to o t ls r t' ls'
unfolding lines_of takes
plain_told y s from to m q k n o t ls r t' ls' e f g h p = rw e (record {
  is = λ sizes B z w lp some short.
      let bs : List ℕ = part (to - from) from s in
      let size : length bs ≡ to - from = length_part (to - from) from s in
      let at : q ≡ from = f ∙ low from (omega (arith, size, some, lp)) in
      let len : n ≡ to - from = h ∙ low k (omega (arith, g, lp)) ∙ g in
      let p₁ : PutsFine (copied m from bs) o t ls r t' ls' = rw (at, len) at p in
      let j : joins w.events m from ≡ joins B.events m from = joins_same w.events B.events m from w.told in
      let l : lines_of (copied m from bs ∷ w.events) ≡ lines_of (copied m from bs ∷ B.events) = ap (λ (b : Bool). cond b (longer (length bs) (lines_of w.events)) (line 2 m from (length bs) ∷ lines_of w.events)) j ∙ ap (λ (v : List Line). cond (joins B.events m from) (longer (length bs) v) (line 2 m from (length bs) ∷ v)) w.told in
      told_by sizes Plain t ls o B w (copied m from bs) (copied m from bs) t' ls' r refl (ap (λ (b : Bool). cond b 0 1) j) l (filled_more m from (length bs) (lines_of B.events) (joins B.events m from) w.full some) p₁;
})

-- ---- and from cards
pub cards_told : (y : Layout) (s : List ℕ) (from to m : ℕ) (o : Out) (t ls : List ℕ) (r : Option Out) (t' ls' : List ℕ) → y ≡ Cards → PiecesFine s from to m o t ls r t' ls'
    → Tells y (length s) (copied m from (part (to - from) from s)) m to o t ls r t' ls'
unfolding lines_of text_of takes
cards_told y s from to m o t ls r t' ls' e p = rw e (record {
  is = λ sizes B z w lp some short.
      let bs : List ℕ = part (to - from) from s in
      let size : length bs ≡ to - from = length_part (to - from) from s in
      let on : Bool = joins B.events m from in
      let grows : grows_from (top (lines_of B.events)) m from ≡ on = sym (joins_line B.events m from) in
      let j : joins w.events m (column from) ≡ (on && not (is_first from)) = joins_line w.events m (column from) ∙ ap (λ (v : List Line). grows_from (top v) m (column from)) w.told ∙ told_grows sizes (lines_of B.events) w.full m from ∙ ap (λ (b : Bool). b && not (is_first from)) grows in
      by sizes B w bs on grows (some) (fits Cards (copied m from bs) B.events o) ((p.is w.fine (omega (arith, size, some)) (omega (arith, lp))).is w.events on w.out j);
})
  where
    by : (sizes : ℕ → ℕ) (B : World) (w : Written sizes Cards t ls o B) (bs : List ℕ) (on : Bool) → grows_from (top (lines_of B.events)) m from ≡ on → 1 ≤ length bs → (b : Bool) → Edges.Answers b on m from bs w.events o r t' ls' → Answers b sizes Cards (copied m from bs) B r t' ls'
    by sizes B w bs on g some true a =
        let c = a.2 in
        let j : joins B.events m from ≡ on = joins_line B.events m from ∙ g in
        let L : List Line = lines_of B.events in (
          a.0,
          a.1,
          record {
            written = λ z. record {
              layout = w.layout;
              events = c.events;
              out = c.shows;
              fine = c.fine;
              same = c.text ∙ ap (λ (v : List ℕ). v ++ bs) w.same;
              told = c.lines ∙ ap (λ (v : List Line). Edges.onto on m from (length bs) v) w.told ∙ told_copied sizes L w.full m from (length bs) on g ∙ ap (λ (b : Bool). lines_as Cards sizes (cond b (longer (length bs) L) (line 2 m from (length bs) ∷ L))) (sym j);
              full = filled_more m from (length bs) L (joins B.events m from) w.full some;
              text = ap (λ (n : ℕ). n - length bs) w.text ∙ sym c.room;
              lines = ap (λ (n : ℕ). n - taking Cards (copied m from bs) B.events) w.lines ∙ ap (λ (b : Bool). o.free - pieces b from bs) j ∙ sym c.free;
            };
          },
        )
    by sizes B w bs on g some false a = a
