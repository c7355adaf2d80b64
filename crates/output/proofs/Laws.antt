-- What the two rooms and the cursor show after one more event: a new line, or the newest line made longer.
-- Assumes nothing.
use Rattle.std.proofs.Common.{Option, Some, None}
use mathlib.Core.Path.{◌≡◌, refl, sym, ap, ◌∙◌}
use mathlib.Core.Bool.{Bool, true, false, cond, ◌&&◌, false≢true}
use mathlib.Core.List.{List, [], ◌∷◌}
use Prim.Native.Nat.{ℕ, suc, ◌+◌, ◌*◌, ◌-◌, ◌/◌, ◌<◌, ◌≤◌}
use native.Mathlib.Nat.{add-zero, le_refl}
use native.Mathlib.Omega.{arith}
use borrow.Author.Tests.{eq-eqb, ne_eqb, eqb-true, eqb-false, le-leb, lt-leb, leb-true, leb-false}
use lib.Dec.{leb, eqb}
use lib.ListN.{length, length-append}
use Rattle.definition.specs.Lists.{bytes}
use Rattle.definition.specs.Room.{over, zeros}
use Rattle.definition.specs.Events.{Event, blank, copied, replaced, bytes_in, text_of, Line, line, goes_on, joins, longer, lines_of, line_bytes, list_bytes}
use Rattle.definition.proofs.Rooms.{length_over, over_nil, over_next_at, over_again}
use Rattle.std.specs.Bool.{then_some}
use Rattle.sums.specs.Numbers.{greatest, sum_to}
use Rattle.sums.proofs.Laws.{sum_in}
use Rattle.output.specs.declared.Kind.TheVariants.{Blank, Copied, Replaced}
use Rattle.output.specs.declared.Newest.{Newest}
use Rattle.output.specs.declared.Out.{Out}
use Rattle.output.specs.Shows.{kind_number, top, line_in, newest_line, grows_from, growing, Fine, Shows, taken, More, Puts, PutsFine, EndsFine, Begins}
use Rattle.output.specs.Line.{line_at, PutsLine, At, Wrote, Writes}

-- ---- the place of a line
at_in : (k : ℕ) → k ≤ greatest / 12 → 12 * k ≡ line_at k
unfolding line_at
at_in k h = rw (le-leb k (greatest / 12) h)

-- ---- twelve bytes, written in six parts
six_parts : (r r₁ r₂ r₃ r₄ r₅ r₆ : List ℕ) (at k m p n : ℕ)
    → r₁ ≡ over r (at + 0) (k ∷ []) → r₂ ≡ over r₁ (at + 1) (m ∷ []) → r₃ ≡ over r₂ (at + 2) (0 ∷ []) → r₄ ≡ over r₃ (at + 3) (0 ∷ [])
    → r₅ ≡ over r₄ (at + 4) (bytes 4 p) → r₆ ≡ over r₅ (at + 8) (bytes 4 n) → r₆ ≡ over r at (line_bytes (line k m p n))
six_parts r r₁ r₂ r₃ r₄ r₅ r₆ at k m p n a b c d e f =
    f ∙ rw (
      e,
      d,
      c,
      b,
      a,
      add-zero,
      over_next_at r at (at + 1) (k ∷ []) (m ∷ []) refl,
      over_next_at r at (at + 2) (k ∷ m ∷ []) (0 ∷ []) refl,
      over_next_at r at (at + 3) (k ∷ m ∷ 0 ∷ []) (0 ∷ []) refl,
      over_next_at r at (at + 4) (k ∷ m ∷ 0 ∷ 0 ∷ []) (bytes 4 p) refl,
    )
    (over_next_at r at (at + 8) (k ∷ m ∷ 0 ∷ 0 ∷ bytes 4 p) (bytes 4 n) refl)

pub line_put : (r r₁ r₂ r₃ r₄ r₅ r₆ : List ℕ) (at : ℕ) (x : Newest) (i j : ℕ) → i ≡ sum_to greatest at 4 → j ≡ sum_to greatest at 8
    → r₁ ≡ over r (at + 0) (kind_number x.kind ∷ []) → r₂ ≡ over r₁ (at + 1) (x.member ∷ []) → r₃ ≡ over r₂ (at + 2) (0 ∷ []) → r₄ ≡ over r₃ (at + 3) (0 ∷ [])
    → r₅ ≡ over r₄ i (bytes 4 x.offset) → r₆ ≡ over r₅ j (bytes 4 x.size) → PutsLine r at x r₆
line_put r r₁ r₂ r₃ r₄ r₅ r₆ at x i j u v a b c d e f = record {
  is = λ h.
      let at4 : i ≡ at + 4 = u ∙ sym (sum_in greatest at 4 (omega (arith, h))) in
      let at8 : j ≡ at + 8 = v ∙ sym (sum_in greatest at 8 (omega (arith, h))) in
      six_parts r r₁ r₂ r₃ r₄ r₅ r₆ at (kind_number x.kind) x.member x.offset x.size a b c d (rw at4 at e) (rw at8 at f);
}

-- ---- a line and the cursor behind it
pub line_written : (l l' : List ℕ) (o : Out) (k : ℕ) (x : Newest) (n at lines text room new free : ℕ) → length l ≤ greatest → at ≡ line_at k → PutsLine l at x l'
    → lines ≡ sum_to greatest k 1 → text ≡ sum_to greatest o.text n → room ≡ o.room - n → new ≡ lines - o.lines → free ≡ o.free - new
    → Writes l o k x n (record { text = text; room = room; lines = lines; free = free; newest = Some x }) l'
line_written l l' o k x n at lines text room new free long e w f g h i j = record {
  is = λ a.
      let place : at ≡ 12 * k = e ∙ sym (at_in k (omega (arith, long, a.place))) in
      let more : lines ≡ k + 1 = f ∙ sym (sum_in greatest k 1 (omega (arith, long, a.place))) in
      let end : text ≡ o.text + n = g ∙ sym (sum_in greatest o.text n (omega (arith, a.room, a.most))) in
      record {
        list = w.is (omega (arith, place, long, a.place)) ∙ ap (λ (z : ℕ). over l z (line_bytes (line_in x))) place;
        out = rw (j, i, h, end, more) refl;
      };
}

next_at : (o : Out) (l : List ℕ) (T n : ℕ) → Fine o T (length l) → 1 ≤ o.free → n ≤ o.room → At l o o.lines n
next_at o l T n f h g = record { place = omega (arith, h, f.list); lines = omega arith; free = omega (arith, h); room = g; most = f.most }

newest_at : (o : Out) (l : List ℕ) (T n k : ℕ) → Fine o T (length l) → k ≡ o.lines - 1 → 1 ≤ o.lines → n ≤ o.room → At l o k n
newest_at o l T n k f c h g = record { place = omega (arith, c, h, f.list); lines = omega (arith, c); free = omega (arith, c, h); room = g; most = f.most }

length_list : (ls : List Line) → length (list_bytes ls) ≡ 12 * length ls
unfolding list_bytes
length_list [] = refl
length_list (l ∷ ls) = let e = length_list ls in rw length-append (omega arith)

-- ---- the test on the newest line is the test on the newest event
and3 : (a b c : Bool) → true ≡ (a && b && c) → (a ≡ true) × (b ≡ true) × (c ≡ true)
and3 true true true e = (refl, refl, refl)
and3 true true false e = absurd (false≢true (sym e))
and3 true false c e = absurd (false≢true (sym e))
and3 false b c e = absurd (false≢true (sym e))

grown : (t : Bool) (ls : List Line) (n q k m p : ℕ) → t ≡ grows_from (top ls) n q
    → (eqb n m && eqb (q + k) p) ≡ grows_from (top (cond t (longer k ls) (line 2 n q k ∷ ls))) m p
unfolding grows_from
grown false ls n q k m p e = refl
grown true [] n q k m p e = absurd (false≢true (sym e))
grown true (l ∷ ls) n q k m p e =
    let h = and3 (eqb l.kind 2) (eqb l.member n) (eqb (l.offset + l.size) q) e in
    let a : l.member ≡ n = eqb-true _ _ h.1 in
    let c : l.offset + l.size ≡ q = eqb-true _ _ h.2 in
    let d : l.offset + (l.size + k) ≡ q + k = omega (arith, c) in
    rw (h.0, a, d)

pub joins_line : (es : List Event) (m p : ℕ) → joins es m p ≡ grows_from (top (lines_of es)) m p
unfolding grows_from lines_of goes_on
joins_line [] m p = refl
joins_line (blank n q ∷ es) m p = refl
joins_line (replaced n q l ∷ es) m p = refl
joins_line (copied n q l ∷ es) m p = grown (joins es n q) (lines_of es) n q (length l) m p (joins_line es n q)

-- a line that grows is there
pub lines_some : (o : Out) (m p T L : ℕ) (g : Bool) → Fine o T L → g ≡ grows_from (newest_line o.newest) m p → g ≡ true → 1 ≤ o.lines
unfolding grows_from
lines_some o m p T L g f e y =
    let l : Line = newest_line o.newest in
    f.some (eqb-true _ _ (and3 (eqb l.kind 2) (eqb l.member m) (eqb (l.offset + l.size) p) (sym y ∙ e)).0)

-- a token goes on with the newest line, or not
grows_with : (n : Option Newest) (m p : ℕ) (x : Newest) → growing n m p ≡ Some x → (n ≡ Some x) × (grows_from (newest_line n) m p ≡ true)
grows_with None m p x e = cc
grows_with (Some y) m p x e = by (grows_from (line_in y) m p) refl e
  where
    by : (t : Bool) → grows_from (line_in y) m p ≡ t → then_some t y ≡ Some x → (Some y ≡ Some x) × (grows_from (line_in y) m p ≡ true)
    by true f g = (g, f)
    by false f g = cc

grows_not : (n : Option Newest) (m p : ℕ) → ((x : Newest) → growing n m p ≡ Some x → ⊥) → grows_from (newest_line n) m p ≡ false
unfolding grows_from
grows_not None m p e = refl
grows_not (Some y) m p e = by (grows_from (line_in y) m p) refl e
  where
    by : (t : Bool) → grows_from (line_in y) m p ≡ t → ((x : Newest) → then_some t y ≡ Some x → ⊥) → grows_from (line_in y) m p ≡ false
    by true f g = absurd (g y refl)
    by false f g = f

-- two tests of equations that say the same
eqb_iff : (a b c d : ℕ) (t : Bool) → eqb a b ≡ t → (a ≡ b → c ≡ d) → (c ≡ d → a ≡ b) → eqb a b ≡ eqb c d
eqb_iff a b c d true e f g = e ∙ sym (eq-eqb c d (f (eqb-true a b e)))
eqb_iff a b c d false e f g = e ∙ sym (ne_eqb c d (λ q. eqb-false a b e (g q)))

pub ends_there : (o n p : ℕ) → o ≤ p → eqb (p - o) n ≡ eqb (o + n) p
ends_there o n p h = eqb_iff (p - o) n (o + n) p (eqb (p - o) n) refl (λ e. omega (arith, e, h)) (λ e. omega (arith, e, h))

pub ends_behind : (o n p : ℕ) → p < o → eqb (o + n) p ≡ false
ends_behind o n p h = ne_eqb (o + n) p (λ e. omega (arith, e, h))

pub ruleset ends = (ends_there, ends_behind)

-- ---- line k of the list is written: behind all lines, or over the newest
module _ (Z l l' : List ℕ) (k : ℕ) (x : Line) (w : l' ≡ over l (12 * k) (line_bytes x)) where
  list_new : (ls : List Line) → l ≡ over Z 0 (list_bytes ls) → k ≡ length ls → l' ≡ over Z 0 (list_bytes (x ∷ ls))
  unfolding list_bytes
  list_new ls e c = w ∙ rw e (over_next_at Z 0 (12 * k) (list_bytes ls) (line_bytes x) (omega (arith, c, length_list ls)))

  list_again : (y : Line) (ls : List Line) → l ≡ over Z 0 (list_bytes (y ∷ ls)) → k ≡ length ls → l' ≡ over Z 0 (list_bytes (x ∷ ls))
  unfolding list_bytes
  list_again y ls e c =
      let at : 12 * k ≡ length (list_bytes ls) = omega (arith, c, length_list ls) in
      w ∙ rw (e, at) (over_again Z (list_bytes ls) (line_bytes y) (line_bytes x) (le_refl 12))

-- ---- one event more
abbrev longer_line : ℕ → Line → Line
longer_line n l = line l.kind l.member l.offset (l.size + n)

module _ (e : Event) (es : List Event) (o : Out) (t l t' l' : List ℕ) (k : ℕ) (x : Newest) (n : ℕ) (r : Out)
    (f : Fine o (length t) (length l)) (s : Shows es o t l) (w : Wrote l o k x n r l')
    (text : t' ≡ over t o.text (bytes_in e)) (size : length (bytes_in e) ≡ n) (room : n ≤ o.room) (small : x.size ≤ o.text + n) where
  text_size_lem : length t' ≡ length t
  text_size_lem = ap length text ∙ length_over t o.text (bytes_in e)

  list_size : length l' ≡ length l
  list_size = ap length w.list ∙ length_over l (12 * k) (line_bytes (line_in x))

  text_more_lem : t' ≡ over (zeros (length t')) 0 (text_of (e ∷ es))
  unfolding text_of
  text_more_lem = rw text_size_lem
      (text ∙ ap (λ (y : List ℕ). over y o.text (bytes_in e)) s.text
      ∙ over_next_at (zeros (length t)) 0 o.text (text_of es) (bytes_in e) (omega (arith, s.at)))

  at_more : o.text + n ≡ length (text_of (e ∷ es))
  unfolding text_of
  at_more = rw length-append (omega (arith, s.at, size))

  more_by : (ls : List Line) → lines_of (e ∷ es) ≡ line_in x ∷ ls → k ≡ length ls → o.lines ≤ k + 1 → k + 1 - o.lines ≤ o.free → k + 1 - o.lines ≡ taken e es
      → l' ≡ over (zeros (length l)) 0 (list_bytes (line_in x ∷ ls)) → More e es o r t' l'
  more_by ls q c low free tk list = rw w.out record {
    shows = record { text = text_more_lem; at = at_more; list = rw (list_size, q) list; count = rw q (omega (arith, c)); newest = rw q refl };
    fine = rw (text_size_lem, list_size) record { text = omega (arith, f.text); most = omega (arith, f.most); list = omega (arith, f.list); line = small; some = λ _. omega arith };
    room = rw size refl;
    free = rw (← tk) refl;
  }

  -- a line behind all others
  pub more_new : lines_of (e ∷ es) ≡ line_in x ∷ lines_of es → k ≡ o.lines → 1 ≤ o.free → taken e es ≡ 1 → More e es o r t' l'
  more_new q c h tk =
      more_by (lines_of es) q (c ∙ s.count) (omega (arith, c)) (omega (arith, c)) (omega (arith, c, tk))
      (list_new (zeros (length l)) l l' k (line_in x) w.list (lines_of es) s.list (c ∙ s.count))

  -- the newest line made longer
  pub more_longer : (ys : List Line) → lines_of es ≡ ys → (m q : ℕ) → grows_from (newest_line o.newest) m q ≡ true
      → lines_of (e ∷ es) ≡ longer n ys → line_in x ≡ longer_line n (newest_line o.newest)
      → k + 1 ≡ o.lines → taken e es ≡ 0 → More e es o r t' l'
  unfolding grows_from
  more_longer [] p m q g d y c tk = absurd (false≢true (ap (λ (z : Line). grows_from z m q) (sym (s.newest ∙ ap top p)) ∙ g))
  more_longer (z ∷ zs) p m q g d y c tk =
      let v : line_in x ≡ longer_line n z = y ∙ ap (longer_line n) (s.newest ∙ ap top p) in
      let len : o.lines ≡ suc (length zs) = s.count ∙ ap length p in
      more_by zs (d ∙ rw v) (omega (arith, c, len)) (omega arith) (omega (arith, c)) (omega (arith, c, tk))
      (list_again (zeros (length l)) l l' k (line_in x) w.list z zs (s.list ∙ ap (λ (u : List Line). over (zeros (length l)) 0 (list_bytes u)) p) (omega (arith, c, len)))

-- ---- the ways out
module _ (o : Out) (m p : ℕ) (t l : List ℕ) where
  pub blank_no_line : o.free < 1 → PutsFine (blank m p) o t l None t l
  blank_no_line h = record { is = λ _. record { is = λ es s. rw (lt-leb 1 o.free h) refl } }

  pub blank_no_room : 1 ≤ o.free → o.room < 1 → PutsFine (blank m p) o t l None t l
  blank_no_room h g = record { is = λ _. record { is = λ es s. rw (le-leb 1 o.free h, lt-leb 1 o.room g) refl } }

  pub blank_done : (t' l' : List ℕ) (r : Out) (x : Newest) → x ≡ record { kind = Blank; member = m; offset = p; size = 1 } → 1 ≤ o.free → 1 ≤ o.room
      → t' ≡ over t (o.text + 0) (32 ∷ []) → Writes l o o.lines x 1 r l' → PutsFine (blank m p) o t l (Some r) t' l'
  unfolding lines_of
  blank_done t' l' r x y h g text w = record {
    is = λ f. record {
      is = λ es s.
          rw (le-leb 1 o.free h, le-leb 1 o.room g)
          (r, refl, more_new (blank m p) es o t l t' l' o.lines x 1 r f s (w.is (next_at o l (length t) 1 f h g)) (rw add-zero at text) refl g (rw y (omega arith)) (rw y refl) refl h refl);
    };
  }

  module _ (b : List ℕ) (n : ℕ) (size : length b ≡ n) (q : Option Newest) (is : q ≡ growing o.newest m p) where
    joined : (es : List Event) → Shows es o t l → joins es m p ≡ grows_from (newest_line o.newest) m p
    joined es s = joins_line es m p ∙ rw (← s.newest) refl

    goes_on_with : (x : Newest) → q ≡ Some x → (o.newest ≡ Some x) × (grows_from (newest_line o.newest) m p ≡ true)
    goes_on_with x h = grows_with o.newest m p x (sym is ∙ h)

    abbrev IsOther : Type 0
    IsOther = (x : Newest) → q ≡ Some x → ⊥

    begins_new : IsOther → (es : List Event) → Shows es o t l → joins es m p ≡ false
    begins_new h es s = joined es s ∙ grows_not o.newest m p (λ x e. h x (is ∙ e))

    pub longer_no_room : (x : Newest) → q ≡ Some x → o.room < n → PutsFine (copied m p b) o t l None t l
    longer_no_room x y h = record { is = λ _. record { is = λ es s. rw (joined es s, (goes_on_with x y).1, size, le-leb 0 o.free (omega arith), lt-leb n o.room h) refl } }

    pub copied_no_line : IsOther → o.free < 1 → PutsFine (copied m p b) o t l None t l
    copied_no_line y h = record { is = λ _. record { is = λ es s. rw (begins_new y es s, lt-leb 1 o.free h) refl } }

    pub copied_no_room : IsOther → 1 ≤ o.free → o.room < n → PutsFine (copied m p b) o t l None t l
    copied_no_room y h i = record { is = λ _. record { is = λ es s. rw (begins_new y es s, size, le-leb 1 o.free h, lt-leb n o.room i) refl } }

    module _ (t' l' : List ℕ) (r : Out) (room : n ≤ o.room) (text : t' ≡ over t o.text b) where
      module _ (x : Newest) (y : q ≡ Some x) where
        at : o.newest ≡ Some x
        at = (goes_on_with x y).0

        goes : grows_from (newest_line o.newest) m p ≡ true
        goes = (goes_on_with x y).1

        low : Fine o (length t) (length l) → x.size ≤ o.text
        low f = rw at at f.line

        longer_fine : Fine o (length t) (length l) → (k : ℕ) → k ≡ o.lines - 1 → 1 ≤ o.lines
            → Wrote l o k (record { kind = x.kind; member = x.member; offset = x.offset; size = x.size + n }) n r l' → Puts (copied m p b) o t l (Some r) t' l'
        unfolding lines_of
        longer_fine f k c some w = record {
          is = λ es s.
              let j : joins es m p ≡ true = joined es s ∙ goes in
              rw (j, size, le-leb 0 o.free (omega arith), le-leb n o.room room)
              (r, refl, more_longer (copied m p b) es o t l t' l' k (record { kind = x.kind; member = x.member; offset = x.offset; size = x.size + n }) n r f s w text size room (omega (arith, low f)) (lines_of es) refl m p goes (rw (j, size) refl) (rw at refl) (omega arith) (rw j refl));
        }

        pub longer_done : (k z : ℕ) → z ≡ sum_to 4294967295 x.size n → k ≡ o.lines - 1
            → Writes l o k (record { kind = x.kind; member = x.member; offset = x.offset; size = z }) n r l' → PutsFine (copied m p b) o t l (Some r) t' l'
        longer_done k z i c w = record {
          is = λ f.
              let some : 1 ≤ o.lines = lines_some o m p (length t) (length l) true f (sym goes) refl in
              let sizes : z ≡ x.size + n = i ∙ sym (sum_in 4294967295 x.size n (omega (arith, room, low f, f.most))) in
              longer_fine f k c some (rw sizes at (w.is (newest_at o l (length t) n k f c some room)));
        }

      pub copied_done : (x : Newest) → x ≡ record { kind = Copied; member = m; offset = p; size = n } → IsOther → 1 ≤ o.free
          → Writes l o o.lines x n r l' → PutsFine (copied m p b) o t l (Some r) t' l'
      unfolding lines_of
      copied_done x y none h w = record {
        is = λ f. record {
          is = λ es s.
              let j : joins es m p ≡ false = begins_new none es s in
              rw (j, size, le-leb 1 o.free h, le-leb n o.room room)
              (r, refl, more_new (copied m p b) es o t l t' l' o.lines x n r f s (w.is (next_at o l (length t) n f h room)) text size room (rw y (omega arith)) (rw (j, size, y) refl) refl h (rw j refl));
        };
      }

pub replaced_done : (o : Out) (m p n T : ℕ) (l l' : List ℕ) (r : Out) (x : Newest) → x ≡ record { kind = Replaced; member = m; offset = p; size = n }
    → Writes l o o.lines x n r l' → EndsFine m p n o T l r l'
unfolding lines_of
replaced_done o m p n T l l' r x y w = record {
  is = λ f h. record {
    is = λ es b t t' c size s text.
        more_new (replaced m p b) es o t l t' l' o.lines x n r (rw c f) s (w.is (next_at o l T n f h.0 h.1)) text size h.1 (rw y (omega arith)) (rw (size, y) refl) refl h.0 refl;
  };
}

-- ---- the start: rooms of zeros show no events
pub begin_shows : (t l : List ℕ) (o : Out) → t ≡ zeros (length t) → l ≡ zeros (length l) → Begins (length t) (length l) o → Shows [] o t l
unfolding text_of lines_of list_bytes
begin_shows t l o e f b = record {
  text = e ∙ sym (over_nil (zeros (length t)) 0);
  at = b.text;
  list = f ∙ sym (over_nil (zeros (length l)) 0);
  count = b.lines;
  newest = ap newest_line b.newest;
}

capped_low : (g : Bool) (n : ℕ) → leb n 4294967295 ≡ g → (cond g n 4294967295 ≤ n) × (cond g n 4294967295 ≤ 4294967295)
capped_low true n e = (omega arith, leb-true n 4294967295 e)
capped_low false n e = let h : 4294967295 < n = leb-false n 4294967295 e in (omega arith, omega arith)

pub begin_fine : (T L : ℕ) (o : Out) → Begins T L o → Fine o T L
begin_fine T L o b =
    let h = capped_low (leb T 4294967295) T refl in
    let k : (newest_line o.newest).kind ≡ 0 = ap (λ (x : Option Newest). (newest_line x).kind) b.newest in
    let z : (newest_line o.newest).size ≡ 0 = ap (λ (x : Option Newest). (newest_line x).size) b.newest in
    record {
      text = omega (arith, b.text, b.room, h.0);
      most = omega (arith, b.text, b.room, h.1);
      list = omega (arith, b.lines, b.free);
      line = omega (arith, z);
      some = λ e. absurd (omega (arith, k, e));
    }
