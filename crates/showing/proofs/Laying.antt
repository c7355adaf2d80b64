-- The rows of a new member lie behind those that there were, which stay.
-- Assumes nothing.
use mathlib.Core.Path.{◌≡◌, refl, sym, ap, subst, ◌∙◌}
use mathlib.Core.Bool.{Bool, true, false, cond}
use mathlib.Core.List.{List, [], ◌++◌, append-nil}
use Prim.Native.Nat.{ℕ, ◌+◌, ◌*◌, ◌-◌, ◌<◌, ◌≤◌}
use native.Mathlib.Omega.{arith}
use borrow.Author.Tests.{ltb-true}
use lib.Dec.{ltb}
use lib.ListN.{length, get_or, take, drop, length-drop, drop_of_length-le, get_or-append, get_or-replicate}
use lib.Seq.{get_or-take, length-take-le, drop_at}
use Rattle.definition.specs.Bytes.{mixed}
use Rattle.definition.specs.Program as P
use Rattle.definition.specs.Reading as D
use Rattle.definition.specs.declared.Layout.{Layout}
use Rattle.definition.specs.World as W
use Rattle.definition.specs.World.{World, rows_in, rows_of}
use Rattle.definition.specs.Names as N
use Rattle.deck.specs.Answer.{body_in}
use Rattle.rows.specs.Table.{row_in}
use Rattle.rows.specs.Parts.{no_starts, start_in, StartsAt, PartPlace, part_in}
use Rattle.rows.specs.Tabled.{Tabled}
use Rattle.rows.specs.declared.Row.{Row}
use Rattle.rows.specs.declared.Starts.{Starts}
use Rattle.rows.proofs.Parting.{row_part}
use Rattle.reading.specs.State.{rows_from}
use Rattle.reading.proofs.Rows.{rows_kept}
use Rattle.showing.specs.Worlds.{Stored, nothing, there, Laid, Behind}
use Rattle.showing.proofs.Tabling.{size_read}
use Rattle.showing.proofs.Worlds.{rows_by, members_enter}

-- ---- before the first member
start_none : (m : ℕ) → start_in no_starts m ≡ 0
unfolding start_in no_starts
start_none m = by (ltb m 32) refl
  where
    by : (b : Bool) → ltb m 32 ≡ b → cond b (get_or no_starts.at m 0) 0 ≡ 0
    by true e = get_or-replicate 32 m 0 0 (ltb-true m 32 e)
    by false e = refl

pub laid_new : (deck rows : List ℕ) (y : Layout) (limit text lines : ℕ) → Laid deck rows no_starts 0 (W.new_world y limit text lines)
unfolding rows_in
laid_new deck rows y limit text lines = record { stored = λ m. nothing refl; below = λ m. omega (arith, start_none m) }

-- only the members matter
pub laid_same : (deck rows : List ℕ) (starts : Starts) (used : ℕ) (w v : World) → v.members ≡ w.members → Laid deck rows starts used w → Laid deck rows starts used v
laid_same deck rows starts used w v e h = record {
  stored = λ m. subst (λ (ms : List W.Entered). Stored deck rows starts m (rows_in m ms)) (sym e) (h.stored m);
  below = λ m. subst (λ (ms : List W.Entered). start_in starts m + length (rows_in m ms) ≤ used) (sym e) (h.below m);
}

-- ---- rows that stay
tabled_kept : (t u : List ℕ) (rs : List P.Row) → ((i : ℕ) → i < length rs → row_in u i ≡ row_in t i) → Tabled t rs → Tabled u rs
tabled_kept t u rs f h =
    let deep : (i : ℕ) → i < length rs → (row_in u i).depth ≡ (row_in t i).depth = λ i l. ap (λ (x : Row). x.depth) (f i l) in
    record {
      kind = λ n l. ap (λ (x : Row). x.statement) (f n l) ∙ h.kind n l;
      before = h.before;
      level = λ n g l e. omega (arith, h.level n g l e, deep n l, deep g (omega (arith, l, h.before n g l e)));
      inner = λ n g l e i. omega (arith, h.inner n g l e i, deep n l, deep g (omega (arith, l, h.before n g l e)));
      shallow = λ g l e. omega (arith, h.shallow g l e, deep g l);
      typed = λ n ns v l e. ap (λ (x : Row). x.value_type) (f n l) ∙ h.typed n ns v l e;
    }

module _ (deck rows rows' t : List ℕ) (used : ℕ) (h : Behind rows used rows' t) where
  pub part_kept : (starts starts' : Starts) (m n i : ℕ) → start_in starts' m ≡ start_in starts m → start_in starts m + n ≤ used → i < n → row_in (part_in rows' starts' m) i ≡ row_in (part_in rows starts m) i
  unfolding part_in
  part_kept starts starts' m n i e l k =
      row_part rows' (start_in starts' m) i ∙ ap (λ (j : ℕ). row_in rows' (j + i)) e ∙ h.below (start_in starts m + i) (omega (arith, l, k)) ∙ sym (row_part rows (start_in starts m) i)

  pub stored_kept : (starts starts' : Starts) (m : ℕ) (rs : List P.Row) → start_in starts' m ≡ start_in starts m → start_in starts m + length rs ≤ used → Stored deck rows starts m rs → Stored deck rows' starts' m rs
  stored_kept starts starts' m rs e l (nothing z) = nothing z
  stored_kept starts starts' m rs e l (there z y x) =
      let same : (i : ℕ) → i < length rs → row_in (part_in rows' starts' m) i ≡ row_in (part_in rows starts m) i = λ i k. part_kept starts starts' m (length rs) i e l k in
      there (rows_kept (body_in deck m) (part_in rows starts m) (part_in rows' starts' m) 0 (length rs) (λ i k. same i (omega (arith, k))) ∙ z) (tabled_kept (part_in rows starts m) (part_in rows' starts' m) rs same y) x

  stored_new : (starts : Starts) (m k : ℕ) (rs : List P.Row) → start_in starts m ≡ used → rows_from (body_in deck m) t 0 k ≡ rs → Tabled t rs → used + k ≤ 2048 → Stored deck rows' starts m rs
  unfolding part_in
  stored_new starts m k rs e f y l =
      let its : t ≡ part_in rows' starts m = sym (ap (λ (j : ℕ). drop (16 * j) rows') e ∙ h.part) in
      let size : length rs ≡ k = size_read (body_in deck m) t k rs f y in
      there (ap (λ (j : ℕ). rows_from (body_in deck m) (part_in rows' starts m) 0 j) size ∙ ap (λ (u : List ℕ). rows_from (body_in deck m) u 0 k) (sym its) ∙ f) (subst (λ (u : List ℕ). Tabled u rs) its y) (omega (arith, l, size))

  -- THE MEMBER m goes in, with k rows
  pub laid_enter : (starts starts' : Starts) (m k : ℕ) (w v : World) → Laid deck rows starts used w → N.enter m (D.read_member mixed (body_in deck m)) w ≡ N.entered v → StartsAt starts m used starts' → m < 32
      → rows_from (body_in deck m) t 0 k ≡ (D.read_member mixed (body_in deck m)).rows → Tabled t (D.read_member mixed (body_in deck m)).rows → used + k ≤ 2048 → Laid deck rows' starts' (used + k) v
  laid_enter starts starts' m k w v g e st low f y l =
      let s : P.Source = D.read_member mixed (body_in deck m) in
      let size : length s.rows ≡ k = size_read (body_in deck m) t k s.rows f y in
      let at : (n : ℕ) → m ≡ n → start_in starts' n ≡ used = λ n q. ap (λ (j : ℕ). start_in starts' j) (sym q) ∙ st.here low in
      laid_same deck rows' starts' (used + k) (N.with_member m s w) v (members_enter m s w v e)
      (record {
        stored = λ n. rows_by m s w.members n (λ (rs : List P.Row). Stored deck rows' starts' n rs)
            (λ q. subst (λ (j : ℕ). Stored deck rows' starts' j s.rows) q (stored_new starts' m k s.rows (st.here low) f y l))
            (λ q. stored_kept starts starts' n (rows_of n w) (st.other n (λ z. q (sym z))) (g.below n) (g.stored n));
        below = λ n. rows_by m s w.members n (λ (rs : List P.Row). start_in starts' n + length rs ≤ used + k)
            (λ q. omega (arith, at n q, size))
            (λ q. omega (arith, st.other n (λ z. q (sym z)), g.below n));
      })

-- ---- the part of the table that was lent, when it is back: t lies behind the used rows
pub behind_back : (rows rows' t : List ℕ) (used from : ℕ) → PartPlace rows used from → 16 * used ≤ length rows
    → rows' ≡ take from rows ++ (t ++ drop (length rows - from) (drop from rows)) → Behind rows used rows' t
unfolding row_in
behind_back rows rows' t used from p l e =
    let place : from ≡ 16 * used = omega (arith, ap (λ (x : List ℕ). length x) p.is, length-drop from rows, length-drop (16 * used) rows, l, p.within) in
    let none : drop (length rows - from) (drop from rows) ≡ [] = drop_of_length-le (drop from rows) {i = length rows - from} (omega (arith, length-drop from rows)) in
    let whole : rows' ≡ take from rows ++ t = e ∙ ap (λ (x : List ℕ). take from rows ++ (t ++ x)) none ∙ ap (λ (x : List ℕ). take from rows ++ x) (append-nil t) in
    let front : length (take from rows) ≡ from = length-take-le from rows p.within in
    let same : (j : ℕ) → j < from → get_or rows' j 0 ≡ get_or rows j 0 = λ j k. ap (λ (x : List ℕ). get_or x j 0) whole ∙ get_or-append (take from rows) t 0 j (omega (arith, front, k)) ∙ get_or-take from rows j 0 k in
    record {
      below = λ i k.
          let in' : (j : ℕ) → j < 16 → get_or rows' (16 * i + j) 0 ≡ get_or rows (16 * i + j) 0 = λ j z. same (16 * i + j) (omega (arith, k, z, place)) in
          rw (
            in' 0 (omega arith),
            in' 1 (omega arith),
            in' 2 (omega arith),
            in' 3 (omega arith),
            in' 4 (omega arith),
            in' 5 (omega arith),
            in' 6 (omega arith),
            in' 7 (omega arith),
            in' 8 (omega arith),
            in' 9 (omega arith),
            in' 10 (omega arith),
            in' 11 (omega arith),
            in' 12 (omega arith),
            in' 13 (omega arith),
          );
      part = ap (λ (x : List ℕ). drop (16 * used) x) whole ∙ drop_at (take from rows) t (16 * used) (front ∙ place);
    }
