-- HOW DEEP ROWS ARE, where f says it: a parent comes before its rows and is no deeper, an iterated group is less deep than what stands
-- in it, and it is not the 17th. Every turn keeps this, where a new row is as deep as what was open.
-- Assumes nothing.
use mathlib.Core.Path.{◌≡◌, refl, sym, ap, subst, ◌∙◌}
use mathlib.Core.Bool.{Bool, true, false, cond}
use mathlib.Core.List.{List, [], ◌∷◌, ◌++◌}
use Prim.Native.Nat.{ℕ, zero, suc, ◌+◌, ◌<◌, ◌≤◌}
use native.Mathlib.Omega.{arith}
use native.Mathlib.Nat.{add-zero}
use borrow.Author.Tests.{ltb-true, ltb-false, lt-ltb, le-ltb}
use lib.Dec.{ltb}
use lib.ListN.{length, length-append, get_or-append}
use Rattle.definition.specs.Bytes.{mixed}
use Rattle.definition.specs.Expressions.{Named}
use Rattle.definition.specs.Program as P
use Rattle.definition.specs.Statements as St
use Rattle.definition.specs.Reading as D
use Rattle.definition.specs.World.{row_of, no_row}
use Rattle.rows.specs.Table.{row_in}
use Rattle.rows.specs.Tabled.{Tabled, kind_of}
use Rattle.rows.specs.declared.Statement.{Statement}
use Rattle.statements.specs.Clauses.{type_in}
use Rattle.openings.specs.declared.Opened.{Opened}
use Rattle.openings.specs.Open.{opened_of, last_by, parent_in, role_in, linked_in}
use Rattle.openings.proofs.Keywords.{OpensBoth, iterated_opens}
use Rattle.reading.specs.State as T
use Rattle.reading.specs.State.{rows_from, Typed, Marks}
use Rattle.reading.proofs.Rows.{rows_length, typed_alike}
use Rattle.reading.proofs.Adding.{add_in_lem}
use Rattle.reading.proofs.Walking.{Room, Relinks, Shallow, Steps, turn_walk}

-- the row k, in which something stands that is d deep
pub record Above (f : ℕ → ℕ) (rs : List P.Row) (d k : ℕ) : Type 0 where
  pub low : k < length rs
  pub level : f k ≤ d
  pub inner : P.is_iterated (row_of rs k).statement ≡ true → f k < d

pub record Nested (f : ℕ → ℕ) (rs : List P.Row) : Type 0 where
  pub before : (n g : ℕ) → n < length rs → (row_of rs n).parent ≡ P.row g → g < n
  pub above : (n g : ℕ) → n < length rs → (row_of rs n).parent ≡ P.row g → Above f rs (f n) g
  pub shallow : (g : ℕ) → g < length rs → P.is_iterated (row_of rs g).statement ≡ true → f g < 16

-- what is open
abbrev pub Around : (ℕ → ℕ) → List P.Row → List D.Open → Type 0
Around f rs [] = Unit {0}
Around f rs (o ∷ os) = ((g : ℕ) → parent_in o.kind o.row ≡ P.row g → Above f rs (D.depth (o ∷ os)) g) × Around f rs os

pub record Deep (f : ℕ → ℕ) (st : D.State) : Type 0 where
  pub rows : Nested f st.rows
  pub around : Around f st.rows st.opened

abbrev pub DeepTurn : (ℕ → ℕ) → D.Turn → Type 0
DeepTurn f (D.go m at st) = Deep f st
DeepTurn f (D.stop w p begun st) = Unit {0}
DeepTurn f (D.finish st) = Nested f st.rows

-- ---- rows that keep their statements and parents
record Grows (rs qs : List P.Row) : Type 0 where
  size : length rs ≤ length qs
  statement : (i : ℕ) → i < length rs → (row_of qs i).statement ≡ (row_of rs i).statement
  parent : (i : ℕ) → i < length rs → (row_of qs i).parent ≡ (row_of rs i).parent

record Same (rs qs : List P.Row) : Type 0 where
  size : length qs ≡ length rs
  statement : (i : ℕ) → (row_of qs i).statement ≡ (row_of rs i).statement
  parent : (i : ℕ) → (row_of qs i).parent ≡ (row_of rs i).parent

same_self : (rs : List P.Row) → Same rs rs
same_self rs = record { size = refl; statement = λ i. refl; parent = λ i. refl }

same_grows : (rs qs : List P.Row) → Same rs qs → Grows rs qs
same_grows rs qs h = record { size = omega (arith, h.size); statement = λ i l. h.statement i; parent = λ i l. h.parent i }

more_grows : (rs : List P.Row) (r : P.Row) → Grows rs (rs ++ r ∷ [])
more_grows rs r = record {
  size = omega (arith, length-append rs (r ∷ []));
  statement = λ i l. ap (λ (x : P.Row). x.statement) (get_or-append rs (r ∷ []) no_row i l);
  parent = λ i l. ap (λ (x : P.Row). x.parent) (get_or-append rs (r ∷ []) no_row i l);
}

change_same : (k : ℕ) (g : P.Row → P.Row) (rs : List P.Row) → Relinks g → Same rs (D.change k g rs)
unfolding D.change
change_same k g [] h = same_self []
change_same zero g (r ∷ rs) h = record { size = refl; statement = by; parent = up }
  where
    by : (i : ℕ) → (row_of (g r ∷ rs) i).statement ≡ (row_of (r ∷ rs) i).statement
    by zero = h.statement r
    by (suc i) = refl

    up : (i : ℕ) → (row_of (g r ∷ rs) i).parent ≡ (row_of (r ∷ rs) i).parent
    up zero = h.parent r
    up (suc i) = refl
change_same (suc k) g (r ∷ rs) h = record { size = ap suc (change_same k g rs h).size; statement = by (change_same k g rs h); parent = up (change_same k g rs h) }
  where
    by : Same rs (D.change k g rs) → (i : ℕ) → (row_of (r ∷ D.change k g rs) i).statement ≡ (row_of (r ∷ rs) i).statement
    by e zero = refl
    by e (suc i) = e.statement i

    up : Same rs (D.change k g rs) → (i : ℕ) → (row_of (r ∷ D.change k g rs) i).parent ≡ (row_of (r ∷ rs) i).parent
    up e zero = refl
    up e (suc i) = e.parent i

linked_same : (n : ℕ) (l : P.Link) (F : List P.Row → List P.Row) (rs : List P.Row) → Same rs (F rs) → Same rs (D.linked n l F rs)
linked_same n P.nowhere F rs h = h
linked_same n (P.row l) F rs h = change_same l (D.set_next n) rs (record { statement = λ r. refl; parent = λ r. refl })

child_same : (n k : ℕ) (rs : List P.Row) → Same rs (D.change k (D.set_child n) rs)
child_same n k rs = change_same k (D.set_child n) rs (record { statement = λ r. refl; parent = λ r. refl })

in_same : (w : D.Where) (o : D.Open) (n : ℕ) (rs : List P.Row) → Same rs (linked_in w o n rs)
in_same D.in_program o n rs = linked_same n o.last (λ xs. xs) rs (same_self rs)
in_same D.in_group o n rs = linked_same n o.last (D.change o.row (D.set_child n)) rs (child_same n o.row rs)
in_same D.in_body o n rs = linked_same n o.last (D.change o.row (D.set_child n)) rs (child_same n o.row rs)
in_same D.in_then o n rs = child_same n o.row rs
in_same D.in_else o n rs = change_same o.row (D.set_other n) rs (record { statement = λ r. refl; parent = λ r. refl })

last_row : (rs : List P.Row) (r : P.Row) → row_of (rs ++ r ∷ []) (length rs) ≡ r
last_row [] r = refl
last_row (x ∷ rs) r = last_row rs r

-- ---- so does their depth
module _ (f : ℕ → ℕ) where
  above_grows : (rs qs : List P.Row) (d k : ℕ) → Grows rs qs → Above f rs d k → Above f qs d k
  above_grows rs qs d k e h = record {
    low = omega (arith, h.low, e.size);
    level = h.level;
    inner = λ z. h.inner (ap P.is_iterated (sym (e.statement k h.low)) ∙ z);
  }

  around_grows : (rs qs : List P.Row) (L : List D.Open) → Grows rs qs → Around f rs L → Around f qs L
  around_grows rs qs [] e h = tt
  around_grows rs qs (o ∷ os) e h = (λ g z. above_grows rs qs (D.depth (o ∷ os)) g e (h.0 g z), around_grows rs qs os e h.1)

  nested_same : (rs qs : List P.Row) → Same rs qs → Nested f rs → Nested f qs
  nested_same rs qs e h = record {
    before = λ n g l z. h.before n g (omega (arith, l, e.size)) (sym (e.parent n) ∙ z);
    above = λ n g l z. above_grows rs qs (f n) g (same_grows rs qs e) (h.above n g (omega (arith, l, e.size)) (sym (e.parent n) ∙ z));
    shallow = λ g l z. h.shallow g (omega (arith, l, e.size)) (ap P.is_iterated (sym (e.statement g)) ∙ z);
  }

  nested_more : (rs : List P.Row) (r : P.Row) → Nested f rs → ((g : ℕ) → r.parent ≡ P.row g → Above f rs (f (length rs)) g) → (P.is_iterated r.statement ≡ true → f (length rs) < 16) → Nested f (rs ++ r ∷ [])
  nested_more rs r h up it = record { before = λ n g l z. (by n g l z (ltb n (length rs)) refl).0; above = λ n g l z. (by n g l z (ltb n (length rs)) refl).1; shallow = λ g l z. deep g l z (ltb g (length rs)) refl }
    where
      by : (n g : ℕ) → n < length (rs ++ r ∷ []) → (row_of (rs ++ r ∷ []) n).parent ≡ P.row g → (b : Bool) → ltb n (length rs) ≡ b → (g < n) × Above f (rs ++ r ∷ []) (f n) g
      by n g l z true e =
          let q : n < length rs = ltb-true n (length rs) e in
          let old : (row_of rs n).parent ≡ P.row g = sym ((more_grows rs r).parent n q) ∙ z in
          (h.before n g q old, above_grows rs (rs ++ r ∷ []) (f n) g (more_grows rs r) (h.above n g q old))
      by n g l z false e =
          let q : length rs ≡ n = omega (arith, ltb-false n (length rs) e, l, length-append rs (r ∷ [])) in
          let new : r.parent ≡ P.row g = ap (λ (x : P.Row). x.parent) (sym (last_row rs r)) ∙ ap (λ (i : ℕ). (row_of (rs ++ r ∷ []) i).parent) q ∙ z in
          let a : Above f rs (f (length rs)) g = up g new in
          (omega (arith, a.low, q), subst (λ (i : ℕ). Above f (rs ++ r ∷ []) (f i) g) q (above_grows rs (rs ++ r ∷ []) (f (length rs)) g (more_grows rs r) a))

      deep : (g : ℕ) → g < length (rs ++ r ∷ []) → P.is_iterated (row_of (rs ++ r ∷ []) g).statement ≡ true → (b : Bool) → ltb g (length rs) ≡ b → f g < 16
      deep g l z true e = let q : g < length rs = ltb-true g (length rs) e in h.shallow g q (ap P.is_iterated (sym ((more_grows rs r).statement g q)) ∙ z)
      deep g l z false e =
          let q : length rs ≡ g = omega (arith, ltb-false g (length rs) e, l, length-append rs (r ∷ [])) in
          subst (λ (i : ℕ). f i < 16) q (it (ap (λ (x : P.Row). P.is_iterated x.statement) (sym (last_row rs r)) ∙ ap (λ (i : ℕ). P.is_iterated (row_of (rs ++ r ∷ []) i).statement) q ∙ z))

  -- ---- a new row, in what is open
  around_last : (rs : List P.Row) (w : D.Where) (o : D.Open) (os : List D.Open) (n : ℕ) → Around f rs (o ∷ os) → Around f rs (last_by w o n ∷ os)
  unfolding D.depth
  around_last rs D.in_program o os n h = h
  around_last rs D.in_group o os n h = h
  around_last rs D.in_body o os n h = h
  around_last rs D.in_then o os n h = h
  around_last rs D.in_else o os n h = h

  depth_last : (w : D.Where) (o : D.Open) (os : List D.Open) (n : ℕ) → D.depth (last_by w o n ∷ os) ≡ D.depth (o ∷ os)
  unfolding D.depth
  depth_last D.in_program o os n = refl
  depth_last D.in_group o os n = refl
  depth_last D.in_body o os n = refl
  depth_last D.in_then o os n = refl
  depth_last D.in_else o os n = refl

  record Added (st : D.State) (L : List D.Open) (y : P.Statement) (r : D.State) : Type 0 where
    deep : Deep f r
    size : length r.rows ≡ suc (length st.rows)
    depth : D.depth r.opened ≡ D.depth L
    statement : (row_of r.rows (length st.rows)).statement ≡ y

  add_to_lem : (L : List D.Open) (y : P.Statement) (p : ℕ) (st : D.State) → 0 < length L → Nested f st.rows → Around f st.rows L → f (length st.rows) ≡ D.depth L → (P.is_iterated y ≡ true → D.depth L < 16) → Added st L y (D.add_to L y p st)
  add_to_lem [] y p st some h a e it = absurd (omega arith)
  add_to_lem (o ∷ os) y p st some h a e it =
      let n : ℕ = length st.rows in
      let rs : List P.Row = linked_in o.kind o n st.rows in
      let r : P.Row = D.new_row y p (parent_in o.kind o.row) (role_in o.kind) in
      let s : Same st.rows rs = in_same o.kind o n st.rows in
      let there : f (length rs) ≡ D.depth (o ∷ os) = ap f s.size ∙ e in
      subst (Added st (o ∷ os) y) (sym (add_in_lem o.kind o os y p n st refl))
      (record {
        deep = record {
          rows = nested_more rs r (nested_same st.rows rs s h)
              (λ g z. subst (λ (i : ℕ). Above f rs i g) (sym there) (above_grows st.rows rs (D.depth (o ∷ os)) g (same_grows st.rows rs s) (a.0 g z)))
              (λ z. omega (arith, there, it z));
          around = around_grows rs (rs ++ r ∷ []) (last_by o.kind o n ∷ os) (more_grows rs r) (around_last rs o.kind o os n (around_grows st.rows rs (o ∷ os) (same_grows st.rows rs s) a));
        };
        size = omega (arith, length-append rs (r ∷ []), s.size);
        depth = depth_last o.kind o os n;
        statement = ap (λ (i : ℕ). (row_of (rs ++ r ∷ []) i).statement) (sym s.size) ∙ ap (λ (x : P.Row). x.statement) (last_row rs r);
      })

  -- ---- behind a statement
  module _ (s : List ℕ) where
    elsed_deep : (E : D.Else) (i : ℕ) (os : List D.Open) (st : D.State) (up : Unit {0} → D.Turn) → Nested f st.rows → ((g : ℕ) → P.row i ≡ P.row g → Above f st.rows (1 + D.depth os) g) → Around f st.rows os
        → DeepTurn f (up tt) → DeepTurn f (D.elsed E i os st up)
    unfolding D.depth
    elsed_deep (D.else_to q) i os st up h a b r = record { rows = h; around = (a, b) }
    elsed_deep D.no_else i os st up h a b r = r

    complete_in_lem : (w : D.Where) (i : ℕ) (l : P.Link) (bs : List (List ℕ)) (os : List D.Open) (n e : ℕ) (st : D.State) (up : ℕ → D.Turn) → Nested f st.rows → Around f st.rows (record { kind = w; row = i; last = l; labels = bs } ∷ os)
        → DeepTurn f (up i) → DeepTurn f (D.complete_in mixed w s i os n e (D.with_opened (record { kind = w; row = i; last = l; labels = bs } ∷ os) st.scope st) up)
    unfolding D.depth
    complete_in_lem D.in_program i l bs os n e st up h a r = record { rows = h; around = a }
    complete_in_lem D.in_group i l bs os n e st up h a r = record { rows = h; around = a }
    complete_in_lem D.in_body i l bs os n e st up h a r = record { rows = h; around = a }
    complete_in_lem D.in_then i l bs os n e st up h a r =
        elsed_deep (D.else_at mixed (D.is_inside st.scope) s e) i os (D.with_opened (record { kind = D.in_then; row = i; last = l; labels = bs } ∷ os) st.scope st) (λ _. up i) h a.0 a.1 r
    complete_in_lem D.in_else i l bs os n e st up h a r = r

    complete_deep : (L : List D.Open) (n e : ℕ) (st : D.State) → Nested f st.rows → Around f st.rows L → DeepTurn f (D.complete mixed s L n e st)
    unfolding D.complete
    complete_deep [] n e st h a = h
    complete_deep (o ∷ os) n e st h a = complete_in_lem o.kind o.row o.last o.labels os n e st (λ i. D.complete mixed s os i e st) h a (complete_deep os o.row e st h a.1)

    -- ---- what a statement opens
    parent_is : (w : D.Where) (n g : ℕ) → parent_in w n ≡ P.row g → n ≡ g
    parent_is D.in_program n g e = let z : ◌≡◌ {A = ℕ} 0 1 = cc in absurd (omega arith)
    parent_is D.in_group n g e = cc
    parent_is D.in_body n g e = cc
    parent_is D.in_then n g e = cc
    parent_is D.in_else n g e = cc

    around_new : (w : D.Where) (n : ℕ) (ls : List (List ℕ)) (rs : List P.Row) (L : List D.Open) → n < length rs → f n ≡ D.depth L → (P.is_iterated (row_of rs n).statement ≡ true → D.counts w ≡ 1) → Around f rs L → Around f rs (D.opening w n ls ∷ L)
    unfolding D.depth
    around_new w n ls rs L l e it a = (
      λ g z. subst (Above f rs (D.counts w + D.depth L)) (parent_is w n g z) (record { low = l; level = omega (arith, e); inner = λ i. omega (arith, e, it i) }),
      a,
    )

    opened_deep : (o : St.Opens) (n : ℕ) (ns : List Named) (e : ℕ) (st : D.State) → Deep f st → n < length st.rows → f n ≡ D.depth st.opened → (P.is_iterated (row_of st.rows n).statement ≡ true → o ≡ St.opens_group) → DeepTurn f (D.opened mixed o s n ns e st)
    opened_deep St.opens_nothing n ns e st h l q it = complete_deep st.opened n e st h.rows h.around
    opened_deep St.opens_group n ns e st h l q it = record { rows = h.rows; around = around_new D.in_group n (D.spelled ns) st.rows st.opened l q (λ z. refl) h.around }
    opened_deep St.opens_body n ns e st h l q it = record { rows = h.rows; around = around_new D.in_body n (D.spelled ns) st.rows st.opened l q (λ z. let y : St.opens_body ≡ St.opens_group = it z in let c : ◌≡◌ {A = ℕ} 0 1 = cc in absurd (omega arith)) h.around }
    opened_deep St.opens_then n ns e st h l q it = record { rows = h.rows; around = around_new D.in_then n [] st.rows st.opened l q (λ z. refl) h.around }

    -- ---- EVERY TURN
    record Ready (st : D.State) : Type 0 where
      deep : Deep f st
      next : f (length st.rows) ≡ D.depth st.opened
      some : 0 < length st.opened

    taken_deep : (k : Statement) (p : ℕ) (ns : List Named) (st : D.State) (c : St.Clause) (es : List P.Declared) → Ready st → OpensBoth k c.opens c → Room c.opens st → DeepTurn f (D.taken mixed s p ns st c es)
    unfolding D.taken D.add_row
    taken_deep k p ns st c es h o r =
        let n : ℕ = length st.rows in
        let group : P.is_iterated c.statement ≡ true → c.opens ≡ St.opens_group = λ z. sym o.statement ∙ iterated_opens c.statement z in
        let g : Added st st.opened c.statement (D.add_to st.opened c.statement p st) =
        add_to_lem st.opened c.statement p st h.some h.deep.rows h.deep.around h.next (λ z. subst (λ (u : St.Opens). Room u st) (group z) r) in
        opened_deep c.opens n ns c.to (D.with_names (St.means st.scope (D.label_meaning c.opens n) ns ++ es) (D.add_to st.opened c.statement p st))
        (record { rows = g.deep.rows; around = g.deep.around }) (omega (arith, g.size)) (h.next ∙ sym g.depth) (λ z. group (ap P.is_iterated (sym g.statement) ∙ z))

    steps : Steps s Ready (DeepTurn f)
    steps = record {
      halts = λ w p begun st h. tt;
      finishes = λ st h. h.deep.rows;
      statements = λ p ns st h d small. record { takes = λ k c es o r l. taken_deep k p ns st c es h o r; refuses = λ w q es l. tt };
      ends = λ o os ns e st h q x d.
          complete_deep os o.row e (D.with_opened os (D.scope_out o.kind st.scope) (D.with_names (St.means st.scope (P.end_label o.row) ns) st)) h.deep.rows
          (subst (λ (L : List D.Open). Around f st.rows L) q h.deep.around).1;
      relinks = λ k g st r h.
          let e : Same st.rows (D.change k g st.rows) = change_same k g st.rows r in
          record {
            deep = record { rows = nested_same st.rows (D.change k g st.rows) e h.deep.rows; around = around_grows st.rows (D.change k g st.rows) st.opened (same_grows st.rows (D.change k g st.rows) e) h.deep.around };
            next = ap f e.size ∙ h.next;
            some = h.some;
          };
      labels = λ m ns st e h. record { deep = record { rows = h.deep.rows; around = h.deep.around }; next = h.next; some = h.some };
      leads = λ x st h. record { deep = record { rows = h.deep.rows; around = h.deep.around }; next = h.next; some = h.some };
    }

    pub turn_deep : (m : D.Mode) (at : ℕ) (st : D.State) → Deep f st → f (length st.rows) ≡ D.depth st.opened → 0 < length st.opened → Shallow m st → DeepTurn f (D.turn mixed s m at st)
    turn_deep m at st h e some d = turn_walk s Ready (DeepTurn f) steps m at st (record { deep = h; next = e; some = some }) d

-- ---- only the depths of the rows that there are matter
module _ (f g : ℕ → ℕ) where
  above_by : (rs : List P.Row) (n d k : ℕ) → length rs ≤ n → ((i : ℕ) → i < n → f i ≡ g i) → Above f rs d k → Above g rs d k
  above_by rs n d k l e h = let q : f k ≡ g k = e k (omega (arith, h.low, l)) in record { low = h.low; level = omega (arith, h.level, q); inner = λ z. omega (arith, h.inner z, q) }

  pub nested_by : (rs : List P.Row) → ((i : ℕ) → i < length rs → f i ≡ g i) → Nested f rs → Nested g rs
  nested_by rs e h = record {
    before = h.before;
    above = λ n k l z. subst (λ (i : ℕ). Above g rs i k) (e n l) (above_by rs (length rs) (f n) k (omega arith) e (h.above n k l z));
    shallow = λ k l z. omega (arith, h.shallow k l z, e k l);
  }

  around_by : (rs : List P.Row) → ((i : ℕ) → i < length rs → f i ≡ g i) → (L : List D.Open) → Around f rs L → Around g rs L
  around_by rs e [] h = tt
  around_by rs e (o ∷ os) h = (λ k z. above_by rs (length rs) (D.depth (o ∷ os)) k (omega arith) e (h.0 k z), around_by rs e os h.1)

  pub deep_by : (st : D.State) → ((i : ℕ) → i < length st.rows → f i ≡ g i) → Deep f st → Deep g st
  deep_by st e h = record { rows = nested_by st.rows e h.rows; around = around_by st.rows e st.opened h.around }

pub start_deep : (f : ℕ → ℕ) → Deep f D.start
start_deep f = record {
  rows = record { before = λ n g l z. absurd (omega arith); above = λ n g l z. absurd (omega arith); shallow = λ g l z. absurd (omega arith) };
  around = (λ g z. let y : ◌≡◌ {A = ℕ} 0 1 = cc in absurd (omega arith), tt);
}

-- ---- THE TABLE: its depths, and those after a turn in which new rows are d deep
abbrev pub depth_in : List ℕ → ℕ → ℕ
depth_in t i = (row_in t i).depth

unfoldable pub depth_from : List ℕ → ℕ → ℕ → ℕ → ℕ
depth_from t n d i = cond (ltb i n) (row_in t i).depth d

pub from_old : (t : List ℕ) (n d i : ℕ) → i < n → depth_in t i ≡ depth_from t n d i
unfolding depth_from
from_old t n d i l = rw (lt-ltb i n l)

pub from_new : (t : List ℕ) (n d : ℕ) → depth_from t n d n ≡ d
unfolding depth_from
from_new t n d = rw (le-ltb n n (omega arith))

pub from_marks : (s t : List ℕ) (k : ℕ) (o : Opened) (t' : List ℕ) (n : ℕ) → Marks s t k o t' n → (i : ℕ) → i < n → depth_from t k (D.depth (opened_of s o)) i ≡ depth_in t' i
unfolding depth_from
from_marks s t k o t' n h i l = by (ltb i k) refl
  where
    by : (b : Bool) → ltb i k ≡ b → cond b (row_in t i).depth (D.depth (opened_of s o)) ≡ (row_in t' i).depth
    by true e = sym (h.kept i (ltb-true i k e)).depth
    by false e = sym (h.depth i (ltb-false i k e) l)

-- ---- its types
pub types_on : (s t : List ℕ) (k : ℕ) (o : Opened) (t' : List ℕ) (n : ℕ) → Marks s t k o t' n → ((i : ℕ) → i < k → Typed s (row_in t i)) → (i : ℕ) → i < n → Typed s (row_in t' i)
types_on s t k o t' n h f i l = by (ltb i k) refl
  where
    by : (b : Bool) → ltb i k ≡ b → Typed s (row_in t' i)
    by true e = let q : i < k = ltb-true i k e in typed_alike s (row_in t' i) (row_in t i) (h.kept i q) (f i q)
    by false e = h.type i (ltb-false i k e) l

row_at : (s t : List ℕ) (a n i : ℕ) → i < n → row_of (rows_from s t a n) i ≡ T.row_of s (row_in t (a + i))
unfolding rows_from
row_at s t a zero i l = absurd (omega arith)
row_at s t a (suc n) zero l = rw add-zero
row_at s t a (suc n) (suc i) l =
    let e : suc a + i ≡ a + suc i = omega arith in
    row_at s t (suc a) n i (omega arith) ∙ ap (λ (k : ℕ). T.row_of s (row_in t k)) e

pub row_first : (s t : List ℕ) (n i : ℕ) → i < n → row_of (rows_from s t 0 n) i ≡ T.row_of s (row_in t i)
row_first s t n i l = let e : 0 + i ≡ i = omega arith in row_at s t 0 n i l ∙ ap (λ (k : ℕ). T.row_of s (row_in t k)) e

-- THE TABLE of n rows
pub tabled : (s t : List ℕ) (n : ℕ) → Nested (depth_in t) (rows_from s t 0 n) → ((i : ℕ) → i < n → Typed s (row_in t i)) → Tabled t (rows_from s t 0 n)
unfolding T.row_of
tabled s t n h f = record {
  kind = λ i l.
      let q : i < n = omega (arith, l, rows_length s t 0 n) in
      (f i q).kind ∙ ap (λ (x : P.Row). kind_of x.statement) (sym (row_first s t n i q));
  before = h.before;
  level = λ i g l e. (h.above i g l e).level;
  inner = λ i g l e. (h.above i g l e).inner;
  shallow = h.shallow;
  typed = λ i ns v l e.
      let q : i < n = omega (arith, l, rows_length s t 0 n) in
      (f i q).type ∙ ap (λ (x : P.Row). type_in x.statement) (sym (row_first s t n i q)) ∙ ap type_in e;
}
