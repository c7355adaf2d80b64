-- Every turn of the definition leaves a state that the next can be taken from: the program is around all that is open, at most 19 are
-- open, and links lead to rows that there are.
-- Assumes nothing.
use mathlib.Core.Path.{◌≡◌, refl, sym, ap, subst, ◌∙◌}
use mathlib.Core.Bool.{Bool, true, false, cond}
use mathlib.Core.List.{List, [], ◌∷◌, ◌++◌}
use Prim.Native.Nat.{ℕ, suc, ◌+◌, ◌<◌, ◌≤◌}
use native.Mathlib.Omega.{arith}
use lib.ListN.{length}
use Rattle.definition.specs.Bytes.{mixed}
use Rattle.definition.specs.Expressions.{read, Named}
use Rattle.definition.specs.Program as P
use Rattle.definition.specs.Statements as St
use Rattle.definition.specs.Reading as D
use Rattle.statements.specs.Clauses.{Lies, Own}
use Rattle.openings.specs.Open.{opened_of}
use Rattle.reading.specs.declared.State.{State}
use Rattle.reading.specs.declared.Turned.{Turned}
use Rattle.reading.specs.declared.Mode.{Mode}
use Rattle.reading.specs.declared.Mode.TheVariants as Md
use Rattle.reading.specs.declared.Next.{Next}
use Rattle.reading.specs.declared.Next.TheVariants as Nx
use Rattle.reading.specs.State.{rows_from, state_of, mode_of, next_of, turn_of, Stand, RoomFor, Placed, state_in, Sits, Goes, Takes, Follows}
use Rattle.reading.proofs.Rows.{rows_length, room_as}
use Rattle.reading.proofs.Adding.{stand_last}
use Rattle.reading.proofs.Endings.{stand_some}
use Rattle.reading.proofs.Turning.{opened_length}
use Rattle.reading.proofs.Owners.{change_length, add_length}
use Rattle.reading.proofs.Walking.{procedures, Room, Ended, Shallow, Steps, turn_walk}

-- ---- what a state has, and by what comes next
pub record Well (st : D.State) : Type 0 where
  pub few : length st.rows ≤ 1024
  pub stand : Stand (length st.rows) st.opened
  pub count : length st.opened ≤ D.depth st.opened + 1 + procedures st.scope

abbrev pub WellFor : D.Mode → D.State → Type 0
WellFor D.leading_text st = D.depth st.opened ≤ 16
WellFor (D.text_behind k) st = (D.depth st.opened ≤ 16) × (k < length st.rows)
WellFor D.alternative st = D.depth st.opened ≤ 17
WellFor D.inner st = D.depth st.opened ≤ 16

abbrev pub WellTurn : D.Turn → Type 0
WellTurn (D.go m at st) = Well st × WellFor m st
WellTurn (D.stop w p begun st) = Unit {0}
WellTurn (D.finish st) = Unit {0}

pub shallow : (m : D.Mode) (st : D.State) → WellFor m st → Shallow m st
shallow D.leading_text st h = h
shallow (D.text_behind k) st h = h.0
shallow D.alternative st h = tt
shallow D.inner st h = h

few_procedures : (k : P.Scope) → procedures k ≤ 1
few_procedures P.global = omega arith
few_procedures (P.inside r) = omega arith

-- so 19 at most are open
pub well_deep : (m : D.Mode) (st : D.State) → Well st → WellFor m st → length st.opened ≤ 19
well_deep D.leading_text st h k = omega (arith, h.count, k, few_procedures st.scope)
well_deep (D.text_behind r) st h k = omega (arith, h.count, k.0, few_procedures st.scope)
well_deep D.alternative st h k = omega (arith, h.count, k, few_procedures st.scope)
well_deep D.inner st h k = omega (arith, h.count, k, few_procedures st.scope)

-- ---- a new row
record Grown (st : D.State) (L : List D.Open) (r : D.State) : Type 0 where
  rows : length r.rows ≡ suc (length st.rows)
  stand : Stand (length st.rows) L → Stand (suc (length st.rows)) r.opened
  depth : D.depth r.opened ≡ D.depth L
  count : length r.opened ≡ length L
  scope : r.scope ≡ st.scope

add_in_lem : (w : D.Where) (k : ℕ) (l : P.Link) (bs : List (List ℕ)) (os : List D.Open) (y : P.Statement) (p : ℕ) (st : D.State)
    → Grown st (record { kind = w; row = k; last = l; labels = bs } ∷ os) (D.add_in w (record { kind = w; row = k; last = l; labels = bs }) os y p st)
unfolding D.depth
add_in_lem D.in_program k l bs os y p st = record { rows = add_length D.in_program (record { kind = D.in_program; row = k; last = l; labels = bs }) os y p st; stand = stand_last D.in_program k l bs os (length st.rows); depth = refl; count = refl; scope = refl }
add_in_lem D.in_group k l bs os y p st = record { rows = add_length D.in_group (record { kind = D.in_group; row = k; last = l; labels = bs }) os y p st; stand = stand_last D.in_group k l bs os (length st.rows); depth = refl; count = refl; scope = refl }
add_in_lem D.in_body k l bs os y p st = record { rows = add_length D.in_body (record { kind = D.in_body; row = k; last = l; labels = bs }) os y p st; stand = stand_last D.in_body k l bs os (length st.rows); depth = refl; count = refl; scope = refl }
add_in_lem D.in_then k l bs os y p st = record { rows = add_length D.in_then (record { kind = D.in_then; row = k; last = l; labels = bs }) os y p st; stand = stand_last D.in_then k l bs os (length st.rows); depth = refl; count = refl; scope = refl }
add_in_lem D.in_else k l bs os y p st = record { rows = add_length D.in_else (record { kind = D.in_else; row = k; last = l; labels = bs }) os y p st; stand = stand_last D.in_else k l bs os (length st.rows); depth = refl; count = refl; scope = refl }

add_to_lem : (L : List D.Open) (y : P.Statement) (p : ℕ) (st : D.State) → Stand (length st.rows) L → Grown st L (D.add_to L y p st)
add_to_lem [] y p st h = absurd h
add_to_lem (o ∷ os) y p st h = add_in_lem o.kind o.row o.last o.labels os y p st

add_row_lem : (y : P.Statement) (p : ℕ) (st : D.State) → Stand (length st.rows) st.opened → Grown st st.opened (D.add_row y p st)
unfolding D.add_row
add_row_lem y p st h = add_to_lem st.opened y p st h

-- ---- behind a statement
module _ (s : List ℕ) where
  behind_well : (k : P.Scope) (n : ℕ) (st : D.State) → D.depth st.opened ≤ 16 → n < length st.rows → WellFor (D.behind k n) st
  behind_well P.global n st h l = (h, l)
  behind_well (P.inside r) n st h l = h

  module _ (k i : ℕ) (l : P.Link) (bs : List (List ℕ)) (os : List D.Open) (n e : ℕ) (st : D.State) (f : ℕ → D.Turn) (few : length st.rows ≤ 1024) (low : n < length st.rows) where
    elsed_well : (E : D.Else) (j : ℕ) → j < length st.rows → Stand (length st.rows) os → suc (length os) ≤ 1 + D.depth os + 1 + procedures st.scope → 1 + D.depth os ≤ 16 → WellTurn (f j) → WellTurn (D.elsed E j os st (λ _. f j))
    unfolding D.depth
    elsed_well (D.else_to q) j lj h c d r = (record { few = few; stand = (record { row = lj; last = tt }, h); count = c }, omega (arith, d))
    elsed_well D.no_else j lj h c d r = r

  complete_in_lem : (w : D.Where) (i : ℕ) (l : P.Link) (bs : List (List ℕ)) (os : List D.Open) (n e : ℕ) (st : D.State) (f : ℕ → D.Turn) → length st.rows ≤ 1024 → n < length st.rows
      → Stand (length st.rows) (record { kind = w; row = i; last = l; labels = bs } ∷ os) → suc (length os) ≤ D.counts w + D.depth os + 1 + procedures st.scope → D.counts w + D.depth os ≤ 16
      → (i < length st.rows → Stand (length st.rows) os → length os ≤ D.depth os + 1 + procedures st.scope → D.depth os ≤ 16 → WellTurn (f i))
      → WellTurn (D.complete_in mixed w s i os n e (D.with_opened (record { kind = w; row = i; last = l; labels = bs } ∷ os) st.scope st) f)
  unfolding D.depth
  complete_in_lem D.in_program i l bs os n e st f few low h c d r = (record { few = few; stand = h; count = c }, behind_well st.scope n (D.with_opened (record { kind = D.in_program; row = i; last = l; labels = bs } ∷ os) st.scope st) d low)
  complete_in_lem D.in_group i l bs os n e st f few low h c d r = (record { few = few; stand = h; count = c }, behind_well st.scope n (D.with_opened (record { kind = D.in_group; row = i; last = l; labels = bs } ∷ os) st.scope st) d low)
  complete_in_lem D.in_body i l bs os n e st f few low h c d r = (record { few = few; stand = h; count = c }, behind_well st.scope n (D.with_opened (record { kind = D.in_body; row = i; last = l; labels = bs } ∷ os) st.scope st) d low)
  complete_in_lem D.in_then i l bs os n e st f few low h c d r =
      elsed_well 0 i l bs os n e (D.with_opened (record { kind = D.in_then; row = i; last = l; labels = bs } ∷ os) st.scope st) f few low (D.else_at mixed (D.is_inside st.scope) s e) i h.0.row h.1 c d (r h.0.row h.1 (omega (arith, c)) (omega (arith, d)))
  complete_in_lem D.in_else i l bs os n e st f few low h c d r = r h.0.row h.1 (omega (arith, c)) (omega (arith, d))

  complete_well : (L : List D.Open) (n e : ℕ) (st : D.State) → length st.rows ≤ 1024 → n < length st.rows → Stand (length st.rows) L → length L ≤ D.depth L + 1 + procedures st.scope → D.depth L ≤ 16 → WellTurn (D.complete mixed s L n e st)
  unfolding D.complete D.depth
  complete_well [] n e st few low h c d = tt
  complete_well (o ∷ os) n e st few low h c d =
      complete_in_lem o.kind o.row o.last o.labels os n e st (λ i. D.complete mixed s os i e st) few low h c d (λ li hs cs ds. complete_well os o.row e st few li hs cs ds)

  -- ---- what a statement opens
  mode_either : (b : Bool) (st : D.State) → D.depth st.opened ≤ 16 → WellFor (cond b D.inner D.leading_text) st
  mode_either true st h = h
  mode_either false st h = h

  opened_well : (o : St.Opens) (n : ℕ) (ns : List Named) (e : ℕ) (st : D.State) → Well st → n < length st.rows → D.depth st.opened ≤ 16 → Room o st → WellTurn (D.opened mixed o s n ns e st)
  unfolding D.depth
  opened_well St.opens_nothing n ns e st h low d r = complete_well st.opened n e st h.few low h.stand h.count d
  opened_well St.opens_group n ns e st h low d r = (
    record { few = h.few; stand = (record { row = low; last = tt }, h.stand); count = omega (arith, h.count) },
    mode_either (D.is_inside st.scope) (D.with_opened (D.opening D.in_group n (D.spelled ns) ∷ st.opened) st.scope st) (omega (arith, r)),
  )
  opened_well St.opens_body n ns e st h low d r = (record { few = h.few; stand = (record { row = low; last = tt }, h.stand); count = omega (arith, h.count, r) }, omega (arith, d))
  opened_well St.opens_then n ns e st h low d r = (record { few = h.few; stand = (record { row = low; last = tt }, h.stand); count = omega (arith, h.count) }, omega (arith, d))

  room_same : (o : St.Opens) (st r : D.State) → D.depth r.opened ≡ D.depth st.opened → r.scope ≡ st.scope → Room o st → Room o r
  room_same St.opens_nothing st r e f h = tt
  room_same St.opens_group st r e f h = omega (arith, e, h)
  room_same St.opens_body st r e f h = ap procedures f ∙ h
  room_same St.opens_then st r e f h = tt

  -- ---- a statement that was read, where there is room for its row
  module _ (p : ℕ) (ns : List Named) (st : D.State) (h : Well st) (d : D.depth st.opened ≤ 16) (small : length st.rows < 1024) where
    taken_well : (c : St.Clause) (es : List P.Declared) → Room c.opens st → WellTurn (D.taken mixed s p ns st c es)
    unfolding D.taken
    taken_well c es r =
        let n : ℕ = length st.rows in
        let g : Grown st st.opened (D.add_row c.statement p st) = add_row_lem c.statement p st h.stand in
        opened_well c.opens n ns c.to (D.with_names (St.means st.scope (D.label_meaning c.opens n) ns ++ es) (D.add_row c.statement p st))
        (record {
          few = omega (arith, g.rows, small);
          stand = subst (λ (m : ℕ). Stand m (D.add_row c.statement p st).opened) (sym g.rows) (g.stand h.stand);
          count = omega (arith, g.count, g.depth, h.count, ap procedures g.scope);
        })
        (omega (arith, g.rows)) (omega (arith, g.depth, d)) (room_same c.opens st (D.with_names (St.means st.scope (D.label_meaning c.opens n) ns ++ es) (D.add_row c.statement p st)) g.depth g.scope r)

  -- ---- END of a group or a procedure
  end_in_lem : (w : D.Where) (k : ℕ) (l : P.Link) (bs : List (List ℕ)) (os : List D.Open) (ns : List Named) (e : ℕ) (st : D.State) → Ended w → length st.rows ≤ 1024 → Stand (length st.rows) (record { kind = w; row = k; last = l; labels = bs } ∷ os)
      → suc (length os) ≤ D.counts w + D.depth os + 1 + procedures st.scope → D.counts w + D.depth os ≤ 16
      → WellTurn (D.complete mixed s os k e (D.with_opened os (D.scope_out w st.scope) (D.with_names (St.means st.scope (P.end_label k) ns) st)))
  end_in_lem D.in_program k l bs os ns e st x few h c d = absurd x
  end_in_lem D.in_group k l bs os ns e st x few h c d = complete_well os k e (D.with_opened os st.scope (D.with_names (St.means st.scope (P.end_label k) ns) st)) few h.0.row h.1 (omega (arith, c)) (omega (arith, d))
  end_in_lem D.in_body k l bs os ns e st x few h c d = complete_well os k e (D.with_opened os P.global (D.with_names (St.means st.scope (P.end_label k) ns) st)) few h.0.row h.1 (omega (arith, c, few_procedures st.scope)) (omega (arith, d))
  end_in_lem D.in_then k l bs os ns e st x few h c d = absurd x
  end_in_lem D.in_else k l bs os ns e st x few h c d = absurd x

  ends : (o : D.Open) (os : List D.Open) (ns : List Named) (e : ℕ) (st : D.State) → Well st → st.opened ≡ o ∷ os → Ended o.kind → D.depth st.opened ≤ 16 → WellTurn (D.end_read mixed s ns o os st (read e))
  unfolding D.depth
  ends o os ns e st h q x d =
      end_in_lem o.kind o.row o.last o.labels os ns e st x h.few (subst (λ (L : List D.Open). Stand (length st.rows) L) q h.stand)
      (subst (λ (L : List D.Open). length L ≤ D.depth L + 1 + procedures st.scope) q h.count) (subst (λ (L : List D.Open). D.depth L ≤ 16) q d)

  -- ---- EVERY TURN
  steps : Steps s Well WellTurn
  steps = record {
    halts = λ w p begun st h. tt;
    finishes = λ st h. tt;
    statements = λ p ns st h d small. record { takes = λ k c es o r l. taken_well p ns st h d small c es r; refuses = λ w q es l. tt };
    ends = ends;
    labels = λ m ns st e h. record { few = h.few; stand = h.stand; count = h.count };
    relinks = λ k g st r h. record { few = omega (arith, change_length k g st.rows, h.few); stand = subst (λ (m : ℕ). Stand m st.opened) (sym (change_length k g st.rows)) h.stand; count = h.count };
    leads = λ x st h. record { few = h.few; stand = h.stand; count = h.count };
  }

  pub turn_well : (m : D.Mode) (at : ℕ) (st : D.State) → Well st → WellFor m st → WellTurn (D.turn mixed s m at st)
  turn_well m at st h d = turn_walk s Well WellTurn steps m at st h (shallow m st d)

-- and so does the start
pub start_well : Well D.start
unfolding D.depth
start_well = record { few = omega arith; stand = (record { row = tt; last = tt }, tt); count = omega arith }

-- ---- so the code's state is in its place for the next turn
pub placed_well : (s t : List ℕ) (ds : List P.Declared) (x : State) (m : D.Mode) → Well (state_of s t ds x) → WellFor m (state_of s t ds x) → RoomFor x.entered t → Placed s t x
unfolding state_of
placed_well s t ds x m h k w =
    let n : length (rows_from s t 0 x.rows) ≡ x.rows = rows_length s t 0 x.rows in
    let g : Stand x.rows (opened_of s x.opened) = subst (λ (i : ℕ). Stand i (opened_of s x.opened)) n h.stand in
    record {
      room = w;
      own = omega (arith, n, h.few);
      stand = g;
      some = stand_some s x.opened x.rows g;
      deep = omega (arith, opened_length s x.opened, well_deep m (state_of s t ds x) h k);
    }

follows : (s t : List ℕ) (ds : List P.Declared) (x : State) (m : Mode) → WellFor (mode_of m) (state_of s t ds x) → Follows m x.rows
unfolding state_of
follows s t ds x Md.Leading h = tt
follows s t ds x (Md.Behind k) h = omega (arith, h.1, rows_length s t 0 x.rows)
follows s t ds x Md.Alternative h = tt
follows s t ds x Md.Inner h = tt

pub record Ongoing (d s t n : List ℕ) (x : State) (m : Mode) : Type 0 where
  pub sits : Sits d s t n x
  pub follows : Follows m x.rows

module _ (d s t n : List ℕ) (x : State) (X : D.Turn) (t' n' : List ℕ) (r : Turned) (m : Mode) (at : ℕ) where
  pub goes_on_lem : Sits d s t n x → Takes d s t n x X t' n' r → Goes d s n x.tally X t' n' r → r.next ≡ Nx.Go m at → WellTurn X → Ongoing d s t' n' r.state m
  unfolding turn_of
  goes_on_lem h k g e w =
      let ds : List P.Declared = (state_in X).declared in
      let y : WellTurn (D.go (mode_of m) at (state_of s t' ds r.state)) = subst WellTurn (sym g.turn ∙ ap (λ (z : Next). next_of z (state_of s t' ds r.state)) e) w in
      record {
        sits = record {
          ready = record {
            roomy = g.entered.roomy;
            lies = subst (Lies d s) (sym g.entered.base) h.ready.lies;
            own = subst (λ (i : ℕ). Own i r.state.scope) (sym g.entered.member) k.own;
          };
          few = k.few;
          short = h.short;
          placed = placed_well s t' ds r.state (mode_of m) y.0 y.1 (room_as x.entered r.state.entered t t' k.before k.size h.placed.room);
        };
        follows = follows s t' ds r.state m y.1;
      }
