-- A clause that is not END begins a sentence: it adds a row at its place, or stops as one that was begun there.
-- Assumes nothing.
use mathlib.Core.Path.{◌≡◌, refl, sym, ap, ◌∙◌}
use mathlib.Core.Bool.{false, ◌&&◌, false≢true}
use mathlib.Core.List.{List, [], ◌∷◌, ◌++◌, append-nil}
use Prim.Native.Nat.{ℕ, zero, suc, ◌<◌}
use native.Mathlib.Omega.{arith}
use lib.ListN.{length}
use Rattle.definition.specs.Bytes.{mixed}
use Rattle.definition.specs.Expressions.{Named}
use Rattle.definition.specs.Program as P
use Rattle.definition.specs.Statements as St
use Rattle.definition.specs.Reading as D
use Rattle.definition.specs.declared.Why.TheVariants.{OverLimit}
use Rattle.definition.proofs.Choices.{when_has}
use Rattle.reading.specs.State.{state_in, begun_in}
use Rattle.reading.proofs.Walking.{Statements, by_token_lem, too_long_lem}

-- ---- the places of rows
places_append : (xs : List P.Row) (r : P.Row) → D.places (xs ++ r ∷ []) ≡ D.places xs ++ r.place ∷ []
places_append [] r = refl
places_append (x ∷ xs) r = ap (λ (z : List ℕ). x.place ∷ z) (places_append xs r)

places_change : (k : ℕ) (f : P.Row → P.Row) → ((r : P.Row) → (f r).place ≡ r.place) → (rs : List P.Row) → D.places (D.change k f rs) ≡ D.places rs
unfolding D.change
places_change k f h [] = refl
places_change zero f h (r ∷ rs) = ap (λ (z : ℕ). z ∷ D.places rs) (h r)
places_change (suc k) f h (r ∷ rs) = ap (λ (z : List ℕ). r.place ∷ z) (places_change k f h rs)

places_linked : (n : ℕ) (l : P.Link) (f : List P.Row → List P.Row) (rs : List P.Row) → D.places (f rs) ≡ D.places rs → D.places (D.linked n l f rs) ≡ D.places rs
places_linked n P.nowhere f rs h = h
places_linked n (P.row k) f rs h = places_change k (D.set_next n) (λ r. refl) rs

more : (xs rs : List P.Row) (r : P.Row) → D.places xs ≡ D.places rs → D.places (xs ++ r ∷ []) ≡ D.places rs ++ r.place ∷ []
more xs rs r h = places_append xs r ∙ ap (λ (z : List ℕ). z ++ r.place ∷ []) h

add_in_lem : (w : D.Where) (o : D.Open) (os : List D.Open) (y : P.Statement) (p : ℕ) (st : D.State) → D.places (D.add_in w o os y p st).rows ≡ D.places st.rows ++ p ∷ []
add_in_lem D.in_program o os y p st = more (D.linked (length st.rows) o.last (λ rs. rs) st.rows) st.rows (D.new_row y p P.nowhere P.listed) (places_linked (length st.rows) o.last (λ rs. rs) st.rows refl)
add_in_lem D.in_group o os y p st = more (D.linked (length st.rows) o.last (D.change o.row (D.set_child (length st.rows))) st.rows) st.rows (D.new_row y p (P.row o.row) P.listed) (places_linked (length st.rows) o.last (D.change o.row (D.set_child (length st.rows))) st.rows (places_change o.row (D.set_child (length st.rows)) (λ r. refl) st.rows))
add_in_lem D.in_body o os y p st = more (D.linked (length st.rows) o.last (D.change o.row (D.set_child (length st.rows))) st.rows) st.rows (D.new_row y p (P.row o.row) P.listed) (places_linked (length st.rows) o.last (D.change o.row (D.set_child (length st.rows))) st.rows (places_change o.row (D.set_child (length st.rows)) (λ r. refl) st.rows))
add_in_lem D.in_then o os y p st = more (D.change o.row (D.set_child (length st.rows)) st.rows) st.rows (D.new_row y p (P.row o.row) P.then_part) (places_change o.row (D.set_child (length st.rows)) (λ r. refl) st.rows)
add_in_lem D.in_else o os y p st = more (D.change o.row (D.set_other (length st.rows)) st.rows) st.rows (D.new_row y p (P.row o.row) P.else_part) (places_change o.row (D.set_other (length st.rows)) (λ r. refl) st.rows)

add_to_lem : (L : List D.Open) (y : P.Statement) (p : ℕ) (st : D.State) → 0 < length L → D.places (D.add_to L y p st).rows ≡ D.places st.rows ++ p ∷ []
add_to_lem [] y p st h = absurd (omega (arith, h))
add_to_lem (o ∷ os) y p st h = add_in_lem o.kind o os y p st

-- ---- behind a statement no row is added, and none is begun
abbrev Kept : List P.Row → D.Turn → Type 0
Kept rs X = ((state_in X).rows ≡ rs) × (begun_in X ≡ [])

module _ (s : List ℕ) (e : ℕ) where
  elsed_kept : (E : D.Else) (i : ℕ) (os : List D.Open) (st : D.State) (up : Unit {0} → D.Turn) → Kept st.rows (up tt) → Kept st.rows (D.elsed E i os st up)
  elsed_kept (D.else_to q) i os st up h = (refl, refl)
  elsed_kept D.no_else i os st up h = h

  in_kept : (w : D.Where) (i : ℕ) (os : List D.Open) (n : ℕ) (st : D.State) (up : ℕ → D.Turn) → Kept st.rows (up i) → Kept st.rows (D.complete_in mixed w s i os n e st up)
  in_kept D.in_program i os n st up h = (refl, refl)
  in_kept D.in_group i os n st up h = (refl, refl)
  in_kept D.in_body i os n st up h = (refl, refl)
  in_kept D.in_then i os n st up h = elsed_kept (D.else_at mixed (D.is_inside st.scope) s e) i os st (λ _. up i) h
  in_kept D.in_else i os n st up h = h

  complete_kept : (os : List D.Open) (n : ℕ) (st : D.State) → Kept st.rows (D.complete mixed s os n e st)
  unfolding D.complete
  complete_kept [] n st = (refl, refl)
  complete_kept (o ∷ os) n st = in_kept o.kind o.row os n (D.with_opened (o ∷ os) st.scope st) (λ i. D.complete mixed s os i e st) (complete_kept os o.row st)

opened_kept : (o : St.Opens) (s : List ℕ) (n : ℕ) (ns : List Named) (e : ℕ) (st : D.State) → Kept st.rows (D.opened mixed o s n ns e st)
opened_kept St.opens_nothing s n ns e st = complete_kept s e st.opened n st
opened_kept St.opens_group s n ns e st = (refl, refl)
opened_kept St.opens_body s n ns e st = (refl, refl)
opened_kept St.opens_then s n ns e st = (refl, refl)

-- ---- what begins a sentence at p
module _ (s : List ℕ) (p : ℕ) (st : D.State) (some : 0 < length st.opened) where
  abbrev Begins : D.Turn → Type 0
  Begins X = D.places (state_in X).rows ++ begun_in X ≡ D.places st.rows ++ p ∷ []

  by_kept : (X : D.Turn) (rs : List P.Row) → Kept rs X → D.places rs ≡ D.places st.rows ++ p ∷ [] → Begins X
  by_kept X rs h e = ap (λ (z : List P.Row). D.places z ++ begun_in X) h.0 ∙ ap (λ (z : List ℕ). D.places rs ++ z) h.1 ∙ append-nil (D.places rs) ∙ e

  module _ (ns : List Named) where
    taken_begins : (c : St.Clause) (es : List P.Declared) → Begins (D.taken mixed s p ns st c es)
    unfolding D.taken D.add_row
    taken_begins c es =
        let ms : List P.Declared = St.means st.scope (D.label_meaning c.opens (length st.rows)) ns ++ es in
        let y : D.State = D.with_names ms (D.add_to st.opened c.statement p st) in
        by_kept (D.opened mixed c.opens s (length st.rows) ns c.to y) (D.add_to st.opened c.statement p st).rows (opened_kept c.opens s (length st.rows) ns c.to y) (add_to_lem st.opened c.statement p st some)

    begin : Statements s p ns st Begins
    begin = record { takes = λ k c es o r l. taken_begins c es; refuses = λ w q es l. refl }

  pub clause_begins : (at : ℕ) → (D.is_in_group (D.kind_of st.opened) && D.is_end mixed s (D.labels mixed s at).behind) ≡ false → Begins (D.clause_at mixed s p at st)
  unfolding D.clause_from
  clause_begins at h =
      when_has Begins (D.is_in_group (D.kind_of st.opened) && D.is_end mixed s (D.labels mixed s at).behind) _ _ (λ z. absurd (false≢true (sym h ∙ z))) λ _.
      when_has Begins (D.is_full st) _ _ (λ _. refl) λ _.
      too_long_lem Begins (D.labels mixed s at).long (λ q. D.untaken p (D.labels mixed s at).labels st OverLimit q []) (λ _. D.by_token mixed (D.labels mixed s at).behind.token s p (D.labels mixed s at).labels (D.labels mixed s at).behind st) (λ q. refl) (by_token_lem s p (D.labels mixed s at).labels st Begins (begin (D.labels mixed s at).labels) (D.labels mixed s at).behind.token (D.labels mixed s at).behind)
