-- THE TEXTS OF A MEMBER lie in its body, each from a place to one that is not before it. The walk of `reading` does not say which texts
-- a turn sets, so that this one goes through the turns again; which statement begins it takes from there.
-- Assumes nothing.
use mathlib.Core.Path.{sym, subst}
use mathlib.Core.Bool.{◌&&◌}
use mathlib.Core.List.{List, [], ◌∷◌, ◌++◌}
use Prim.Native.Nat.{ℕ, zero, suc, ◌+◌, ◌≤◌}
use Prim.Native.Char.{code}
use native.Mathlib.Omega.{arith}
use borrow.Author.Tests.{leb-false}
use lib.Dec.{leb, eqb}
use lib.ListN.{length, get_or}
use Rattle.definition.specs.Bytes.{mixed}
use Rattle.definition.specs.Limits.{open_groups}
use Rattle.definition.specs.Tokens as Tk
use Rattle.definition.specs.Tokens.{Lexeme, is_word, is_sign, token_at, Piece, piece_at, TextEnd, percent_at, at_end, open_at, text_end}
use Rattle.definition.specs.Expressions.{Reading, read, refused, Named, name_of}
use Rattle.definition.specs.Program as P
use Rattle.definition.specs.Statements as St
use Rattle.definition.specs.Reading as D
use Rattle.definition.specs.World.{row_of}
use Rattle.definition.proofs.Choices.{when_has, cond_has}
use Rattle.definition.proofs.Ends.{piece_at_past}
use Rattle.definition.proofs.Texts.{first, behind, leading, text_inside}
use Rattle.openings.specs.Open.{parent_in, role_in, linked_in}
use Rattle.openings.proofs.Stacked.{row_added}
use Rattle.reading.specs.State.{state_in}
use Rattle.reading.proofs.Bounds.{InTurn, turn_in}
use Rattle.reading.proofs.Walking.{Statements, by_token_lem, too_long_lem}

-- A STRETCH of the body s, in order
pub record Ordered (s : List ℕ) (x : P.Stretch) : Type 0 where
  pub order : x.from ≤ x.to
  pub within : x.to ≤ length s

-- ---- the order alone, of all texts of a state
abbrev RowTexts : P.Row → Type 0
RowTexts r = (r.lead.from ≤ r.lead.to) × (r.text.from ≤ r.text.to)

abbrev AllTexts : List P.Row → Type 0
AllTexts [] = Unit {0}
AllTexts (r ∷ rs) = RowTexts r × AllTexts rs

abbrev Texts : D.State → Type 0
Texts st = (st.lead.from ≤ st.lead.to) × AllTexts st.rows

abbrev TextsIn : D.Turn → Type 0
TextsIn X = Texts (state_in X)

change_texts : (k : ℕ) (g : P.Row → P.Row) → ((r : P.Row) → RowTexts r → RowTexts (g r)) → (rs : List P.Row) → AllTexts rs → AllTexts (D.change k g rs)
unfolding D.change
change_texts k g f [] h = tt
change_texts zero g f (r ∷ rs) h = (f r h.0, h.1)
change_texts (suc k) g f (r ∷ rs) h = (h.0, change_texts k g f rs h.1)

more_texts : (rs : List P.Row) (r : P.Row) → AllTexts rs → RowTexts r → AllTexts (rs ++ r ∷ [])
more_texts [] r h i = (i, tt)
more_texts (x ∷ rs) r h i = (h.0, more_texts rs r h.1 i)

-- ---- a new row has no text yet, and links change none
last_texts : (n : ℕ) (l : P.Link) (f : List P.Row → List P.Row) (rs : List P.Row) → AllTexts rs → AllTexts (f rs) → AllTexts (D.linked n l f rs)
last_texts n P.nowhere f rs h i = i
last_texts n (P.row k) f rs h i = change_texts k (D.set_next n) (λ r t. t) rs h

linked_texts : (w : D.Where) (o : D.Open) (n : ℕ) (rs : List P.Row) → AllTexts rs → AllTexts (linked_in w o n rs)
linked_texts D.in_program o n rs h = last_texts n o.last (λ xs. xs) rs h h
linked_texts D.in_group o n rs h = last_texts n o.last (D.change o.row (D.set_child n)) rs h (change_texts o.row (D.set_child n) (λ r t. t) rs h)
linked_texts D.in_body o n rs h = last_texts n o.last (D.change o.row (D.set_child n)) rs h (change_texts o.row (D.set_child n) (λ r t. t) rs h)
linked_texts D.in_then o n rs h = change_texts o.row (D.set_child n) (λ r t. t) rs h
linked_texts D.in_else o n rs h = change_texts o.row (D.set_other n) (λ r t. t) rs h

add_in_lem : (w : D.Where) (o : D.Open) (os : List D.Open) (y : P.Statement) (p : ℕ) (st : D.State) → Texts st → Texts (D.add_in w o os y p st)
add_in_lem w o os y p st h =
    let n : ℕ = length st.rows in
    subst (λ (z : D.State). Texts z) (sym (row_added w o os y p st)) (h.0, more_texts (linked_in w o n st.rows) (D.new_row y p (parent_in w o.row) (role_in w)) (linked_texts w o n st.rows h.1) (omega arith))

add_to_lem : (L : List D.Open) (y : P.Statement) (p : ℕ) (st : D.State) → Texts st → Texts (D.add_to L y p st)
add_to_lem [] y p st h = h
add_to_lem (o ∷ os) y p st h = add_in_lem o.kind o os y p st h

-- ---- turns over the body s
module _ (s : List ℕ) where
  -- behind a statement
  elsed_texts : (E : D.Else) (i : ℕ) (os : List D.Open) (st : D.State) (up : Unit {0} → D.Turn) → Texts st → TextsIn (up tt) → TextsIn (D.elsed E i os st up)
  elsed_texts (D.else_to q) i os st up h k = h
  elsed_texts D.no_else i os st up h k = k

  in_texts : (w : D.Where) (i : ℕ) (os : List D.Open) (n e : ℕ) (st : D.State) (up : ℕ → D.Turn) → Texts st → TextsIn (up i) → TextsIn (D.complete_in mixed w s i os n e st up)
  in_texts D.in_program i os n e st up h k = h
  in_texts D.in_group i os n e st up h k = h
  in_texts D.in_body i os n e st up h k = h
  in_texts D.in_then i os n e st up h k = elsed_texts (D.else_at mixed (D.is_inside st.scope) s e) i os st (λ _. up i) h k
  in_texts D.in_else i os n e st up h k = k

  complete_texts : (os : List D.Open) (n e : ℕ) (st : D.State) → Texts st → TextsIn (D.complete mixed s os n e st)
  unfolding D.complete
  complete_texts [] n e st h = h
  complete_texts (o ∷ os) n e st h = in_texts o.kind o.row os n e (D.with_opened (o ∷ os) st.scope st) (λ i. D.complete mixed s os i e st) h (complete_texts os o.row e st h)

  opened_texts : (o : St.Opens) (n : ℕ) (ns : List Named) (e : ℕ) (st : D.State) → Texts st → TextsIn (D.opened mixed o s n ns e st)
  opened_texts St.opens_nothing n ns e st h = complete_texts st.opened n e st h
  opened_texts St.opens_group n ns e st h = h
  opened_texts St.opens_body n ns e st h = h
  opened_texts St.opens_then n ns e st h = h

  taken_texts : (p : ℕ) (ns : List Named) (st : D.State) (c : St.Clause) (es : List P.Declared) → Texts st → TextsIn (D.taken mixed s p ns st c es)
  unfolding D.taken D.add_row
  taken_texts p ns st c es h =
      let ms : List P.Declared = St.means st.scope (D.label_meaning c.opens (length st.rows)) ns ++ es in
      opened_texts c.opens (length st.rows) ns c.to (D.with_names ms (D.add_to st.opened c.statement p st)) (add_to_lem st.opened c.statement p st h)

  -- END, and the statements of a clause
  end_read_lem : (ns : List Named) (o : D.Open) (os : List D.Open) (st : D.State) (R : Reading ℕ) → Texts st → TextsIn (D.end_read mixed s ns o os st R)
  end_read_lem ns o os st (read e) h = complete_texts os o.row e (D.with_opened os (D.scope_out o.kind st.scope) (D.with_names (St.means st.scope (P.end_label o.row) ns) st)) h
  end_read_lem ns o os st (refused w q) h = h

  end_at_lem : (ns : List Named) (at : ℕ) (L : List D.Open) (st : D.State) → Texts st → TextsIn (D.end_at mixed s ns at L st)
  end_at_lem ns at [] st h = h
  end_at_lem ns at (o ∷ os) st h = end_read_lem ns o os st (D.end_name mixed s o.labels at) h

  begin : (p : ℕ) (ns : List Named) (st : D.State) → Texts st → Statements s p ns st TextsIn
  begin p ns st h = record { takes = λ k c es o r l. taken_texts p ns st c es h; refuses = λ w q es l. h }

  clause_texts : (p : ℕ) (L : D.Labelled) (st : D.State) → Texts st → TextsIn (D.clause_from mixed s p L st)
  unfolding D.clause_from
  clause_texts p L st h =
      when_has TextsIn (D.is_in_group (D.kind_of st.opened) && D.is_end mixed s L.behind) _ _ (λ _. too_long_lem TextsIn L.long _ _ (λ q. h) (end_at_lem L.labels L.behind.to st.opened st h)) λ _.
      when_has TextsIn (D.is_full st) _ _ (λ _. h) λ _.
      too_long_lem TextsIn L.long _ _ (λ q. h) (by_token_lem s p L.labels st TextsIn (begin p L.labels st h) L.behind.token L.behind)

  -- ---- a text that begins at a place ends at none before it
  abbrev EndsFrom : ℕ → TextEnd → Type 0
  EndsFrom at (percent_at p) = at ≤ p
  EndsFrom at at_end = Unit {0}
  EndsFrom at (open_at p) = at ≤ p

  text_on_lem : (x : Piece) (at p q : ℕ) (f : ℕ → TextEnd) → at ≤ p → EndsFrom at (f q) → EndsFrom at (Tk.text_on x p q f)
  text_on_lem (Tk.name w) at p q f h k = k
  text_on_lem Tk.plain at p q f h k = k
  text_on_lem Tk.unclosed at p q f h k = h

  text_from : (f at p : ℕ) → at ≤ p → EndsFrom at (text_end mixed f s p)
  unfolding text_end
  text_from zero at p h = tt
  text_from (suc f) at p h =
      when_has (EndsFrom at) (leb (length s) p) _ _ (λ _. tt) λ e.
      when_has (EndsFrom at) (eqb (get_or s p 0) (code "%")) _ _ (λ _. h) λ _.
      text_on_lem (piece_at mixed s p).piece at p (piece_at mixed s p).to (text_end mixed f s) h (text_from f at (piece_at mixed s p).to (omega (arith, h, (piece_at_past s p (leb-false (length s) p e)).above)))

  texted_texts : (at : ℕ) → at ≤ length s → (E : TextEnd) → EndsFrom at E → (f : ℕ → D.State) → ((p : ℕ) → at ≤ p → Texts (f p)) → TextsIn (D.texted mixed E s f)
  texted_texts at l (percent_at p) e f h = clause_texts p (D.labels mixed s (p + 1)) (f p) (h p e)
  texted_texts at l at_end e f h = cond_has TextsIn (leb (length (f 0).opened) 1) _ _ (λ _. h (length s) l) λ _. h (length s) l
  texted_texts at l (open_at p) e f h = h p e

  lead_by_lem : (w : D.Where) (i : ℕ) (k : P.Link) (bs : List (List ℕ)) (os : List D.Open) (a b : ℕ) (st : D.State) → a ≤ b → Texts st → Texts (D.lead_in (record { kind = w; row = i; last = k; labels = bs } ∷ os) a b st)
  lead_by_lem D.in_program i k bs os a b st l h = (l, h.1)
  lead_by_lem D.in_group i k bs os a b st l h = (h.0, change_texts i (D.set_lead (D.stretch a b)) (λ r t. (l, t.1)) st.rows h.1)
  lead_by_lem D.in_body i k bs os a b st l h = h
  lead_by_lem D.in_then i k bs os a b st l h = h
  lead_by_lem D.in_else i k bs os a b st l h = h

  lead_texts : (L : List D.Open) (a b : ℕ) (st : D.State) → a ≤ b → Texts st → Texts (D.lead_in L a b st)
  lead_texts [] a b st l h = h
  lead_texts (o ∷ os) a b st l h = lead_by_lem o.kind o.row o.last o.labels os a b st l h

  -- ---- in a procedure, and an alternative
  not_end_lem : (n : Reading Named) (st : D.State) → Texts st → TextsIn (D.not_end mixed n s st)
  not_end_lem (read n) st h = h
  not_end_lem (refused w p) st h = h

  procedure_end_lem : (L : D.Labelled) (st : D.State) → Texts st → TextsIn (D.procedure_end mixed s L st)
  procedure_end_lem L st h =
      too_long_lem TextsIn L.long _ _ (λ q. h)
      (when_has TextsIn (is_word "END" L.behind.token) _ _ (λ _. end_at_lem L.labels L.behind.to st.opened st h) λ _.
      not_end_lem (name_of L.behind.token L.behind.from L.behind.to) (D.named L.labels st) h)

  inner_texts : (at : ℕ) (t : Lexeme) (st : D.State) → Texts st → TextsIn (D.inner_at mixed s at t st)
  unfolding D.inner_at
  inner_texts at t st h =
      when_has TextsIn (D.is_in_body (D.kind_of st.opened) && is_sign "%" t.token) _ _ (λ _. procedure_end_lem (D.labels mixed s t.to) st h) λ _.
      when_has TextsIn (D.begins t.token) _ _ (λ _. clause_texts t.from (D.labels mixed s at) st h) λ _. h

  deep_texts : (p at : ℕ) (st : D.State) → Texts st → TextsIn (D.deep_enough p st (λ _. D.clause_at mixed s p at st))
  unfolding D.deep_enough
  deep_texts p at st h = when_has TextsIn (leb (D.depth st.opened) open_groups) _ _ (λ _. clause_texts p (D.labels mixed s at) st h) λ _. h

  alternative_texts : (j : P.Scope) (at : ℕ) (t : Lexeme) (st : D.State) → Texts st → TextsIn (D.alternative_at mixed j s at t st)
  alternative_texts P.global at t st h = when_has TextsIn (is_sign "%" t.token) _ _ (λ _. deep_texts t.from t.to st h) λ _. h
  alternative_texts (P.inside r) at t st h = when_has TextsIn (D.begins t.token) _ _ (λ _. deep_texts t.from at st h) λ _. h

  -- ---- EVERY TURN from a place in the body
  turn_texts : (m : D.Mode) (at : ℕ) (st : D.State) → at ≤ length s → Texts st → TextsIn (D.turn mixed s m at st)
  unfolding D.turn
  turn_texts D.leading_text at st l h = texted_texts at l (text_end mixed (suc (length s)) s at) (text_from (suc (length s)) at at (omega arith)) (λ p. D.lead_in st.opened at p st) λ p k. lead_texts st.opened at p st k h
  turn_texts (D.text_behind n) at st l h =
      texted_texts at l (text_end mixed (suc (length s)) s at) (text_from (suc (length s)) at at (omega arith)) (λ p. D.with_rows (D.change n (D.set_text (D.stretch at p)) st.rows) st) λ p k.
      (h.0, change_texts n (D.set_text (D.stretch at p)) (λ r t. (t.0, k)) st.rows h.1)
  turn_texts D.alternative at st l h = alternative_texts st.scope at (token_at mixed s at) st h
  turn_texts D.inner at st l h = inner_texts at (token_at mixed s at) st h

  -- ---- THE MEMBER
  abbrev SourceTexts : P.Source → Type 0
  SourceTexts x = (x.lead.from ≤ x.lead.to) × AllTexts x.rows

  read_texts : (f : ℕ) (X : D.Turn) → InTurn s X → TextsIn X → SourceTexts (D.read_on mixed s f X)
  unfolding D.read_on
  read_texts zero (D.go m at st) i h = h
  read_texts zero (D.stop w p begun st) i h = h
  read_texts zero (D.finish st) i h = h
  read_texts (suc f) (D.go m at st) i h = read_texts f (D.turn mixed s m at st) (turn_in s m at st i) (turn_texts m at st i h)
  read_texts (suc f) (D.stop w p begun st) i h = h
  read_texts (suc f) (D.finish st) i h = h

  member_texts : SourceTexts (D.read_member mixed s)
  unfolding D.read_member
  member_texts = read_texts (suc (suc (length s))) (D.go D.leading_text 0 D.start) (omega arith) (omega arith, tt)

row_texts : (rs : List P.Row) (n : ℕ) → AllTexts rs → RowTexts (row_of rs n)
row_texts [] n h = omega arith
row_texts (r ∷ rs) zero h = h.0
row_texts (r ∷ rs) (suc n) h = row_texts rs n h.1

-- the text behind a row, that of a group, and that of the member; past the rows there is none
pub text_ordered : (s : List ℕ) (n : ℕ) → Ordered s (row_of (D.read_member mixed s).rows n).text
text_ordered s n = record { order = (row_texts (D.read_member mixed s).rows n (member_texts s).1).1; within = text_inside s (behind n) }

pub lead_ordered : (s : List ℕ) (n : ℕ) → Ordered s (row_of (D.read_member mixed s).rows n).lead
lead_ordered s n = record { order = (row_texts (D.read_member mixed s).rows n (member_texts s).1).0; within = text_inside s (leading n) }

pub member_ordered : (s : List ℕ) → Ordered s (D.read_member mixed s).lead
member_ordered s = record { order = (member_texts s).0; within = text_inside s first }
