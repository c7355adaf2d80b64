-- END: its labels are entered, and what it ends is left, or the reading stops. One law for each way out.
-- Assumes nothing.
use Rattle.expressions.specs.Types.{Expected, NamedAt}
use Rattle.std.proofs.Common.{Some, None, Ok, Err}
use mathlib.Core.Path.{◌≡◌, refl, sym, ap, subst, ◌∙◌}
use mathlib.Core.Bool.{Bool, true, false, ◌||◌, false≢true}
use mathlib.Core.List.{List, [], ◌∷◌}
use Prim.Native.Nat.{ℕ, ◌+◌, ◌≤◌}
use native.Mathlib.Omega.{arith}
use Rattle.definition.specs.Bytes.{mixed}
use Rattle.definition.specs.Tokens.{token_at}
use Rattle.definition.specs.Expressions.{Reading, read, refused, Named, name_at}
use Rattle.definition.specs.Program as P
use Rattle.definition.specs.Statements as St
use Rattle.definition.specs.Reading as D
use Rattle.definition.specs.declared.Why.{Why}
use Rattle.definition.specs.declared.Why.TheVariants.{Syntax, OverLimit}
use Rattle.tokens.specs.declared.Lexeme.{Lexeme}
use Rattle.tokens.specs.Answer.{Lexed, is_word_in}
use Rattle.expressions.specs.Check.{expect_for, named_for}
use Rattle.names.specs.declared.Owner.{Owner}
use Rattle.entering.specs.declared.Tally.{Tally}
use Rattle.entering.specs.declared.Meaning.{Meaning}
use Rattle.entering.specs.declared.Meaning.TheVariants as M
use Rattle.entering.specs.Book.{Book, Entered, book_all, book_whole, book_of, meaning_of}
use Rattle.statements.specs.Clauses.{scope_of, Own}
use Rattle.openings.specs.declared.Open.{Open}
use Rattle.openings.specs.declared.Opened.{Opened}
use Rattle.openings.specs.declared.Labels.{Labels}
use Rattle.openings.specs.Open.{where_of, open_of, opened_of, top_in, rest_of, labelled, Popped, ScopeOut, LabelsAt}
use Rattle.openings.proofs.Stacked.{opened_split}
use Rattle.openings.proofs.Sentences.{procedure_end_long, procedure_end_lem, procedure_not_end, end_past, end_refused}
use Rattle.reading.specs.declared.State.{State}
use Rattle.reading.specs.declared.Next.{Next}
use Rattle.reading.specs.declared.Next.TheVariants as Nx
use Rattle.reading.specs.declared.Turned.{Turned}
use Rattle.reading.specs.State.{rows_from, state_of, turn_of, Around, Stand, with_opened, with_scope, with_tally, turned, Ends, Sits, Does, Fits, early, does, Takes, from_state}
use Rattle.reading.specs.Labelled.{LabelsIf}
use Rattle.reading.proofs.Rows.{rows_length, marks_none}
use Rattle.reading.proofs.Parameters.{AllPlain, whole_all, plain_means}
use Rattle.reading.specs.Sentences.{not_end_next, EndsLong, EndsAt, EndsBody}

-- ---- a turn that goes on, with these declarations
abbrev pub Onward : List P.Declared → D.Turn → Type 0
Onward ds (D.go m at st) = st.declared ≡ ds
Onward ds (D.stop w p begun st) = ⊥
Onward ds (D.finish st) = st.declared ≡ ds

pub fits_onward : (entered : ℕ) (ds : List P.Declared) (X : D.Turn) → Onward ds X → Fits entered X
fits_onward entered ds (D.go m at st) h = tt
fits_onward entered ds (D.stop w p begun st) h = absurd h
fits_onward entered ds (D.finish st) h = tt

pub does_onward : (d s n : List ℕ) (x : State) (t' n' : List ℕ) (r : Turned) (ds : List P.Declared) (X : D.Turn) → Onward ds X → turn_of s t' ds r ≡ X
    → Entered d n x.tally (book_whole x.tally.member [] ds) n' r.state.tally → Does d s n x.tally X t' n' r
does_onward d s n x t' n' r ds (D.go m at st) h e f = record {
  turn = subst (λ (es : List P.Declared). turn_of s t' es r ≡ D.go m at st) (sym h) e;
  entered = subst (λ (es : List P.Declared). Entered d n x.tally (book_whole x.tally.member [] es) n' r.state.tally) (sym h) f;
}
does_onward d s n x t' n' r ds (D.stop w p begun st) h e f = absurd h
does_onward d s n x t' n' r ds (D.finish st) h e f = record {
  turn = subst (λ (es : List P.Declared). turn_of s t' es r ≡ D.finish st) (sym h) e;
  entered = subst (λ (es : List P.Declared). Entered d n x.tally (book_whole x.tally.member [] es) n' r.state.tally) (sym h) f;
}

module _ (s : List ℕ) (e : ℕ) where
  elsed_onward : (E : D.Else) (i : ℕ) (os : List D.Open) (st : D.State) (up : Unit {0} → D.Turn) → Onward st.declared (up tt) → Onward st.declared (D.elsed E i os st up)
  elsed_onward (D.else_to q) i os st up h = refl
  elsed_onward D.no_else i os st up h = h

  in_onward : (w : D.Where) (i : ℕ) (os : List D.Open) (n : ℕ) (st : D.State) (up : ℕ → D.Turn) → Onward st.declared (up i) → Onward st.declared (D.complete_in mixed w s i os n e st up)
  in_onward D.in_program i os n st up h = refl
  in_onward D.in_group i os n st up h = refl
  in_onward D.in_body i os n st up h = refl
  in_onward D.in_then i os n st up h = elsed_onward (D.else_at mixed (D.is_inside st.scope) s e) i os st (λ _. up i) h
  in_onward D.in_else i os n st up h = h

  pub complete_onward : (os : List D.Open) (n : ℕ) (st : D.State) → Onward st.declared (D.complete mixed s os n e st)
  unfolding D.complete
  complete_onward [] n st = refl
  complete_onward (o ∷ os) n st = in_onward o.kind o.row os n (D.with_opened (o ∷ os) st.scope st) (λ i. D.complete mixed s os i e st) (complete_onward os o.row st)

-- names of which none is a parameter
pub entered_plain : (d n : List ℕ) (x : Tally) (ds : List P.Declared) (n' : List ℕ) (y : Tally) → AllPlain ds → Entered d n x (book_all x.member ds) n' y → Entered d n x (book_whole x.member [] ds) n' y
entered_plain d n x ds n' y p h = record { book = h.book ∙ sym (whole_all x.member [] ds (book_of d n x) p); roomy = h.roomy; member = h.member; base = h.base }

-- ---- a group or a body stands in something
around_closed : (w : D.Where) (A : Type 0) → (D.is_in_group w || D.is_in_body w) ≡ true → Around w A → A
around_closed D.in_program A e a = absurd (false≢true e)
around_closed D.in_group A e a = a
around_closed D.in_body A e a = a
around_closed D.in_then A e a = absurd (false≢true e)
around_closed D.in_else A e a = absurd (false≢true e)

rest_stands : (m : ℕ) (L : List D.Open) → (D.is_in_group (D.kind_of L) || D.is_in_body (D.kind_of L)) ≡ true → Stand m L → Stand m (rest_of L)
rest_stands m [] e h = absurd h
rest_stands m (o ∷ os) e h = around_closed o.kind (Stand m os) e h.1

-- ---- a stop behind labels that were entered
module _ (d s n : List ℕ) (x : State) (labels : ℕ) (g : Meaning) (n' : List ℕ) (y : State) (h : LabelsIf d s n x labels g n' y) where
  pub stops_named : (t : List ℕ) (w : Why) (q : ℕ) (r : Turned) → r ≡ turned y (Nx.Stop w q) → Sits d s t n x
      → Takes d s t n x (D.stop w q [] (D.with_names (St.means (scope_of x.scope) (meaning_of g) (D.labels mixed s labels).labels) (from_state s t x))) t n' r
  unfolding state_of
  stops_named t w q r hr i = rw hr (record {
    way = does (early (omega (arith, rows_length s t 0 x.rows, i.few))) (record {
      next = refl;
      rows = ap (λ (z : State). rows_from s t 0 z.rows) h.rest;
      names = ap (λ (b : Book). b.identifiers) (h.names.is i.ready).book;
      past = ap (λ (b : Book). b.past) (h.names.is i.ready).book;
    });
    before = ap (λ (z : State). z.entered) h.rest;
    few = subst (λ (z : State). z.entered + z.rows ≤ 2048) (sym h.rest) i.few;
    own = subst (λ (z : State). Own x.tally.member z.scope) (sym h.rest) i.ready.own;
    size = refl;
    marks = marks_none s t x.rows x.opened y.rows (omega (arith, ap (λ (z : State). z.rows) h.rest));
  })

pub ends_long : (d s n : List ℕ) (x : State) (labels q : ℕ) (n' : List ℕ) (y : State) (r : Turned) → LabelsIf d s n x labels (M.LabelAt 0) n' y → r ≡ turned y (Nx.Stop OverLimit q) → EndsLong d s n x labels q n' r
unfolding state_of
ends_long d s n x labels q n' y r h e = record { so = λ t i. stops_named d s n x labels (M.LabelAt 0) n' y h t OverLimit q r e i }

-- ---- a word that is not END
module _ (s : List ℕ) (x : State) (at : ℕ) (a : NamedAt) (h : a ≡ named_for (name_at mixed s at)) (r : Turned) where
  next_name_lem : (R : Reading Named) (from to : ℕ) → a ≡ named_for R → a ≡ Ok (from, to) → Nx.Stop Syntax (token_at mixed s to).from ≡ not_end_next s R
  next_name_lem (read n) from to f e = let z : (from, to) ≡ (n.place, n.to) = cc in ap (λ (p : ℕ × ℕ). Nx.Stop Syntax (token_at mixed s p.1).from) z
  next_name_lem (refused w p) from to f e = let z : ◌≡◌ {A = ℕ} 0 1 = cc in absurd (omega arith)

  next_refused : (R : Reading Named) (w : Why) (p : ℕ) → a ≡ named_for R → a ≡ Err (w, p) → Nx.Stop w p ≡ not_end_next s R
  next_refused (read n) w p f e = let z : ◌≡◌ {A = ℕ} 0 1 = cc in absurd (omega arith)
  next_refused (refused v q) w p f e = let z : (w, p) ≡ (v, q) = cc in ap (λ (f : Why × ℕ). Nx.Stop f.0 f.1) z

  pub not_end_word : (from to : ℕ) (u : Lexeme) → a ≡ Ok (from, to) → Lexed s to u → r ≡ turned x (Nx.Stop Syntax u.from) → r ≡ turned x (not_end_next s (name_at mixed s at))
  not_end_word from to u e l f = f ∙ ap (λ (q : ℕ). turned x (Nx.Stop Syntax q)) l.from ∙ ap (λ (z : Next). turned x z) (next_name_lem (name_at mixed s at) from to h e)

  pub not_end_no_name : (w : Why) (p : ℕ) → a ≡ Err (w, p) → r ≡ turned x (Nx.Stop w p) → r ≡ turned x (not_end_next s (name_at mixed s at))
  not_end_no_name w p e f = f ∙ ap (λ (z : Next). turned x z) (next_refused (name_at mixed s at) w p h e)

-- what the definition does then
not_end_is : (s : List ℕ) (R : Reading Named) (st : D.State) (G : D.Turn → Type 0) → ((w : Why) (q : ℕ) → not_end_next s R ≡ Nx.Stop w q → G (D.stop w q [] st)) → G (D.not_end mixed R s st)
not_end_is s (read n) st G h = h Syntax (token_at mixed s n.to).from refl
not_end_is s (refused w p) st G h = h w p refl

-- ---- END, from behind it
module _ (d s n : List ℕ) (x : State) (labels at : ℕ) (n' : List ℕ) (o : Open) (ho : o ≡ top_in x.opened.items x.opened.count) (a : Expected) (ha : a ≡ expect_for (D.end_name mixed s (labelled s o.labels) at)) (r : Turned) where
  abbrev ended : List P.Declared
  ended = St.means (scope_of x.scope) (P.end_label o.row) (D.labels mixed s labels).labels

  split : (t : List ℕ) → Sits d s t n x → opened_of s x.opened ≡ open_of s o ∷ rest_of (opened_of s x.opened)
  split t i = opened_split s x.opened o i.placed.some ho

  closed : (t : List ℕ) → Sits d s t n x → (D.is_in_group (D.kind_of (opened_of s x.opened)) || D.is_in_body (D.kind_of (opened_of s x.opened))) ≡ true → (D.is_in_group (where_of o.kind) || D.is_in_body (where_of o.kind)) ≡ true
  unfolding open_of
  closed t i e = subst (λ (L : List D.Open). (D.is_in_group (D.kind_of L) || D.is_in_body (D.kind_of L)) ≡ true) (split t i) e

  module _ (y : State) (h : LabelsIf d s n x labels (M.EndLabelAt o.row) n' y) where
    pub end_stops : (w : Why) (q : ℕ) → a ≡ Err (w, q) → r ≡ turned y (Nx.Stop w q) → EndsAt d s n x labels at n' r
    unfolding state_of
    end_stops w q e hr = record {
      so = λ t i c.
          let X : D.Turn = D.end_at mixed s (D.labels mixed s labels).labels at (open_of s o ∷ rest_of (opened_of s x.opened)) (from_state s t x) in
          let f : X ≡ D.stop w q [] (D.with_names ended (from_state s t x)) = end_refused s (D.labels mixed s labels).labels at o (rest_of (opened_of s x.opened)) (from_state s t x) (closed t i c) a ha w q e in
          subst (λ (z : D.Turn). Takes d s t n x z t n' r)
          (sym (ap (λ (L : List D.Open). D.end_at mixed s (D.labels mixed s labels).labels at L (from_state s t x)) (split t i) ∙ f))
          (stops_named d s n x labels (M.EndLabelAt o.row) n' y h t w q r hr i);
    }

    -- the state that is left
    abbrev left : Tally → Owner → Opened → State
    left z k c = with_opened (with_scope (with_tally x z) k) c

    module _ (e : ℕ) (he : a ≡ Ok e) (z : Tally) (k : Owner) (hk : ScopeOut o.kind x.scope k) (c : Opened) (hc : Popped x.opened c) (f : Ends s (left z k c) o.row e r) where
      module _ (t : List ℕ) (i : Sits d s t n x) (b : (D.is_in_group (D.kind_of (opened_of s x.opened)) || D.is_in_body (D.kind_of (opened_of s x.opened))) ≡ true) where
        abbrev os : List D.Open
        os = rest_of (opened_of s x.opened)

        turns : turn_of s t ended r ≡ D.end_at mixed s (D.labels mixed s labels).labels at (opened_of s x.opened) (from_state s t x)
        unfolding state_of
        turns =
            f.is t ended x.rows (subst (λ (L : List D.Open). Stand x.rows L) (sym (hc.is s)) (rest_stands x.rows (opened_of s x.opened) b i.placed.stand)) (omega (arith, hc.count, i.placed.deep))
            ∙ ap (λ (L : List D.Open). D.complete mixed s L o.row e (D.with_opened L (scope_of k) (state_of s t ended x))) (hc.is s)
            ∙ ap (λ (u : P.Scope). D.complete mixed s os o.row e (D.with_opened os u (state_of s t ended x))) hk.is
            ∙ sym (end_past s (D.labels mixed s labels).labels at o os (from_state s t x) (closed t i b) a ha e he)
            ∙ sym (ap (λ (L : List D.Open). D.end_at mixed s (D.labels mixed s labels).labels at L (from_state s t x)) (split t i))

        onward : Onward ended (D.end_at mixed s (D.labels mixed s labels).labels at (opened_of s x.opened) (from_state s t x))
        unfolding state_of
        onward = subst (λ (X : D.Turn). Onward ended X)
            (sym (ap (λ (L : List D.Open). D.end_at mixed s (D.labels mixed s labels).labels at L (from_state s t x)) (split t i) ∙ end_past s (D.labels mixed s labels).labels at o os (from_state s t x) (closed t i b) a ha e he))
            (complete_onward s e os o.row (D.with_opened os (D.scope_out (where_of o.kind) (scope_of x.scope)) (D.with_names ended (from_state s t x))))

        takes : Entered d n x.tally (book_all x.tally.member ended) n' z → Takes d s t n x (D.end_at mixed s (D.labels mixed s labels).labels at (opened_of s x.opened) (from_state s t x)) t n' r
        takes g = record {
          way = does (fits_onward x.entered ended (D.end_at mixed s (D.labels mixed s labels).labels at (opened_of s x.opened) (from_state s t x)) onward) (does_onward d s n x t n' r ended (D.end_at mixed s (D.labels mixed s labels).labels at (opened_of s x.opened) (from_state s t x)) onward turns (subst (λ (u : Tally). Entered d n x.tally (book_whole x.tally.member [] ended) n' u) (sym f.keeps.tally) (entered_plain d n x.tally ended n' z (plain_means (scope_of x.scope) (P.end_label o.row) (D.labels mixed s labels).labels refl) g)));
          before = f.keeps.entered;
          few = omega (arith, f.keeps.entered, f.rows, i.few);
          own = subst (λ (m : ℕ). Own m r.state.scope) g.member (f.keeps.own (hk.own z.member (subst (λ (m : ℕ). Own m x.scope) (sym g.member) i.ready.own)));
          size = refl;
          marks = marks_none s t x.rows x.opened r.state.rows (omega (arith, f.rows));
        }

    leaves : (e : ℕ) → a ≡ Ok e → (k : Owner) → ScopeOut o.kind y.scope k → (z : State) → z ≡ with_scope y k → (c : Opened) → Popped z.opened c → (v : State) → v ≡ with_opened z c → Ends s v o.row e r → EndsAt d s n x labels at n' r
    leaves e he k hk z hz c hc v hv f =
        let o₁ : z.opened ≡ x.opened = ap (λ (u : State). u.opened) (hz ∙ ap (λ (u : State). with_scope u k) h.rest) in
        let k₁ : y.scope ≡ x.scope = ap (λ (u : State). u.scope) h.rest in
        let v₁ : v ≡ left y.tally k c = hv ∙ ap (λ (u : State). with_opened u c) hz ∙ ap (λ (u : State). with_opened (with_scope u k) c) h.rest in
        record { so = λ t i b. takes e he y.tally k (subst (λ (u : Owner). ScopeOut o.kind u k) k₁ hk) c (subst (λ (u : Opened). Popped u c) o₁ hc) (subst (λ (u : State). Ends s u o.row e r) v₁ f) t i b (h.names.is i.ready) }

pub end_goes : (d s n : List ℕ) (x : State) (labels at : ℕ) (n' : List ℕ) (r : Turned) (o : Open) → o ≡ top_in x.opened.items x.opened.count → (y : State) → LabelsIf d s n x labels (M.EndLabelAt o.row) n' y
    → (v : State) (e : ℕ) → Ends s v o.row e r → (z : State) (c : Opened) → v ≡ with_opened z c → (k : Owner) → z ≡ with_scope y k → Popped z.opened c → ScopeOut o.kind y.scope k
    → (a : Expected) → a ≡ expect_for (D.end_name mixed s (labelled s o.labels) at) → a ≡ Ok e → EndsAt d s n x labels at n' r
end_goes d s n x labels at n' r o ho y h v e f z c hv k hz hc hk a ha he = leaves d s n x labels at n' o ho a ha r y h e he k hk z hz c hc v hv f

-- ---- END of a procedure
or_right : (a b : Bool) → b ≡ true → (a || b) ≡ true
or_right true b e = refl
or_right false b e = e

module _ (d s n : List ℕ) (x : State) (at : ℕ) (n' : List ℕ) (l : Labels) (hl : LabelsAt s at l) (u : Lexeme) (lex : Lexed s l.to u) (r : Turned) where
  pub body_long : (q : ℕ) → l.long ≡ Some q → EndsLong d s n x at q n' r → EndsBody d s n x at n' r
  body_long q e h = record { so = λ t i b. subst (λ (X : D.Turn). Takes d s t n x X t n' r) (sym (procedure_end_long s (from_state s t x) at l hl u lex q e)) (h.so t i) }

  module _ (e : l.long ≡ None) (v : Bool) (hv : v ≡ is_word_in s u (69 ∷ 78 ∷ 68 ∷ [])) where
    pub body_end : v ≡ true → EndsAt d s n x at u.to n' r → EndsBody d s n x at n' r
    unfolding state_of
    body_end f h = record {
      so = λ t i b. subst (λ (X : D.Turn). Takes d s t n x X t n' r) (sym (procedure_end_lem s (from_state s t x) at l hl u lex e (sym hv ∙ f)))
          (h.so t i (or_right (D.is_in_group (D.kind_of (opened_of s x.opened))) (D.is_in_body (D.kind_of (opened_of s x.opened))) b));
    }

    pub body_other : v ≡ false → (y : State) → LabelsIf d s n x at (M.LabelAt 0) n' y → r ≡ turned y (not_end_next s (name_at mixed s l.to)) → EndsBody d s n x at n' r
    unfolding state_of
    body_other f y h hr = record {
      so = λ t i b. subst (λ (X : D.Turn). Takes d s t n x X t n' r) (sym (procedure_not_end s (from_state s t x) at l hl u lex e (sym hv ∙ f)))
          (not_end_is s (name_at mixed s l.to) (D.named (D.labels mixed s at).labels (from_state s t x)) (λ X. Takes d s t n x X t n' r)
          (λ w q k. stops_named d s n x at (M.LabelAt 0) n' y h t w q r (hr ∙ ap (λ (c : Next). turned y c) k) i));
    }
