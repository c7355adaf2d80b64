-- The definition only appends declarations: what a turn does from a state with declarations is what it does from the state with
-- none, with those in front. So a run of turns declares what its turns do, each begun with none.
-- Assumes nothing.
use Prim.Native.Nat.{ℕ, zero, suc, ◌+◌}
use mathlib.Core.Bool.{Bool, true, false, cond, not, ◌&&◌, ◌||◌}
use mathlib.Core.List.{List, [], ◌∷◌, ◌++◌, append_assoc, append-nil}
use mathlib.Core.Path.{◌≡◌, refl, sym, ap, ◌∙◌}
use lib.Dec.{leb}
use lib.ListN.{length}
use Rattle.definition.specs.Bytes.{mixed}
use Rattle.definition.specs.Choice.{when}
use Rattle.definition.specs.Limits.{open_groups}
use Rattle.definition.specs.declared.Why.{Why}
use Rattle.definition.specs.declared.Why.TheVariants.{Syntax, OverLimit}
use Rattle.definition.specs.Tokens.{Token, word, integer, string, bits, sign, nothing, wrong, Lexeme, is_word, is_sign, token_at, TextEnd, percent_at, at_end, open_at, text_end}
use Rattle.definition.specs.Expressions.{Reading, read, refused, Named, name_of}
use Rattle.definition.specs.Program.{Statement, null, Scope, global, inside, label, end_label, Declared, Source}
use Rattle.definition.specs.Statements.{Opens, opens_nothing, opens_group, opens_body, opens_then, Clause, clause, assignment, Declaring, declared, undeclared, declare_from, procedure_clause, means}
use Rattle.definition.specs.Reading.{Where, in_program, in_group, in_body, in_then, in_else, Open, State, state, stretch, change, set_lead, add_in, add_to, add_row, with_names, with_rows, with_lead, with_opened, scope_out, Mode, Turn, go, stop, finish, Else, else_to, no_else, else_at, elsed, complete_in, complete, Labelled, labels, opened, taken, untaken, take_read, take_declared, label_meaning, is_declare, is_procedure, is_none, is_inside, is_list, kind_of, do_at, common, in_list, outer, by_word, by_name, by_token, end_name, end_read, end_at, is_in_group, is_in_body, is_full, is_end, long_label, named, clause_from, clause_at, texted, lead_in, not_end, procedure_end, begins, inner_at, depth, deep_enough, alternative_at, leading_text, text_behind, alternative, inner, turn, read_on}

-- a state with other declarations, and with some in front of its own
abbrev pub with_declared : List Declared → State → State
with_declared ds st = state st.lead st.first st.rows ds st.opened st.scope

abbrev pub behind : List Declared → State → State
behind ds st = with_declared (ds ++ st.declared) st

abbrev pub prepend : List Declared → Turn → Turn
prepend ds (go m at st) = go m at (behind ds st)
prepend ds (stop w p begun st) = stop w p begun (behind ds st)
prepend ds (finish st) = finish (behind ds st)

abbrev pub prepend_source : List Declared → Source → Source
prepend_source ds x = record { lead = x.lead; first = x.first; rows = x.rows; declared = ds ++ x.declared; begun = x.begun; fault = x.fault }

module _ (s : List ℕ) (ds : List Declared) where
  pub when_frame : (t : Bool) (f g f' g' : Unit {0} → Turn) → f tt ≡ prepend ds (f' tt) → g tt ≡ prepend ds (g' tt) → when t f g ≡ prepend ds (when t f' g')
  when_frame true f g f' g' h k = h
  when_frame false f g f' g' h k = k

  pub cond_frame : (t : Bool) (x y x' y' : Turn) → x ≡ prepend ds x' → y ≡ prepend ds y' → cond t x y ≡ prepend ds (cond t x' y')
  cond_frame true x y x' y' h k = h
  cond_frame false x y x' y' h k = k

  -- ---- rows and names
  names_frame : (es : List Declared) (st : State) → with_names es (behind ds st) ≡ behind ds (with_names es st)
  names_frame es st = ap (λ (z : List Declared). with_declared z st) (append_assoc ds st.declared es)

  add_in_lem : (k : Where) (o : Open) (os : List Open) (x : Statement) (p : ℕ) (st : State) → add_in k o os x p (behind ds st) ≡ behind ds (add_in k o os x p st)
  add_in_lem in_program o os x p st = refl
  add_in_lem in_group o os x p st = refl
  add_in_lem in_body o os x p st = refl
  add_in_lem in_then o os x p st = refl
  add_in_lem in_else o os x p st = refl

  add_to_lem : (os : List Open) (x : Statement) (p : ℕ) (st : State) → add_to os x p (behind ds st) ≡ behind ds (add_to os x p st)
  add_to_lem [] x p st = refl
  add_to_lem (o ∷ os) x p st = add_in_lem o.kind o os x p st

  add_row_lem : (x : Statement) (p : ℕ) (st : State) → add_row x p (behind ds st) ≡ behind ds (add_row x p st)
  unfolding add_row
  add_row_lem x p st = add_to_lem st.opened x p st

  -- ---- behind a statement
  elsed_frame : (e : Else) (i : ℕ) (os : List Open) (st : State) (f g : Unit {0} → Turn) → f tt ≡ prepend ds (g tt) → elsed e i os (behind ds st) f ≡ prepend ds (elsed e i os st g)
  elsed_frame (else_to q) i os st f g h = refl
  elsed_frame no_else i os st f g h = h

  complete_in_lem : (k : Where) (i : ℕ) (os : List Open) (n e : ℕ) (st : State) (f g : ℕ → Turn) → f i ≡ prepend ds (g i) → complete_in mixed k s i os n e (behind ds st) f ≡ prepend ds (complete_in mixed k s i os n e st g)
  complete_in_lem in_program i os n e st f g h = refl
  complete_in_lem in_group i os n e st f g h = refl
  complete_in_lem in_body i os n e st f g h = refl
  complete_in_lem in_then i os n e st f g h = elsed_frame (else_at mixed (is_inside st.scope) s e) i os st (λ _. f i) (λ _. g i) h
  complete_in_lem in_else i os n e st f g h = h

  pub complete_frame : (os : List Open) (n e : ℕ) (st : State) → complete mixed s os n e (behind ds st) ≡ prepend ds (complete mixed s os n e st)
  unfolding complete
  complete_frame [] n e st = refl
  complete_frame (o ∷ os) n e st = complete_in_lem o.kind o.row os n e (state st.lead st.first st.rows st.declared (o ∷ os) st.scope) (λ i. complete mixed s os i e (behind ds st)) (λ i. complete mixed s os i e st) (complete_frame os o.row e st)

  opened_frame : (o : Opens) (n : ℕ) (ns : List Named) (e : ℕ) (st : State) → opened mixed o s n ns e (behind ds st) ≡ prepend ds (opened mixed o s n ns e st)
  opened_frame opens_nothing n ns e st = complete_frame st.opened n e st
  opened_frame opens_group n ns e st = refl
  opened_frame opens_body n ns e st = refl
  opened_frame opens_then n ns e st = refl

  -- ---- a statement
  pub taken_frame : (p : ℕ) (ns : List Named) (st : State) (c : Clause) (es : List Declared) → taken mixed s p ns (behind ds st) c es ≡ prepend ds (taken mixed s p ns st c es)
  unfolding taken
  taken_frame p ns st c es =
      let n : ℕ = length st.rows in
      let fs : List Declared = means st.scope (label_meaning c.opens n) ns ++ es in
      let a : with_names fs (add_row c.statement p (behind ds st)) ≡ behind ds (with_names fs (add_row c.statement p st)) = ap (with_names fs) (add_row_lem c.statement p st) ∙ names_frame fs (add_row c.statement p st) in
      ap (opened mixed c.opens s n ns c.to) a ∙ opened_frame c.opens n ns c.to (with_names fs (add_row c.statement p st))

  untaken_frame : (p : ℕ) (ns : List Named) (st : State) (w : Why) (q : ℕ) (es : List Declared) → untaken p ns (behind ds st) w q es ≡ prepend ds (untaken p ns st w q es)
  untaken_frame p ns st w q es = ap (stop w q (p ∷ [])) (names_frame (means st.scope (label 0) ns ++ es) st)

  take_read_lem : (p : ℕ) (ns : List Named) (st : State) (r : Reading Clause) → take_read mixed s p ns (behind ds st) r ≡ prepend ds (take_read mixed s p ns st r)
  take_read_lem p ns st (read c) = taken_frame p ns st c []
  take_read_lem p ns st (refused w q) = untaken_frame p ns st w q []

  take_declared_lem : (p : ℕ) (ns : List Named) (st : State) (r : Declaring) → take_declared mixed s p ns (behind ds st) r ≡ prepend ds (take_declared mixed s p ns st r)
  take_declared_lem p ns st (declared c es) = taken_frame p ns st c es
  take_declared_lem p ns st (undeclared w q es) = untaken_frame p ns st w q es

  common_frame : (t : Lexeme) (st : State) (f f' : Reading Clause → Turn) (g g' : Unit {0} → Turn) → ((r : Reading Clause) → f r ≡ prepend ds (f' r)) → g tt ≡ prepend ds (g' tt) → common mixed s t (behind ds st) f g ≡ prepend ds (common mixed s t st f' g')
  unfolding common do_at
  common_frame t st f f' g g' h k =
      when_frame (is_word "IF" t.token) _ _ _ _ (h _) (when_frame (is_word "DO" t.token) _ _ _ _ (h _)
      (when_frame (is_word "GOTO" t.token) _ _ _ _ (h _) (when_frame (is_word "GO" t.token) _ _ _ _ (h _) k)))

  list_frame : (p : ℕ) (ns : List Named) (t : Lexeme) (st : State) (g g' : Unit {0} → Turn) → g tt ≡ prepend ds (g' tt) → in_list mixed s p ns t (behind ds st) g ≡ prepend ds (in_list mixed s p ns t st g')
  unfolding in_list
  list_frame p ns t st g g' k =
      when_frame (is_list (kind_of st.opened) && is_declare t.token) _ _ _ _ (take_declared_lem p ns st (declare_from mixed st.scope s (length s) [] t.to))
      (when_frame (is_list (kind_of st.opened) && not (is_inside st.scope) && not (is_none ns) && is_procedure t.token) _ _ _ _ (take_declared_lem p ns st (procedure_clause mixed (inside (length st.rows)) s t.to)) k)

  outer_frame : (k : Scope) (t : Lexeme) (f f' : Reading Clause → Turn) (g g' : Unit {0} → Turn) → ((r : Reading Clause) → f r ≡ prepend ds (f' r)) → g tt ≡ prepend ds (g' tt) → outer mixed k s t f g ≡ prepend ds (outer mixed k s t f' g')
  outer_frame global t f f' g g' h k =
      when_frame (is_word "INCLUDE" t.token) _ _ _ _ (h _) (when_frame (is_word "ACTIVATE" t.token || is_word "ACT" t.token) _ _ _ _ (h _)
      (when_frame (is_word "DEACTIVATE" t.token || is_word "DEACT" t.token) _ _ _ _ (h _) k))
  outer_frame (inside r) t f f' g g' h k = when_frame (is_word "RETURN" t.token) _ _ _ _ (h _) k

  by_word_lem : (p : ℕ) (ns : List Named) (w : List ℕ) (t u : Lexeme) (st : State) → by_word mixed s p ns w t u (behind ds st) ≡ prepend ds (by_word mixed s p ns w t u st)
  unfolding by_word
  by_word_lem p ns w t u st =
      when_frame (is_sign "=" u.token) _ _ _ _ (take_read_lem p ns st (assignment mixed s w u.to))
      (common_frame t st _ _ _ _ (take_read_lem p ns st) (outer_frame st.scope t _ _ _ _ (take_read_lem p ns st) (list_frame p ns t st _ _ (untaken_frame p ns st Syntax u.from []))))

  by_name_lem : (n : Reading Named) (p : ℕ) (ns : List Named) (t : Lexeme) (st : State) → by_name mixed n s p ns t (behind ds st) ≡ prepend ds (by_name mixed n s p ns t st)
  by_name_lem (read n) p ns t st = by_word_lem p ns n.spelling t (token_at mixed s t.to) st
  by_name_lem (refused w q) p ns t st = untaken_frame p ns st w q []

  by_token_lem : (x : Token) (p : ℕ) (ns : List Named) (t : Lexeme) (st : State) → by_token mixed x s p ns t (behind ds st) ≡ prepend ds (by_token mixed x s p ns t st)
  by_token_lem (word w) p ns t st = by_name_lem (name_of (word w) t.from t.to) p ns t st
  by_token_lem (integer w) p ns t st = untaken_frame p ns st Syntax t.from []
  by_token_lem (string w) p ns t st = untaken_frame p ns st Syntax t.from []
  by_token_lem (bits w) p ns t st = untaken_frame p ns st Syntax t.from []
  by_token_lem (sign w) p ns t st = when_frame (is_sign ";" (sign w)) _ _ _ _ (taken_frame p ns st (clause null opens_nothing t.to) []) (untaken_frame p ns st Syntax t.from [])
  by_token_lem nothing p ns t st = untaken_frame p ns st Syntax t.from []
  by_token_lem wrong p ns t st = untaken_frame p ns st Syntax t.from []

  -- ---- END
  named_frame : (ns : List Named) (st : State) → named ns (behind ds st) ≡ behind ds (named ns st)
  named_frame ns st = names_frame (means st.scope (label 0) ns) st

  end_read_lem : (ns : List Named) (o : Open) (os : List Open) (st : State) (r : Reading ℕ) → end_read mixed s ns o os (behind ds st) r ≡ prepend ds (end_read mixed s ns o os st r)
  end_read_lem ns o os st (read e) =
      let es : List Declared = means st.scope (end_label o.row) ns in
      let out : Scope = scope_out o.kind st.scope in
      ap (λ (z : State). complete mixed s os o.row e (with_opened os out z)) (names_frame es st) ∙ complete_frame os o.row e (with_opened os out (with_names es st))
  end_read_lem ns o os st (refused w q) = ap (stop w q []) (names_frame (means st.scope (end_label o.row) ns) st)

  end_at_lem : (ns : List Named) (p : ℕ) (os : List Open) (st : State) → end_at mixed s ns p os (behind ds st) ≡ prepend ds (end_at mixed s ns p os st)
  end_at_lem ns p [] st = refl
  end_at_lem ns p (o ∷ os) st = end_read_lem ns o os st (end_name mixed s o.labels p)

  too_long_lem : (ps : List ℕ) (f f' : ℕ → Turn) (g g' : Unit {0} → Turn) → ((p : ℕ) → f p ≡ prepend ds (f' p)) → g tt ≡ prepend ds (g' tt) → long_label ps f g ≡ prepend ds (long_label ps f' g')
  too_long_lem [] f f' g g' h k = k
  too_long_lem (p ∷ ps) f f' g g' h k = h p

  pub clause_frame : (p : ℕ) (L : Labelled) (st : State) → clause_from mixed s p L (behind ds st) ≡ prepend ds (clause_from mixed s p L st)
  unfolding clause_from is_full
  clause_frame p L st =
      when_frame (is_in_group (kind_of st.opened) && is_end mixed s L.behind) _ _ _ _
      (too_long_lem L.long _ _ _ _ (λ q. ap (stop OverLimit q []) (named_frame L.labels st)) (end_at_lem L.labels L.behind.to st.opened st))
      (when_frame (is_full st) _ _ _ _ refl
      (too_long_lem L.long _ _ _ _ (λ q. untaken_frame p L.labels st OverLimit q []) (by_token_lem L.behind.token p L.labels L.behind st)))

  -- ---- texts and procedures
  pub texted_frame : (e : TextEnd) (f f' : ℕ → State) → ((p : ℕ) → f p ≡ behind ds (f' p)) → texted mixed e s f ≡ prepend ds (texted mixed e s f')
  texted_frame (percent_at p) f f' h = ap (clause_at mixed s p (p + 1)) (h p) ∙ clause_frame p (labels mixed s (p + 1)) (f' p)
  texted_frame at_end f f' h =
      ap (λ (z : State). cond (leb (length z.opened) 1) (finish (f (length s))) (stop Syntax (length s) [] (f (length s)))) (h 0)
      ∙ cond_frame (leb (length (f' 0).opened) 1) (finish (f (length s))) (stop Syntax (length s) [] (f (length s))) (finish (f' (length s))) (stop Syntax (length s) [] (f' (length s)))
      (ap finish (h (length s))) (ap (stop Syntax (length s) []) (h (length s)))
  texted_frame (open_at p) f f' h = ap (stop Syntax p []) (h p)

  pub lead_in_lem : (os : List Open) (from p : ℕ) (st : State) → lead_in os from p (behind ds st) ≡ behind ds (lead_in os from p st)
  lead_in_lem [] from p st = refl
  lead_in_lem (o ∷ os) from p st = at_kind o.kind
    where
      at_kind : (x : Where) → (elim x as (λ _. ℕ → State) [ in_program ↦ λ n. with_lead (stretch from p) (behind ds st) | in_group ↦ λ n. with_rows (change n (set_lead (stretch from p)) st.rows) (behind ds st) | in_body ↦ λ n. behind ds st | in_then ↦ λ n. behind ds st | in_else ↦ λ n. behind ds st ]) o.row
          ≡ behind ds ((elim x as (λ _. ℕ → State) [ in_program ↦ λ n. with_lead (stretch from p) st | in_group ↦ λ n. with_rows (change n (set_lead (stretch from p)) st.rows) st | in_body ↦ λ n. st | in_then ↦ λ n. st | in_else ↦ λ n. st ]) o.row)
      at_kind in_program = refl
      at_kind in_group = refl
      at_kind in_body = refl
      at_kind in_then = refl
      at_kind in_else = refl

  not_end_lem : (n : Reading Named) (st : State) → not_end mixed n s (behind ds st) ≡ prepend ds (not_end mixed n s st)
  not_end_lem (read n) st = refl
  not_end_lem (refused w p) st = refl

  pub procedure_end_lem : (L : Labelled) (st : State) → procedure_end mixed s L (behind ds st) ≡ prepend ds (procedure_end mixed s L st)
  procedure_end_lem L st =
      too_long_lem L.long _ _ _ _ (λ q. ap (stop OverLimit q []) (named_frame L.labels st))
      (when_frame (is_word "END" L.behind.token) _ _ _ _ (end_at_lem L.labels L.behind.to st.opened st)
      (ap (not_end mixed (name_of L.behind.token L.behind.from L.behind.to) s) (named_frame L.labels st) ∙ not_end_lem (name_of L.behind.token L.behind.from L.behind.to) (named L.labels st)))

  inner_frame : (p : ℕ) (t : Lexeme) (st : State) → inner_at mixed s p t (behind ds st) ≡ prepend ds (inner_at mixed s p t st)
  unfolding inner_at
  inner_frame p t st =
      when_frame (is_in_body (kind_of st.opened) && is_sign "%" t.token) _ _ _ _ (procedure_end_lem (labels mixed s t.to) st)
      (when_frame (begins t.token) _ _ _ _ (clause_frame t.from (labels mixed s p) st) refl)

  pub deep_frame : (p : ℕ) (st : State) (f g : Unit {0} → Turn) → f tt ≡ prepend ds (g tt) → deep_enough p (behind ds st) f ≡ prepend ds (deep_enough p st g)
  unfolding deep_enough
  deep_frame p st f g k = when_frame (leb (depth st.opened) open_groups) _ _ _ _ k refl

  alternative_frame : (k : Scope) (p : ℕ) (t : Lexeme) (st : State) → alternative_at mixed k s p t (behind ds st) ≡ prepend ds (alternative_at mixed k s p t st)
  alternative_frame global p t st = when_frame (is_sign "%" t.token) _ _ _ _ (deep_frame t.from st _ _ (clause_frame t.from (labels mixed s t.to) st)) refl
  alternative_frame (inside r) p t st = when_frame (begins t.token) _ _ _ _ (deep_frame t.from st _ _ (clause_frame t.from (labels mixed s p) st)) refl

  -- ---- THE TURN
  turn_behind : (m : Mode) (p : ℕ) (st : State) → turn mixed s m p (behind ds st) ≡ prepend ds (turn mixed s m p st)
  unfolding turn
  turn_behind leading_text p st = texted_frame (text_end mixed (suc (length s)) s p) _ _ (λ q. lead_in_lem st.opened p q st)
  turn_behind (text_behind n) p st = texted_frame (text_end mixed (suc (length s)) s p) _ _ (λ q. refl)
  turn_behind alternative p st = alternative_frame st.scope p (token_at mixed s p) st
  turn_behind inner p st = inner_frame p (token_at mixed s p) st

  pub none_front : (st : State) → with_declared ds st ≡ behind ds (with_declared [] st)
  none_front st = ap (λ (z : List Declared). with_declared z st) (sym (append-nil ds))

  pub turn_frame : (m : Mode) (p : ℕ) (st : State) → turn mixed s m p (with_declared ds st) ≡ prepend ds (turn mixed s m p (with_declared [] st))
  turn_frame m p st = ap (turn mixed s m p) (none_front st) ∙ turn_behind m p (with_declared [] st)

  pub clause_at_frame : (p q : ℕ) (st : State) → clause_at mixed s p q (with_declared ds st) ≡ prepend ds (clause_at mixed s p q (with_declared [] st))
  clause_at_frame p q st = ap (clause_at mixed s p q) (none_front st) ∙ clause_frame p (labels mixed s q) (with_declared [] st)

  -- ---- and a run of turns
  pub read_frame : (f : ℕ) (t : Turn) → read_on mixed s f (prepend ds t) ≡ prepend_source ds (read_on mixed s f t)
  unfolding read_on
  read_frame zero (go m p st) = refl
  read_frame zero (stop w p begun st) = refl
  read_frame zero (finish st) = refl
  read_frame (suc f) (go m p st) = ap (read_on mixed s f) (turn_behind m p st) ∙ read_frame f (turn mixed s m p st)
  read_frame (suc f) (stop w p begun st) = refl
  read_frame (suc f) (finish st) = refl

  -- by one turn, begun with no declarations
  pub read_turn : (f : ℕ) (m : Mode) (p : ℕ) (st : State) → read_on mixed s (suc f) (go m p (with_declared ds st)) ≡ read_on mixed s f (prepend ds (turn mixed s m p (with_declared [] st)))
  unfolding read_on
  read_turn f m p st = ap (read_on mixed s f) (turn_frame m p st)
