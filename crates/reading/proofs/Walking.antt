-- ONE WALK over the definition's reader: what a state has, and texts and labels keep, every turn has, if it does where a statement is
-- taken or wrong, where END leaves a group or a body, and where the member ends.
-- Assumes nothing.
use mathlib.Core.Path.{◌≡◌, refl, sym, subst}
use mathlib.Core.Bool.{Bool, true, false, not, ◌&&◌, ◌||◌, false≢true}
use mathlib.Core.List.{List, [], ◌∷◌}
use Prim.Native.Nat.{ℕ, suc, ◌+◌, ◌<◌, ◌≤◌}
use borrow.Author.Tests.{leb-true, leb-false, ltb-true}
use lib.Dec.{leb, ltb}
use lib.ListN.{length}
use Rattle.definition.specs.Bytes.{mixed}
use Rattle.definition.specs.Limits.{open_groups}
use Rattle.definition.specs.Tokens as Tk
use Rattle.definition.specs.Tokens.{Token, Lexeme, is_word, is_sign, token_at, TextEnd, percent_at, at_end, open_at, text_end}
use Rattle.definition.specs.Expressions.{Reading, read, refused, Named, name_of}
use Rattle.definition.specs.Program as P
use Rattle.definition.specs.Statements as St
use Rattle.definition.specs.Reading as D
use Rattle.definition.specs.Names as N
use Rattle.definition.specs.declared.Why.{Why}
use Rattle.definition.specs.declared.Why.TheVariants.{Syntax, OverLimit}
use Rattle.definition.proofs.Choices.{when_has, cond_has}
use Rattle.rows.specs.declared.Statement.{Statement}
use Rattle.rows.specs.declared.Statement.TheVariants as S
use Rattle.statements.specs.Clauses.{go_clause, do_kind, names_in}
use Rattle.openings.specs.Open.{other_at}
use Rattle.openings.proofs.Keywords.{OpensBoth, OpensSo, DeclaresSo, if_so, do_so, goto_so, go_so, include_so, activate_so, deactivate_so, return_so, other_so, declare_so, procedure_so}

abbrev pub procedures : P.Scope → ℕ
procedures P.global = 0
procedures (P.inside r) = 1

-- there is room for what a statement opens
abbrev pub Room : St.Opens → D.State → Type 0
Room St.opens_nothing st = Unit {0}
Room St.opens_group st = D.depth st.opened < 16
Room St.opens_body st = procedures st.scope ≡ 0
Room St.opens_then st = Unit {0}

-- what END can end
abbrev pub Ended : D.Where → Type 0
Ended D.in_program = ⊥
Ended D.in_group = Unit {0}
Ended D.in_body = Unit {0}
Ended D.in_then = ⊥
Ended D.in_else = ⊥

-- a change of links and texts
pub record Relinks (g : P.Row → P.Row) : Type 0 where
  pub statement : (r : P.Row) → (g r).statement ≡ r.statement
  pub parent : (r : P.Row) → (g r).parent ≡ r.parent

-- an alternative has a test of its own
abbrev pub Shallow : D.Mode → D.State → Type 0
Shallow D.leading_text st = D.depth st.opened ≤ 16
Shallow (D.text_behind k) st = D.depth st.opened ≤ 16
Shallow D.alternative st = Unit {0}
Shallow D.inner st = D.depth st.opened ≤ 16

-- the names that a statement lists
pub data Lists (s : List ℕ) (st : D.State) : List P.Declared → Type 0 where
  none : Lists s st []
  declares : (e : ℕ) → Lists s st (names_in (St.declare_from mixed st.scope s (length s) [] e))
  parameters : (e : ℕ) → Lists s st (names_in (St.procedure_clause mixed (P.inside (length st.rows)) s e))

pub too_long_lem : (Q : D.Turn → Type 0) (ps : List ℕ) (f : ℕ → D.Turn) (g : Unit {0} → D.Turn) → ((p : ℕ) → Q (f p)) → Q (g tt) → Q (D.long_label ps f g)
too_long_lem Q [] f g h i = i
too_long_lem Q (p ∷ ps) f g h i = h p

-- ---- A STATEMENT at p, behind its labels ns: it is taken, or it is wrong
pub record Statements (s : List ℕ) (p : ℕ) (ns : List Named) (st : D.State) (Q : D.Turn → Type 0) : Type 0 where
  pub takes : (k : Statement) (c : St.Clause) (es : List P.Declared) → OpensBoth k c.opens c → Room c.opens st → Lists s st es → Q (D.taken mixed s p ns st c es)
  pub refuses : (w : Why) (q : ℕ) (es : List P.Declared) → Lists s st es → Q (D.untaken p ns st w q es)

module _ (s : List ℕ) (p : ℕ) (ns : List Named) (st : D.State) (Q : D.Turn → Type 0) (k : Statements s p ns st Q) where
  took : (i : Statement) (o : St.Opens) (c : St.Clause) (es : List P.Declared) → OpensBoth i o c → Room o st → Lists s st es → Q (D.taken mixed s p ns st c es)
  took i o c es e r l = k.takes i c es (subst (λ (z : St.Opens). OpensBoth i z c) (sym e.opens) e) (subst (λ (z : St.Opens). Room z st) (sym e.opens) r) l

  take_read_lem : (i : Statement) (o : St.Opens) (R : Reading St.Clause) → OpensSo i o R → Room o st → Q (D.take_read mixed s p ns st R)
  take_read_lem i o (read c) e r = took i o c [] e r none
  take_read_lem i o (refused w q) e r = k.refuses w q [] none

  take_declared_lem : (i : Statement) (o : St.Opens) (R : St.Declaring) → DeclaresSo i o R → Room o st → Lists s st (names_in R) → Q (D.take_declared mixed s p ns st R)
  take_declared_lem i o (St.declared c es) e r l = took i o c es e r l
  take_declared_lem i o (St.undeclared w q es) e r l = k.refuses w q es l

  do_walk : (from to : ℕ) → Q (D.take_read mixed s p ns st (D.do_at mixed s from to st))
  unfolding D.do_at
  do_walk from to = by (ltb (D.depth st.opened) open_groups) refl (do_so s from to st)
    where
      by : (b : Bool) → ltb (D.depth st.opened) open_groups ≡ b → OpensSo (do_kind s to) St.opens_group (D.do_at mixed s from to st) → Q (D.take_read mixed s p ns st (D.do_at mixed s from to st))
      by true e o = take_read_lem (do_kind s to) St.opens_group (D.do_at mixed s from to st) o (ltb-true (D.depth st.opened) open_groups e)
      by false e o = rw e (k.refuses OverLimit from [] none)

  common_walk : (t : Lexeme) (g : Unit {0} → D.Turn) → Q (g tt) → Q (D.common mixed s t st (D.take_read mixed s p ns st) g)
  unfolding D.common go_clause
  common_walk t g i =
      when_has Q (is_word "IF" t.token) _ _ (λ _. take_read_lem S.Conditional St.opens_then (St.if_clause mixed (D.is_inside st.scope) s t.to) (if_so (D.is_inside st.scope) s t.to) tt) λ _.
      when_has Q (is_word "DO" t.token) _ _ (λ _. do_walk t.from t.to) λ _.
      when_has Q (is_word "GOTO" t.token) _ _ (λ _. take_read_lem S.Goto St.opens_nothing (St.goto_clause mixed s t.to) (goto_so s t.to) tt) λ _.
      when_has Q (is_word "GO" t.token) _ _ (λ _. take_read_lem S.Goto St.opens_nothing (go_clause s t.to) (go_so s t.to) tt) λ _. i

  outside : (a : Bool) (j : P.Scope) (b c : Bool) → (a && not (D.is_inside j) && b && c) ≡ true → procedures j ≡ 0
  outside false j b c e = absurd (false≢true e)
  outside true P.global b c e = refl
  outside true (P.inside r) b c e = absurd (false≢true e)

  list_walk : (t : Lexeme) (g : Unit {0} → D.Turn) → Q (g tt) → Q (D.in_list mixed s p ns t st g)
  unfolding D.in_list
  list_walk t g i =
      when_has Q (D.is_list (D.kind_of st.opened) && D.is_declare t.token) _ _ (λ _. take_declared_lem S.Declare St.opens_nothing (St.declare_from mixed st.scope s (length s) [] t.to) (declare_so st.scope s (length s) [] t.to) tt (declares t.to)) λ _.
      when_has Q (D.is_list (D.kind_of st.opened) && not (D.is_inside st.scope) && not (D.is_none ns) && D.is_procedure t.token) _ _
      (λ e. take_declared_lem S.Procedure St.opens_body (St.procedure_clause mixed (P.inside (length st.rows)) s t.to) (procedure_so (P.inside (length st.rows)) s t.to) (outside (D.is_list (D.kind_of st.opened)) st.scope (not (D.is_none ns)) (D.is_procedure t.token) e) (parameters t.to)) λ _. i

  outer_walk : (j : P.Scope) (t : Lexeme) (g : Unit {0} → D.Turn) → Q (g tt) → Q (D.outer mixed j s t (D.take_read mixed s p ns st) g)
  outer_walk P.global t g i =
      when_has Q (is_word "INCLUDE" t.token) _ _ (λ _. take_read_lem S.Include St.opens_nothing (St.include_clause mixed s t.to) (include_so s t.to) tt) λ _.
      when_has Q (is_word "ACTIVATE" t.token || is_word "ACT" t.token) _ _ (λ _. take_read_lem S.Activate St.opens_nothing (St.activate_clause mixed s t.to) (activate_so s t.to) tt) λ _.
      when_has Q (is_word "DEACTIVATE" t.token || is_word "DEACT" t.token) _ _ (λ _. take_read_lem S.Deactivate St.opens_nothing (St.deactivate_clause mixed s t.to) (deactivate_so s t.to) tt) λ _. i
  outer_walk (P.inside r) t g i = when_has Q (is_word "RETURN" t.token) _ _ (λ _. take_read_lem S.Return St.opens_nothing (St.return_clause mixed s t.to) (return_so s t.to) tt) λ _. i

  by_word_lem : (w : List ℕ) (t u : Lexeme) → Q (D.by_word mixed s p ns w t u st)
  unfolding D.by_word other_at
  by_word_lem w t u =
      when_has Q (is_sign "=" u.token) _ _ (λ e. take_read_lem S.Assign St.opens_nothing (St.assignment mixed s w u.to) (rw e at (other_so s w u)) tt) λ _.
      common_walk t _ (outer_walk st.scope t _ (list_walk t _ (k.refuses Syntax u.from [] none)))

  by_name_lem : (n : Reading Named) (t : Lexeme) → Q (D.by_name mixed n s p ns t st)
  by_name_lem (read n) t = by_word_lem n.spelling t (token_at mixed s t.to)
  by_name_lem (refused w q) t = k.refuses w q [] none

  pub by_token_lem : (x : Token) (t : Lexeme) → Q (D.by_token mixed x s p ns t st)
  by_token_lem (Tk.word w) t = by_name_lem (name_of (Tk.word w) t.from t.to) t
  by_token_lem (Tk.integer w) t = k.refuses Syntax t.from [] none
  by_token_lem (Tk.string w) t = k.refuses Syntax t.from [] none
  by_token_lem (Tk.bits w) t = k.refuses Syntax t.from [] none
  by_token_lem (Tk.sign w) t = when_has Q (is_sign ";" (Tk.sign w)) _ _ (λ _. took S.Null St.opens_nothing (St.clause P.null St.opens_nothing t.to) [] (record { opens = refl; statement = refl; kind = refl }) tt none) λ _. k.refuses Syntax t.from [] none
  by_token_lem Tk.nothing t = k.refuses Syntax t.from [] none
  by_token_lem Tk.wrong t = k.refuses Syntax t.from [] none

-- ---- WHAT THE WALK ASKS: G is what a state has, Q what a turn has
pub record Steps (s : List ℕ) (G : D.State → Type 0) (Q : D.Turn → Type 0) : Type 0 where
  pub halts : (w : Why) (p : ℕ) (begun : List ℕ) (st : D.State) → G st → Q (D.stop w p begun st)
  pub finishes : (st : D.State) → G st → Q (D.finish st)
  pub statements : (p : ℕ) (ns : List Named) (st : D.State) → G st → D.depth st.opened ≤ 16 → length st.rows < 1024 → Statements s p ns st Q
  pub ends : (o : D.Open) (os : List D.Open) (ns : List Named) (e : ℕ) (st : D.State) → G st → st.opened ≡ o ∷ os → Ended o.kind → D.depth st.opened ≤ 16 → Q (D.end_read mixed s ns o os st (read e))
  pub labels : (m : P.Meaning) (ns : List Named) (st : D.State) → N.is_parameter m ≡ false → G st → G (D.with_names (St.means st.scope m ns) st)
  pub relinks : (k : ℕ) (g : P.Row → P.Row) (st : D.State) → Relinks g → G st → G (D.with_rows (D.change k g st.rows) st)
  pub leads : (x : P.Stretch) (st : D.State) → G st → G (D.with_lead x st)

module _ (s : List ℕ) (G : D.State → Type 0) (Q : D.Turn → Type 0) (k : Steps s G Q) where
  named : (ns : List Named) (st : D.State) → G st → G (D.named ns st)
  named ns st h = k.labels (P.label 0) ns st refl h

  -- ---- END of a group or a procedure
  end_at_lem : (L : List D.Open) (ns : List Named) (at : ℕ) (st : D.State) → G st → st.opened ≡ L → Ended (D.kind_of L) → D.depth st.opened ≤ 16 → Q (D.end_at mixed s ns at L st)
  end_at_lem [] ns at st h e x d = absurd x
  end_at_lem (o ∷ os) ns at st h e x d = by (D.end_name mixed s o.labels at)
    where
      by : (R : Reading ℕ) → Q (D.end_read mixed s ns o os st R)
      by (read i) = k.ends o os ns i st h e x d
      by (refused w q) = k.halts w q [] (D.with_names (St.means st.scope (P.end_label o.row) ns) st) (k.labels (P.end_label o.row) ns st refl h)

  in_group_lem : (w : D.Where) (b : Bool) → (D.is_in_group w && b) ≡ true → Ended w
  in_group_lem D.in_program b e = absurd (false≢true e)
  in_group_lem D.in_group b e = tt
  in_group_lem D.in_body b e = tt
  in_group_lem D.in_then b e = absurd (false≢true e)
  in_group_lem D.in_else b e = absurd (false≢true e)

  in_body_lem : (w : D.Where) (b : Bool) → (D.is_in_body w && b) ≡ true → Ended w
  in_body_lem D.in_program b e = absurd (false≢true e)
  in_body_lem D.in_group b e = tt
  in_body_lem D.in_body b e = tt
  in_body_lem D.in_then b e = absurd (false≢true e)
  in_body_lem D.in_else b e = absurd (false≢true e)

  clause_walk : (p : ℕ) (L : D.Labelled) (st : D.State) → G st → D.depth st.opened ≤ 16 → Q (D.clause_from mixed s p L st)
  unfolding D.clause_from D.is_full
  clause_walk p L st h d =
      when_has Q (D.is_in_group (D.kind_of st.opened) && D.is_end mixed s L.behind) _ _
      (λ e. too_long_lem Q L.long _ _ (λ q. k.halts OverLimit q [] (D.named L.labels st) (named L.labels st h)) (end_at_lem st.opened L.labels L.behind.to st h refl (in_group_lem (D.kind_of st.opened) (D.is_end mixed s L.behind) e) d)) λ _.
      when_has Q (leb 1024 (length st.rows)) _ _ (λ _. k.halts OverLimit p (p ∷ []) st h) λ f.
      let each : Statements s p L.labels st Q = k.statements p L.labels st h d (leb-false 1024 (length st.rows) f) in
      too_long_lem Q L.long _ _ (λ q. each.refuses OverLimit q [] none) (by_token_lem s p L.labels st Q each L.behind.token L.behind)

  -- ---- texts
  texted_walk : (E : TextEnd) (f : ℕ → D.State) → ((p : ℕ) → G (f p)) → ((p : ℕ) → D.depth (f p).opened ≤ 16) → Q (D.texted mixed E s f)
  texted_walk (percent_at p) f h d = clause_walk p (D.labels mixed s (p + 1)) (f p) (h p) (d p)
  texted_walk at_end f h d = cond_has Q (leb (length (f 0).opened) 1) _ _ (λ _. k.finishes (f (length s)) (h (length s))) λ _. k.halts Syntax (length s) [] (f (length s)) (h (length s))
  texted_walk (open_at p) f h d = k.halts Syntax p [] (f p) (h p)

  record Led (st r : D.State) : Type 0 where
    has : G r
    same : r.opened ≡ st.opened

  lead_by_lem : (w : D.Where) (i : ℕ) (l : P.Link) (bs : List (List ℕ)) (os : List D.Open) (a b : ℕ) (st : D.State) → G st → Led st (D.lead_in (record { kind = w; row = i; last = l; labels = bs } ∷ os) a b st)
  lead_by_lem D.in_program i l bs os a b st h = record { has = k.leads (D.stretch a b) st h; same = refl }
  lead_by_lem D.in_group i l bs os a b st h = record { has = k.relinks i (D.set_lead (D.stretch a b)) st (record { statement = λ r. refl; parent = λ r. refl }) h; same = refl }
  lead_by_lem D.in_body i l bs os a b st h = record { has = h; same = refl }
  lead_by_lem D.in_then i l bs os a b st h = record { has = h; same = refl }
  lead_by_lem D.in_else i l bs os a b st h = record { has = h; same = refl }

  lead_walk : (L : List D.Open) (a b : ℕ) (st : D.State) → G st → Led st (D.lead_in L a b st)
  lead_walk [] a b st h = record { has = h; same = refl }
  lead_walk (o ∷ os) a b st h = lead_by_lem o.kind o.row o.last o.labels os a b st h

  -- ---- in a procedure, and an alternative
  not_end_lem : (n : Reading Named) (st : D.State) → G st → Q (D.not_end mixed n s st)
  not_end_lem (read n) st h = k.halts Syntax (token_at mixed s n.to).from [] st h
  not_end_lem (refused w p) st h = k.halts w p [] st h

  procedure_end_lem : (L : D.Labelled) (st : D.State) → G st → D.depth st.opened ≤ 16 → Ended (D.kind_of st.opened) → Q (D.procedure_end mixed s L st)
  procedure_end_lem L st h d x =
      too_long_lem Q L.long _ _ (λ q. k.halts OverLimit q [] (D.named L.labels st) (named L.labels st h))
      (when_has Q (is_word "END" L.behind.token) _ _ (λ _. end_at_lem st.opened L.labels L.behind.to st h refl x d) λ _. not_end_lem (name_of L.behind.token L.behind.from L.behind.to) (D.named L.labels st) (named L.labels st h))

  inner_walk : (at : ℕ) (t : Lexeme) (st : D.State) → G st → D.depth st.opened ≤ 16 → Q (D.inner_at mixed s at t st)
  unfolding D.inner_at
  inner_walk at t st h d =
      when_has Q (D.is_in_body (D.kind_of st.opened) && is_sign "%" t.token) _ _ (λ e. procedure_end_lem (D.labels mixed s t.to) st h d (in_body_lem (D.kind_of st.opened) (is_sign "%" t.token) e)) λ _.
      when_has Q (D.begins t.token) _ _ (λ _. clause_walk t.from (D.labels mixed s at) st h d) λ _. k.halts Syntax t.from [] st h

  deep_walk : (p at : ℕ) (st : D.State) → G st → Q (D.deep_enough p st (λ _. D.clause_at mixed s p at st))
  unfolding D.deep_enough
  deep_walk p at st h = when_has Q (leb (D.depth st.opened) open_groups) _ _ (λ e. clause_walk p (D.labels mixed s at) st h (leb-true (D.depth st.opened) open_groups e)) λ _. k.halts OverLimit p (p ∷ []) st h

  alternative_walk : (j : P.Scope) (at : ℕ) (t : Lexeme) (st : D.State) → G st → Q (D.alternative_at mixed j s at t st)
  alternative_walk P.global at t st h = when_has Q (is_sign "%" t.token) _ _ (λ _. deep_walk t.from t.to st h) λ _. k.halts Syntax t.from [] st h
  alternative_walk (P.inside r) at t st h = when_has Q (D.begins t.token) _ _ (λ _. deep_walk t.from at st h) λ _. k.halts Syntax t.from [] st h

  -- ---- EVERY TURN
  pub turn_walk : (m : D.Mode) (at : ℕ) (st : D.State) → G st → Shallow m st → Q (D.turn mixed s m at st)
  unfolding D.turn
  turn_walk D.leading_text at st h d =
      texted_walk (text_end mixed (suc (length s)) s at) (λ p. D.lead_in st.opened at p st) (λ p. (lead_walk st.opened at p st h).has)
      (λ p. subst (λ (L : List D.Open). D.depth L ≤ 16) (sym (lead_walk st.opened at p st h).same) d)
  turn_walk (D.text_behind i) at st h d =
      texted_walk (text_end mixed (suc (length s)) s at) (λ p. D.with_rows (D.change i (D.set_text (D.stretch at p)) st.rows) st) (λ p. k.relinks i (D.set_text (D.stretch at p)) st (record { statement = λ r. refl; parent = λ r. refl }) h) (λ p. d)
  turn_walk D.alternative at st h d = alternative_walk st.scope at (token_at mixed s at) st h
  turn_walk D.inner at st h d = inner_walk at (token_at mixed s at) st h d
