-- EVERY TURN of the definition's reader keeps a sound state, so that every member that is read is sound. The walk of `reading` says
-- neither that texts keep links nor which names a procedure lists, so that this one goes through the statements again.
-- Assumes nothing.
use mathlib.Core.Path.{◌≡◌, refl, sym, ap, subst, ◌∙◌}
use mathlib.Core.Bool.{Bool, true, not, ◌&&◌, ◌||◌, false≢true}
use mathlib.Core.List.{List, [], ◌∷◌, ◌++◌}
use Prim.Native.Nat.{ℕ, zero, suc, ◌+◌}
use native.Mathlib.Omega.{arith}
use lib.Dec.{leb}
use lib.ListN.{length}
use Rattle.definition.specs.Bytes.{mixed}
use Rattle.definition.specs.Limits.{open_groups}
use Rattle.definition.specs.Tokens as Tk
use Rattle.definition.specs.Tokens.{Token, Lexeme, is_word, is_sign, token_at, TextEnd, percent_at, at_end, open_at, text_end}
use Rattle.definition.specs.Expressions.{Reading, read, refused, Named, name_of}
use Rattle.definition.specs.Program as P
use Rattle.definition.specs.Statements as St
use Rattle.definition.specs.Reading as D
use Rattle.definition.specs.declared.Why.{Why}
use Rattle.definition.specs.declared.Why.TheVariants.{Syntax, OverLimit}
use Rattle.definition.specs.declared.ValueType.{ValueType}
use Rattle.definition.proofs.Choices.{when_has, cond_has}
use Rattle.rows.specs.declared.Statement.{Statement}
use Rattle.rows.specs.declared.Statement.TheVariants as S
use Rattle.flow.specs.Shown.{StandsIn, Linked}
use Rattle.statements.specs.Clauses.{go_clause, do_kind}
use Rattle.openings.specs.Open.{other_at}
use Rattle.openings.proofs.Keywords.{opens_of, NoBody, OpensBoth, OpensSo, DeclaresSo, if_so, do_so, goto_so, go_so, include_so, activate_so, deactivate_so, return_so, other_so, declare_so, procedure_so}
use Rattle.reading.proofs.Walking.{too_long_lem, Ended}
use Rattle.showing.proofs.Linking.{lead_texted, text_texted}
use Rattle.showing.proofs.Meanings.{AllMean, all_means, MeanSo, declare_mean, HeadSo, procedure_head_lem, HeadIn, head_all}
use Rattle.showing.proofs.Sound.{Held, Rowed, Headed, Core, Sound, SoundTurn, start_sound, opened_core, named_rowed, named_core, texted_sound, Fits, complete_sound, taken_sound}

-- ---- a clause that was read fits
-- what opens no body is no procedure
no_procedure : (o : St.Opens) (x : P.Statement) (ns : List (List ℕ)) (v : ValueType) → NoBody o → opens_of x ≡ o → x ≡ P.procedure ns v → ⊥
no_procedure o x ns v h e f = subst (λ (z : St.Opens). NoBody z) (sym e ∙ ap opens_of f) h

fits_plain : (k : Statement) (o : St.Opens) (n : ℕ) (c : St.Clause) (es : List P.Declared) → NoBody o → OpensBoth k o c → ((rs : List P.Row) → AllMean rs es) → Fits n c es
fits_plain k o n c es h e a = record { opens = e.statement ∙ sym e.opens; names = a; heads = λ ns v f. absurd (no_procedure o c.statement ns v h e.statement f) }

same_names : (ns ms : List (List ℕ)) (v w : ValueType) → P.procedure ns v ≡ P.procedure ms w → ns ≡ ms
same_names ns ms v w e = cc

fits_procedure : (k : Statement) (o : St.Opens) (n : ℕ) (c : St.Clause) (es : List P.Declared) → OpensBoth k o c → HeadSo (P.inside n) (St.declared c es) → Fits n c es
fits_procedure k o n c es e h = record {
  opens = e.statement ∙ sym e.opens;
  names = λ rs. subst (λ (l : List P.Declared). AllMean rs l) (sym h.2) (all_means rs (P.inside n) P.parameter h.0 tt);
  heads = λ ns v f. subst (λ (l : List (List ℕ)). HeadIn (P.inside n) l es) (same_names (D.spelled h.0) ns h.1 v (sym h.3 ∙ f)) (head_all (P.inside n) h.0 es h.2);
}

-- ---- A STATEMENT at p, behind its labels ns
module _ (s : List ℕ) (p : ℕ) (ns : List Named) (st : D.State) (h : Sound st) where
  wrong : (w : Why) (q : ℕ) (es : List P.Declared) → SoundTurn (D.untaken p ns st w q es)
  wrong w q es = named_rowed (St.means st.scope (P.label 0) ns ++ es) st h.core.rowed

  take_read_lem : (i : Statement) (o : St.Opens) (R : Reading St.Clause) → NoBody o → OpensSo i o R → SoundTurn (D.take_read mixed s p ns st R)
  take_read_lem i o (read c) b e = taken_sound s p ns st c [] h (fits_plain i o (length st.rows) c [] b e (λ rs. tt))
  take_read_lem i o (refused w q) b e = wrong w q []

  take_declare : (R : St.Declaring) → DeclaresSo S.Declare St.opens_nothing R → ((rs : List P.Row) → MeanSo rs R) → SoundTurn (D.take_declared mixed s p ns st R)
  take_declare (St.declared c es) e a = taken_sound s p ns st c es h (fits_plain S.Declare St.opens_nothing (length st.rows) c es tt e a)
  take_declare (St.undeclared w q es) e a = wrong w q es

  take_procedure : (R : St.Declaring) → DeclaresSo S.Procedure St.opens_body R → HeadSo (P.inside (length st.rows)) R → SoundTurn (D.take_declared mixed s p ns st R)
  take_procedure (St.declared c es) e a = taken_sound s p ns st c es h (fits_procedure S.Procedure St.opens_body (length st.rows) c es e a)
  take_procedure (St.undeclared w q es) e a = wrong w q es

  common_sound : (t : Lexeme) (g : Unit {0} → D.Turn) → SoundTurn (g tt) → SoundTurn (D.common mixed s t st (D.take_read mixed s p ns st) g)
  unfolding D.common go_clause
  common_sound t g i =
      when_has SoundTurn (is_word "IF" t.token) _ _ (λ _. take_read_lem S.Conditional St.opens_then (St.if_clause mixed (D.is_inside st.scope) s t.to) tt (if_so (D.is_inside st.scope) s t.to)) λ _.
      when_has SoundTurn (is_word "DO" t.token) _ _ (λ _. take_read_lem (do_kind s t.to) St.opens_group (D.do_at mixed s t.from t.to st) tt (do_so s t.from t.to st)) λ _.
      when_has SoundTurn (is_word "GOTO" t.token) _ _ (λ _. take_read_lem S.Goto St.opens_nothing (St.goto_clause mixed s t.to) tt (goto_so s t.to)) λ _.
      when_has SoundTurn (is_word "GO" t.token) _ _ (λ _. take_read_lem S.Goto St.opens_nothing (go_clause s t.to) tt (go_so s t.to)) λ _. i

  list_sound : (t : Lexeme) (g : Unit {0} → D.Turn) → SoundTurn (g tt) → SoundTurn (D.in_list mixed s p ns t st g)
  unfolding D.in_list
  list_sound t g i =
      when_has SoundTurn (D.is_list (D.kind_of st.opened) && D.is_declare t.token) _ _
      (λ _. take_declare (St.declare_from mixed st.scope s (length s) [] t.to) (declare_so st.scope s (length s) [] t.to) (λ rs. declare_mean rs s st.scope (length s) [] t.to tt)) λ _.
      when_has SoundTurn (D.is_list (D.kind_of st.opened) && not (D.is_inside st.scope) && not (D.is_none ns) && D.is_procedure t.token) _ _
      (λ _. take_procedure (St.procedure_clause mixed (P.inside (length st.rows)) s t.to) (procedure_so (P.inside (length st.rows)) s t.to) (procedure_head_lem s (P.inside (length st.rows)) t.to)) λ _. i

  outer_sound : (j : P.Scope) (t : Lexeme) (g : Unit {0} → D.Turn) → SoundTurn (g tt) → SoundTurn (D.outer mixed j s t (D.take_read mixed s p ns st) g)
  outer_sound P.global t g i =
      when_has SoundTurn (is_word "INCLUDE" t.token) _ _ (λ _. take_read_lem S.Include St.opens_nothing (St.include_clause mixed s t.to) tt (include_so s t.to)) λ _.
      when_has SoundTurn (is_word "ACTIVATE" t.token || is_word "ACT" t.token) _ _ (λ _. take_read_lem S.Activate St.opens_nothing (St.activate_clause mixed s t.to) tt (activate_so s t.to)) λ _.
      when_has SoundTurn (is_word "DEACTIVATE" t.token || is_word "DEACT" t.token) _ _ (λ _. take_read_lem S.Deactivate St.opens_nothing (St.deactivate_clause mixed s t.to) tt (deactivate_so s t.to)) λ _. i
  outer_sound (P.inside r) t g i = when_has SoundTurn (is_word "RETURN" t.token) _ _ (λ _. take_read_lem S.Return St.opens_nothing (St.return_clause mixed s t.to) tt (return_so s t.to)) λ _. i

  word_sound : (w : List ℕ) (t u : Lexeme) → SoundTurn (D.by_word mixed s p ns w t u st)
  unfolding D.by_word other_at
  word_sound w t u =
      when_has SoundTurn (is_sign "=" u.token) _ _ (λ e. take_read_lem S.Assign St.opens_nothing (St.assignment mixed s w u.to) tt (rw e at (other_so s w u))) λ _.
      common_sound t _ (outer_sound st.scope t _ (list_sound t _ (wrong Syntax u.from [])))

  name_sound : (n : Reading Named) (t : Lexeme) → SoundTurn (D.by_name mixed n s p ns t st)
  name_sound (read n) t = word_sound n.spelling t (token_at mixed s t.to)
  name_sound (refused w q) t = wrong w q []

  null_fits : (to : ℕ) → Fits (length st.rows) (St.clause P.null St.opens_nothing to) []
  null_fits to = record { opens = refl; names = λ rs. tt; heads = λ ms v f. absurd (no_procedure St.opens_nothing P.null ms v tt refl f) }

  token_sound : (x : Token) (t : Lexeme) → SoundTurn (D.by_token mixed x s p ns t st)
  token_sound (Tk.word w) t = name_sound (name_of (Tk.word w) t.from t.to) t
  token_sound (Tk.integer w) t = wrong Syntax t.from []
  token_sound (Tk.string w) t = wrong Syntax t.from []
  token_sound (Tk.bits w) t = wrong Syntax t.from []
  token_sound (Tk.sign w) t = when_has SoundTurn (is_sign ";" (Tk.sign w)) _ _ (λ _. taken_sound s p ns st (St.clause P.null St.opens_nothing t.to) [] h (null_fits t.to)) λ _. wrong Syntax t.from []
  token_sound Tk.nothing t = wrong Syntax t.from []
  token_sound Tk.wrong t = wrong Syntax t.from []

-- ---- END
module _ (s : List ℕ) where
  ended_sound : (w : D.Where) (k : ℕ) (l : P.Link) (bs : List (List ℕ)) (os : List D.Open) (ns : List Named) (at : ℕ) (st : D.State) → Core st → Held st.rows (record { kind = w; row = k; last = l; labels = bs } ∷ os) → Ended w
      → (R : Reading ℕ) → SoundTurn (D.end_read mixed s ns (record { kind = w; row = k; last = l; labels = bs }) os st R)
  ended_sound D.in_program k l bs os ns at st h a x R = absurd x
  ended_sound D.in_group k l bs os ns at st h a x (read e) =
      let ds : List P.Declared = St.means st.scope (P.end_label k) ns in
      complete_sound s os k e (D.with_opened os st.scope (D.with_names ds st)) (opened_core os st.scope (D.with_names ds st) (named_core ds st (all_means st.rows st.scope (P.end_label k) ns (a.0.row k refl)) h)) a.1
  ended_sound D.in_body k l bs os ns at st h a x (read e) =
      let ds : List P.Declared = St.means st.scope (P.end_label k) ns in
      complete_sound s os k e (D.with_opened os P.global (D.with_names ds st)) (opened_core os P.global (D.with_names ds st) (named_core ds st (all_means st.rows st.scope (P.end_label k) ns (a.0.row k refl)) h)) a.1
  ended_sound D.in_group k l bs os ns at st h a x (refused w q) = named_rowed (St.means st.scope (P.end_label k) ns) st h.rowed
  ended_sound D.in_body k l bs os ns at st h a x (refused w q) = named_rowed (St.means st.scope (P.end_label k) ns) st h.rowed
  ended_sound D.in_then k l bs os ns at st h a x R = absurd x
  ended_sound D.in_else k l bs os ns at st h a x R = absurd x

  end_sound : (L : List D.Open) (ns : List Named) (at : ℕ) (st : D.State) → Core st → Held st.rows L → Ended (D.kind_of L) → SoundTurn (D.end_at mixed s ns at L st)
  end_sound [] ns at st h a x = absurd x
  end_sound (o ∷ os) ns at st h a x = ended_sound o.kind o.row o.last o.labels os ns at st h a x (D.end_name mixed s o.labels at)

  in_group_lem : (w : D.Where) (b : Bool) → (D.is_in_group w && b) ≡ true → Ended w
  in_group_lem D.in_program b e = absurd (false≢true e)
  in_group_lem D.in_group b e = tt
  in_group_lem D.in_body b e = tt
  in_group_lem D.in_then b e = absurd (false≢true e)
  in_group_lem D.in_else b e = absurd (false≢true e)

  in_body_lem : (w : D.Where) (b : Bool) → (D.is_in_body w && b) ≡ true → Ended w
  in_body_lem D.in_program b e = absurd (false≢true e)
  in_body_lem D.in_group b e = tt
  in_body_lem D.in_body b e = tt
  in_body_lem D.in_then b e = absurd (false≢true e)
  in_body_lem D.in_else b e = absurd (false≢true e)

  -- ---- clauses, texts, what stands in a procedure, alternatives
  clause_sound : (p : ℕ) (L : D.Labelled) (st : D.State) → Sound st → SoundTurn (D.clause_from mixed s p L st)
  unfolding D.clause_from D.is_full
  clause_sound p L st h =
      when_has SoundTurn (D.is_in_group (D.kind_of st.opened) && D.is_end mixed s L.behind) _ _
      (λ e. too_long_lem SoundTurn L.long _ _ (λ q. named_rowed (St.means st.scope (P.label 0) L.labels) st h.core.rowed)
      (end_sound st.opened L.labels L.behind.to st h.core h.held (in_group_lem (D.kind_of st.opened) (D.is_end mixed s L.behind) e))) λ _.
      when_has SoundTurn (leb 1024 (length st.rows)) _ _ (λ _. h.core.rowed) λ _.
      too_long_lem SoundTurn L.long _ _ (λ q. wrong s p L.labels st h OverLimit q []) (token_sound s p L.labels st h L.behind.token L.behind)

  texted_turn : (E : TextEnd) (f : ℕ → D.State) → ((p : ℕ) → Sound (f p)) → SoundTurn (D.texted mixed E s f)
  texted_turn (percent_at p) f h = clause_sound p (D.labels mixed s (p + 1)) (f p) (h p)
  texted_turn at_end f h = cond_has SoundTurn (leb (length (f 0).opened) 1) _ _ (λ _. h (length s)) λ _. (h (length s)).core.rowed
  texted_turn (open_at p) f h = (h p).core.rowed

  lead_by_lem : (w : D.Where) (i : ℕ) (l : P.Link) (bs : List (List ℕ)) (os : List D.Open) (a b : ℕ) (st : D.State) → Sound st → Sound (D.lead_in (record { kind = w; row = i; last = l; labels = bs } ∷ os) a b st)
  lead_by_lem D.in_program i l bs os a b st h = record { core = record { rowed = record { linked = h.core.rowed.linked; first = h.core.rowed.first }; names = h.core.names; heads = h.core.heads }; held = h.held }
  lead_by_lem D.in_group i l bs os a b st h = texted_sound (D.change i (D.set_lead (D.stretch a b)) st.rows) st (lead_texted i (D.stretch a b) st.rows) h
  lead_by_lem D.in_body i l bs os a b st h = h
  lead_by_lem D.in_then i l bs os a b st h = h
  lead_by_lem D.in_else i l bs os a b st h = h

  lead_sound : (L : List D.Open) (a b : ℕ) (st : D.State) → Sound st → Sound (D.lead_in L a b st)
  lead_sound [] a b st h = h
  lead_sound (o ∷ os) a b st h = lead_by_lem o.kind o.row o.last o.labels os a b st h

  not_end_lem : (n : Reading Named) (st : D.State) → Rowed st → SoundTurn (D.not_end mixed n s st)
  not_end_lem (read n) st h = h
  not_end_lem (refused w p) st h = h

  procedure_end_lem : (L : D.Labelled) (st : D.State) → Sound st → Ended (D.kind_of st.opened) → SoundTurn (D.procedure_end mixed s L st)
  procedure_end_lem L st h x =
      let named : Rowed (D.named L.labels st) = named_rowed (St.means st.scope (P.label 0) L.labels) st h.core.rowed in
      too_long_lem SoundTurn L.long _ _ (λ q. named)
      (when_has SoundTurn (is_word "END" L.behind.token) _ _ (λ _. end_sound st.opened L.labels L.behind.to st h.core h.held x) λ _.
      not_end_lem (name_of L.behind.token L.behind.from L.behind.to) (D.named L.labels st) named)

  inner_sound : (at : ℕ) (t : Lexeme) (st : D.State) → Sound st → SoundTurn (D.inner_at mixed s at t st)
  unfolding D.inner_at
  inner_sound at t st h =
      when_has SoundTurn (D.is_in_body (D.kind_of st.opened) && is_sign "%" t.token) _ _ (λ e. procedure_end_lem (D.labels mixed s t.to) st h (in_body_lem (D.kind_of st.opened) (is_sign "%" t.token) e)) λ _.
      when_has SoundTurn (D.begins t.token) _ _ (λ _. clause_sound t.from (D.labels mixed s at) st h) λ _. h.core.rowed

  deep_sound : (p at : ℕ) (st : D.State) → Sound st → SoundTurn (D.deep_enough p st (λ _. D.clause_at mixed s p at st))
  unfolding D.deep_enough
  deep_sound p at st h = when_has SoundTurn (leb (D.depth st.opened) open_groups) _ _ (λ _. clause_sound p (D.labels mixed s at) st h) λ _. h.core.rowed

  alternative_sound : (j : P.Scope) (at : ℕ) (t : Lexeme) (st : D.State) → Sound st → SoundTurn (D.alternative_at mixed j s at t st)
  alternative_sound P.global at t st h = when_has SoundTurn (is_sign "%" t.token) _ _ (λ _. deep_sound t.from t.to st h) λ _. h.core.rowed
  alternative_sound (P.inside r) at t st h = when_has SoundTurn (D.begins t.token) _ _ (λ _. deep_sound t.from at st h) λ _. h.core.rowed

  -- ---- EVERY TURN
  turn_sound : (m : D.Mode) (at : ℕ) (st : D.State) → Sound st → SoundTurn (D.turn mixed s m at st)
  unfolding D.turn
  turn_sound D.leading_text at st h = texted_turn (text_end mixed (suc (length s)) s at) (λ p. D.lead_in st.opened at p st) λ p. lead_sound st.opened at p st h
  turn_sound (D.text_behind i) at st h =
      texted_turn (text_end mixed (suc (length s)) s at) (λ p. D.with_rows (D.change i (D.set_text (D.stretch at p)) st.rows) st) λ p.
      texted_sound (D.change i (D.set_text (D.stretch at p)) st.rows) st (text_texted i (D.stretch at p) st.rows) h
  turn_sound D.alternative at st h = alternative_sound st.scope at (token_at mixed s at) st h
  turn_sound D.inner at st h = inner_sound at (token_at mixed s at) st h

-- ---- THE MEMBER
pub record SoundSource (x : P.Source) : Type 0 where
  pub linked : Linked x.rows
  pub first : (n : ℕ) → x.first ≡ P.row n → StandsIn x.rows n P.nowhere
  pub names : x.fault ≡ P.sound → AllMean x.rows x.declared
  pub heads : x.fault ≡ P.sound → Headed x.rows x.declared
  pub begun : x.fault ≡ P.sound → length x.begun ≡ length x.rows

pub faulty_not : {A : Type 0} (w : Why) (p : ℕ) → P.faulty w p ≡ P.sound → A
faulty_not w p e = let z : ◌≡◌ {A = ℕ} 0 1 = cc in absurd (omega arith)

-- each row is a sentence
places_size : (rs : List P.Row) → length (D.places rs ++ []) ≡ length rs
places_size [] = refl
places_size (r ∷ rs) = ap suc (places_size rs)

rowed_source : (st : D.State) (begun : List ℕ) (w : Why) (p : ℕ) → Rowed st → SoundSource (D.source st begun (P.faulty w p))
rowed_source st begun w p h = record { linked = h.linked; first = h.first; names = λ e. faulty_not w p e; heads = λ e. faulty_not w p e; begun = λ e. faulty_not w p e }

sound_source : (st : D.State) → Sound st → SoundSource (D.source st [] P.sound)
sound_source st h = record { linked = h.core.rowed.linked; first = h.core.rowed.first; names = λ e. h.core.names; heads = λ e. h.core.heads; begun = λ e. places_size st.rows }

read_sound : (s : List ℕ) (f : ℕ) (t : D.Turn) → SoundTurn t → SoundSource (D.read_on mixed s f t)
unfolding D.read_on
read_sound s zero (D.go m at st) h = rowed_source st [] Syntax at h.core.rowed
read_sound s zero (D.stop w p begun st) h = rowed_source st begun w p h
read_sound s zero (D.finish st) h = sound_source st h
read_sound s (suc f) (D.go m at st) h = read_sound s f (D.turn mixed s m at st) (turn_sound s m at st h)
read_sound s (suc f) (D.stop w p begun st) h = rowed_source st begun w p h
read_sound s (suc f) (D.finish st) h = sound_source st h

-- every member that is read
pub member_sound : (s : List ℕ) → SoundSource (D.read_member mixed s)
unfolding D.read_member
member_sound s = read_sound s (suc (suc (length s))) (D.go D.leading_text 0 D.start) start_sound

pub linked_read : (s : List ℕ) → Linked (D.read_member mixed s).rows
linked_read s = (member_sound s).linked

pub first_read : (s : List ℕ) (n : ℕ) → (D.read_member mixed s).first ≡ P.row n → StandsIn (D.read_member mixed s).rows n P.nowhere
first_read s n e = (member_sound s).first n e

-- bodies and labels, where nothing stopped the reading: each name means a row that is there
pub names_read_lem : (s : List ℕ) → (D.read_member mixed s).fault ≡ P.sound → AllMean (D.read_member mixed s).rows (D.read_member mixed s).declared
names_read_lem s e = (member_sound s).names e
