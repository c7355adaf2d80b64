-- A statement by its first word: what it reads is the definition's clause, and its names are entered. One law for each way out.
-- Assumes nothing.
use Rattle.statements.specs.Types.{Read}
use Rattle.std.proofs.Common.{Option, Some, None, Err}
use mathlib.Core.Path.{◌≡◌, refl, sym, ap, subst, ◌∙◌}
use mathlib.Core.Logic.{◌⊎◌, inl, inr}
use mathlib.Core.Bool.{Bool, true, false, cond, ◌&&◌, false≢true}
use mathlib.Core.List.{List, [], ◌∷◌, ◌++◌}
use Prim.Native.String as Str
use Prim.Native.Nat.{ℕ, ◌-◌, ◌<◌, ◌≤◌}
use native.Mathlib.Omega.{arith}
use lib.ListN.{length}
use borrow.Author.Tests.{le-leb, lt-ltb, le-ltb}
use Rattle.definition.specs.Bytes.{mixed, folded}
use Rattle.definition.specs.Lists.{part}
use Rattle.definition.specs.Choice.{when}
use Rattle.definition.specs.Tokens as Tk
use Rattle.definition.specs.Tokens.{token_at}
use Rattle.definition.specs.Expressions.{Reading, read, refused, then, Tree, Parsed, Named, name_of, name_at, expect_sign, expect_word, whole_expression}
use Rattle.definition.specs.Program as P
use Rattle.definition.specs.Statements as St
use Rattle.definition.specs.Reading as D
use Rattle.definition.specs.declared.Why.TheVariants.{Syntax, OverLimit}
use Rattle.definition.specs.declared.ValueType.TheVariants.{FixedType}
use Rattle.definition.specs.Text.{bytes_of}
use Rattle.definition.proofs.Folded.{length_folded}
use Rattle.definition.proofs.Ends.{Real}
use Rattle.definition.proofs.Parts.{length_part}
use Rattle.tokens.specs.declared.Lexeme.{Lexeme}
use Rattle.tokens.specs.declared.Kind.{Kind}
use Rattle.tokens.specs.declared.Kind.TheVariants as Kd
use Rattle.tokens.specs.Answer.{written, Lexed, spelling, content, is_word_kind, token_for}
use Rattle.tokens.proofs.Lexemes.{token_is}
use Rattle.expressions.specs.Check.{is_spelled}
use Rattle.rows.specs.declared.Statement.{Statement}
use Rattle.rows.specs.declared.Statement.TheVariants as S
use Rattle.entering.specs.declared.Tally.{Tally}
use Rattle.entering.specs.Book.{Book, Roomy, Entered, book_all, book_whole, book_of}
use Rattle.statements.specs.declared.Keyword.{Keyword}
use Rattle.statements.specs.declared.Keyword.TheVariants as K
use Rattle.statements.specs.declared.Declaring.{Declaring}
use Rattle.statements.specs.Clauses.{scope_of, is_inside, Own, read_for, read_procedure, is_read, plain_for, do_kind, go_clause, clause_in, names_in, parameter_twice, tally_twice, procedure_tally, DeclaresIf, Declares, Heads}
use Rattle.statements.specs.Again.{statement_at}
use Rattle.statements.proofs.Rereading.{again_goto, again_include, again_activate, again_deactivate, again_return, again_do, again_go, again_if, again_assign}
use Rattle.openings.specs.Open.{opens_by, other_at, other_for, by_keyword, Deep}
use Rattle.openings.proofs.Laws.{name_kind}
use Rattle.openings.proofs.Ends.{inside_is}
use Rattle.openings.proofs.Keywords.{OpensSo, DeclaresSo, NoBody, type_plain, if_so, do_so, goto_so, go_so, include_so, deactivate_so, activate_so, return_so, other_so, declare_so, procedure_so}
use Rattle.reading.specs.declared.State.{State}
use Rattle.reading.specs.declared.Next.TheVariants as Nx
use Rattle.reading.specs.declared.Turned.{Turned}
use Rattle.reading.specs.State.{rows_from, state_of, turn_of, with_tally, turned, Placed, Stood, Taken, TakesAs, from_state}
use Rattle.reading.specs.Sentences.{Comes, Clausal, Begun, ByWord}
use Rattle.reading.proofs.Rows.{rows_length}
use Rattle.reading.proofs.Places.{token_on}
use Rattle.reading.proofs.Parameters.{AllPlain, Almost, procedure_names, procedure_refused, whole_almost}
use Rattle.reading.proofs.Owners.{declare_plain}
use Rattle.reading.proofs.Endings.{takes_refused}
use Rattle.reading.proofs.Closing.{Onward, complete_onward, entered_plain}
use Rattle.reading.proofs.Rescoping.{again_declare_in, again_procedure}

-- ---- the definition's turn at a statement that was read goes on, with its names
add_declared : (L : List D.Open) (y : P.Statement) (p : ℕ) (st : D.State) → (D.add_to L y p st).declared ≡ st.declared
add_declared [] y p st = refl
add_declared (o ∷ os) y p st = by o.kind
  where
    by : (w : D.Where) → (D.add_in w o os y p st).declared ≡ st.declared
    by D.in_program = refl
    by D.in_group = refl
    by D.in_body = refl
    by D.in_then = refl
    by D.in_else = refl

opened_onward : (o : St.Opens) (s : List ℕ) (n : ℕ) (ns : List Named) (e : ℕ) (st : D.State) → Onward st.declared (D.opened mixed o s n ns e st)
opened_onward St.opens_nothing s n ns e st = complete_onward s e st.opened n st
opened_onward St.opens_group s n ns e st = refl
opened_onward St.opens_body s n ns e st = refl
opened_onward St.opens_then s n ns e st = refl

taken_onward : (s : List ℕ) (p : ℕ) (ns : List Named) (st : D.State) (c : St.Clause) (es : List P.Declared) → Onward (st.declared ++ (St.means st.scope (D.label_meaning c.opens (length st.rows)) ns ++ es)) (D.taken mixed s p ns st c es)
unfolding D.taken D.add_row
taken_onward s p ns st c es =
    let ms : List P.Declared = St.means st.scope (D.label_meaning c.opens (length st.rows)) ns ++ es in
    let y : D.State = D.with_names ms (D.add_to st.opened c.statement p st) in
    subst (λ (z : List P.Declared). Onward (z ++ ms) (D.opened mixed c.opens s (length st.rows) ns c.to y)) (add_declared st.opened c.statement p st) (opened_onward c.opens s (length st.rows) ns c.to y)

comes_onward : (d s n : List ℕ) (x : State) (ds wrong es : List P.Declared) (t' n' : List ℕ) (r : Turned) (X : D.Turn) → Onward ds X → turn_of s t' ds r ≡ X
    → Entered d n x.tally (book_whole x.tally.member [] es) n' r.state.tally → Comes d s n x ds wrong es X t' n' r
comes_onward d s n x ds wrong es t' n' r (D.go m at st) h e f = record { turn = e; declared = h; entered = f }
comes_onward d s n x ds wrong es t' n' r (D.stop w p begun st) h e f = absurd h
comes_onward d s n x ds wrong es t' n' r (D.finish st) h e f = record { turn = e; declared = h; entered = f }

-- ---- a statement that was read or not, with its names entered
abbrev NamesOf : List ℕ → List ℕ → State → List ℕ → Tally → St.Declaring → Type 0
NamesOf d n x n' z (St.declared c es) = Entered d n x.tally (book_whole x.tally.member [] es) n' z
NamesOf d n x n' z (St.undeclared w q es) = ((book_of d n' z).identifiers ≡ (book_all x.tally.member es (book_of d n x.tally)).identifiers) × ((book_of d n' z).past ≡ (book_all x.tally.member es (book_of d n x.tally)).past)

module _ (d s t n : List ℕ) (x : State) (l : Lexeme) (from p labels : ℕ) (ns : List Named) (i : Begun d s t n x l from p labels ns) (k : Statement) (o : St.Opens) (t' n' : List ℕ) (r : Turned) (z : Tally) (y : Read) (h : TakesAs s t (with_tally x z) y p labels t' r) (mine : z.member ≡ x.tally.member) where
  placed : Placed s t (with_tally x z)
  placed = record { room = i.sits.placed.room; own = i.sits.placed.own; stand = i.sits.placed.stand; some = i.sits.placed.some; deep = i.sits.placed.deep }

  kept : Own x.tally.member r.state.scope
  kept = subst (λ (m : ℕ). Own m r.state.scope) mine (h.keeps.own (subst (λ (m : ℕ). Own m x.scope) (sym mine) i.sits.ready.own))

  pub clausal : (Q : St.Declaring) → Stood s y (clause_in Q) → DeclaresSo k o Q → NamesOf d n x n' z Q → Clausal d s t n x (D.label_meaning o x.rows) ns (D.take_declared mixed s p ns (from_state s t x) Q) t' n' r
  unfolding state_of
  clausal (St.declared c es) g so e =
      let ds : List P.Declared = St.means (scope_of x.scope) (D.label_meaning c.opens x.rows) ns ++ es in
      let on : Onward ds (D.taken mixed s p ns (from_state s t x) c es) = subst (λ (k : ℕ). Onward (St.means (scope_of x.scope) (D.label_meaning c.opens k) ns ++ es) (D.taken mixed s p ns (from_state s t x) c es)) (rows_length s t 0 x.rows) (taken_onward s p ns (from_state s t x) c es) in
      let tk : Taken s t (with_tally x z) p t' r ns [] es (read c) = h.is (read c) ns [] es g placed i.room (omega (arith, i.sits.placed.deep)) i.place i.labelled in
      record {
        names = es;
        comes = subst (λ (a : St.Opens). Comes d s n x (St.means (scope_of x.scope) (D.label_meaning a x.rows) ns ++ es) (St.means (scope_of x.scope) (P.label 0) ns ++ es) es (D.taken mixed s p ns (from_state s t x) c es) t' n' r) so.opens
            (comes_onward d s n x ds (St.means (scope_of x.scope) (P.label 0) ns ++ es) es t' n' r (D.taken mixed s p ns (from_state s t x) c es) on tk (subst (λ (u : Tally). Entered d n x.tally (book_whole x.tally.member [] es) n' u) (sym h.keeps.tally) e));
        before = h.keeps.entered;
        few = h.rows i.room;
        own = kept;
        size = h.size;
        marks = h.marks (read c) g placed i.room;
      }
  clausal (St.undeclared w q es) g so e =
      let tk : Taken s t (with_tally x z) p t' r ns [] es (refused w q) = h.is (refused w q) ns [] es g placed i.room (omega (arith, i.sits.placed.deep)) i.place i.labelled in
      record {
        names = es;
        comes = record {
          next = ap (λ (u : Turned). u.next) tk.0;
          rows = ap (λ (u : List ℕ). rows_from s u 0 r.state.rows) tk.1 ∙ ap (λ (u : Turned). rows_from s t 0 u.state.rows) tk.0;
          declared = refl;
          names = ap (λ (u : Tally). (book_of d n' u).identifiers) h.keeps.tally ∙ e.0;
          past = ap (λ (u : Tally). (book_of d n' u).past) h.keeps.tally ∙ e.1;
        };
        before = h.keeps.entered;
        few = h.rows i.room;
        own = kept;
        size = h.size;
        marks = h.marks (refused w q) g placed i.room;
      }

-- without names
module _ (d s t n : List ℕ) (x : State) (l : Lexeme) (from p labels : ℕ) (ns : List Named) (i : Begun d s t n x l from p labels ns) (k : Statement) (o : St.Opens) (t' : List ℕ) (r : Turned) (y : Read) (h : TakesAs s t x y p labels t' r) where
  pub clausal_read : (R : Reading St.Clause) → Stood s y R → OpensSo k o R → Clausal d s t n x (D.label_meaning o x.rows) ns (D.take_read mixed s p ns (from_state s t x) R) t' n r
  unfolding book_all book_whole
  clausal_read (read c) g so = clausal d s t n x l from p labels ns i k o t' n r x.tally y h refl (St.declared c []) g so (record { book = refl; roomy = i.sits.ready.roomy; member = refl; base = refl })
  clausal_read (refused w q) g so = clausal d s t n x l from p labels ns i k o t' n r x.tally y h refl (St.undeclared w q []) g tt (refl, refl)

-- ---- what is read again
stood_for : (s : List ℕ) (k : Statement) (o : St.Opens) → NoBody o → (c : ℕ) (R : Reading St.Clause) → OpensSo k o R → ((x : St.Clause) → R ≡ read x → c < 65536) → ((x : St.Clause) → R ≡ read x → statement_at s k c ≡ x.statement) → Stood s (read_for k c FixedType R) R
unfolding read_for
stood_for s k o nb c (read x) so lc f = record { statement = f x refl; content = lc x refl; opens = refl; to = refl; kind = sym so.kind; type = type_plain x.statement (subst NoBody (sym so.statement) nb) }
stood_for s k o nb c (refused w q) so lc f = (refl, refl)

real_name : (t : Tk.Token) → D.is_name t ≡ true → Real t
real_name (Tk.word w) e = tt
real_name (Tk.integer w) e = absurd (false≢true e)
real_name (Tk.string w) e = absurd (false≢true e)
real_name (Tk.bits w) e = absurd (false≢true e)
real_name (Tk.sign w) e = absurd (false≢true e)
real_name Tk.nothing e = absurd (false≢true e)
real_name Tk.wrong e = absurd (false≢true e)

-- a word ends inside
word_end : (d s t n : List ℕ) (x : State) (l : Lexeme) (from p labels : ℕ) (ns : List Named) → Begun d s t n x l from p labels ns → is_word_kind l.kind ≡ true → (token_at mixed s from).to < 65536
word_end d s t n x l from p labels ns i e =
    let b : ((token_at mixed s from).from < (token_at mixed s from).to) × ((token_at mixed s from).to ≤ length s) = (token_on s from).some (real_name (token_at mixed s from).token (sym (name_kind (token_at mixed s from).token) ∙ ap is_word_kind (sym i.lexed.kind) ∙ e)) in
    omega (arith, b.1, i.sits.short)

-- ---- GO TO, DO and assignments
word_real : (W : Str.String) (t : Tk.Token) → Tk.is_word W t ≡ true → Real t
word_real W (Tk.word x) e = tt
word_real W (Tk.integer x) e = tt
word_real W (Tk.string x) e = tt
word_real W (Tk.bits x) e = tt
word_real W (Tk.sign x) e = tt
word_real W Tk.nothing e = absurd (false≢true e)
word_real W Tk.wrong e = absurd (false≢true e)

go_end : (s : List ℕ) (at : ℕ) (z : St.Clause) → go_clause s at ≡ read z → (token_at mixed s at).to ≤ length s
unfolding go_clause expect_word
go_end s at z h = ((token_on s at).some (word_real "TO" (token_at mixed s at).token (there (Tk.is_word "TO" (token_at mixed s at).token) (token_at mixed s at).to (token_at mixed s at).from h))).1
  where
    there : (g : Bool) (to fr : ℕ) → then (cond g (read to) (refused Syntax fr)) (St.goto_clause mixed s) ≡ read z → g ≡ true
    there true to fr e = refl
    there false to fr e = let q : ◌≡◌ {A = ℕ} 0 1 = cc in absurd (omega arith)

do_there : (s : List ℕ) (from to : ℕ) (st : D.State) (m : ℕ) → m ≡ D.depth st.opened → m < 16 → D.do_at mixed s from to st ≡ St.do_clause mixed s to
unfolding D.do_at
do_there s from to st m e h = rw (← e, lt-ltb m 16 h)

do_deep : (s : List ℕ) (from to : ℕ) (st : D.State) (m : ℕ) → m ≡ D.depth st.opened → 16 ≤ m → D.do_at mixed s from to st ≡ refused OverLimit from
unfolding D.do_at
do_deep s from to st m e h = rw (← e, le-ltb m 16 h)

-- the target is no part of what is kept
assign_stood : (s w : List ℕ) (at c : ℕ) → c < 65536 → ((z : St.Clause) → St.assignment mixed s w at ≡ read z → statement_at s S.Assign c ≡ z.statement) → Stood s (read_for S.Assign c FixedType (St.assignment mixed s [] at)) (St.assignment mixed s w at)
unfolding St.assignment St.ended read_for
assign_stood s w at c lc f = by_tree (whole_expression mixed s at) f
  where
    by_sign : (T : Tree) (Q : Reading ℕ) → ((z : St.Clause) → then Q (λ e. read (St.clause (P.assign w T) St.opens_nothing e)) ≡ read z → statement_at s S.Assign c ≡ z.statement) → Stood s (read_for S.Assign c FixedType (then Q (λ e. read (St.clause (P.assign [] T) St.opens_nothing e)))) (then Q (λ e. read (St.clause (P.assign w T) St.opens_nothing e)))
    by_sign T (read e) g = record { statement = g (St.clause (P.assign w T) St.opens_nothing e) refl; content = lc; opens = refl; to = refl; kind = refl; type = refl }
    by_sign T (refused v q) g = (refl, refl)

    by_tree : (R : Reading Parsed) → ((z : St.Clause) → then R (λ r. then (expect_sign mixed ";" s r.to) (λ e. read (St.clause (P.assign w r.tree) St.opens_nothing e))) ≡ read z → statement_at s S.Assign c ≡ z.statement)
        → Stood s (read_for S.Assign c FixedType (then R (λ r. then (expect_sign mixed ";" s r.to) (λ e. read (St.clause (P.assign [] r.tree) St.opens_nothing e))))) (then R (λ r. then (expect_sign mixed ";" s r.to) (λ e. read (St.clause (P.assign w r.tree) St.opens_nothing e))))
    by_tree (read r) g = by_sign r.tree (expect_sign mixed ";" s r.to) g
    by_tree (refused v q) g = (refl, refl)

other_stood : (s : List ℕ) (c : ℕ) (w : List ℕ) (u : Tk.Lexeme) (g : Bool) → c < 65536 → ((z : St.Clause) → g ≡ true → St.assignment mixed s w u.to ≡ read z → statement_at s S.Assign c ≡ z.statement)
    → Stood s (read_for S.Assign c FixedType (when g (λ _. St.assignment mixed s [] u.to) (λ _. refused Syntax u.from))) (when g (λ _. St.assignment mixed s w u.to) (λ _. refused Syntax u.from))
unfolding read_for
other_stood s c w u true lc f = assign_stood s w u.to c lc (λ z h. f z refl h)
other_stood s c w u false lc f = (refl, refl)

equals_there : (s : List ℕ) (at : ℕ) → Tk.is_sign "=" (token_at mixed s at).token ≡ true → expect_sign mixed "=" s at ≡ read (token_at mixed s at).to
unfolding expect_sign
equals_there s at e = rw e

word_kind : (k : Kind) (x y : List ℕ) → is_word_kind k ≡ true → token_for k x y ≡ Tk.word (folded mixed x)
word_kind Kd.Word x y e = refl
word_kind Kd.Integer x y e = absurd (false≢true e)
word_kind Kd.String x y e = absurd (false≢true e)
word_kind Kd.Bits x y e = absurd (false≢true e)
word_kind Kd.Sign x y e = absurd (false≢true e)
word_kind Kd.Nothing x y e = absurd (false≢true e)
word_kind Kd.Wrong x y e = absurd (false≢true e)

named_word : (s : List ℕ) (at : ℕ) (l : Lexeme) → Lexed s at l → is_word_kind l.kind ≡ true → l.to - l.from ≤ 31 → name_at mixed s at ≡ read (record { spelling = spelling s l; place = (token_at mixed s at).from; to = (token_at mixed s at).to })
unfolding name_at written
named_word s at l lex w h =
    ap (λ (u : Tk.Token). name_of u (token_at mixed s at).from (token_at mixed s at).to) (token_is s at l lex ∙ word_kind l.kind (written s l) (content s l.from) w)
    ∙ ap (λ (b : Bool). cond b (read (record { spelling = spelling s l; place = (token_at mixed s at).from; to = (token_at mixed s at).to })) (refused OverLimit (token_at mixed s at).from)) (le-leb (length (spelling s l)) 31 (omega (arith, length_folded mixed (part (l.to - l.from) l.from s), length_part (l.to - l.from) l.from s, h)))

-- ---- one law for each keyword
module _ (d s t n : List ℕ) (x : State) (k : Keyword) (l : Lexeme) (from p labels : ℕ) (t' : List ℕ) (r : Turned) (y : Read) (h : TakesAs s t x y p labels t' r) where
  -- the clause R of the definition is what y reads again
  by : (q : Keyword) → k ≡ q → (kind : Statement) (R : Reading St.Clause) → OpensSo kind (opens_by q) R → ((ns : List Named) → Begun d s t n x l from p labels ns → is_word_kind l.kind ≡ true → l.to - l.from ≤ 31 → Stood s y R)
      → ((ns : List Named) → by_keyword q s p ns (spelling s l) (token_at mixed s from) (token_at mixed s (token_at mixed s from).to) (from_state s t x) ≡ D.take_read mixed s p ns (from_state s t x) R) → ByWord d s t n x k l from p labels t' n r
  by q e kind R so st f = rw e (record {
    so = λ ns i w c. subst (λ (X : D.Turn). Clausal d s t n x (D.label_meaning (opens_by q) x.rows) ns X t' n r) (sym (f ns)) (clausal_read d s t n x l from p labels ns i kind (opens_by q) t' r y h R (st ns i w c) so);
  })

  -- behind the word
  at_word : (F : ℕ → Read) → y ≡ F l.to → Lexed s from l → y ≡ F (token_at mixed s from).to
  at_word F e lex = e ∙ ap F lex.to

  plain : (o : St.Opens) → NoBody o → (kind : Statement) (R : ℕ → Reading St.Clause) → ((c : ℕ) → OpensSo kind o (R c)) → (F : ℕ → Read) → ((c : ℕ) → F c ≡ read_for kind c FixedType (R c)) → ((c : ℕ) (z : St.Clause) → R c ≡ read z → statement_at s kind c ≡ z.statement) → y ≡ F l.to
      → (ns : List Named) → Begun d s t n x l from p labels ns → is_word_kind l.kind ≡ true → l.to - l.from ≤ 31 → Stood s y (R (token_at mixed s from).to)
  plain o nb kind R so F g a e ns i w c = subst (λ (u : Read). Stood s u (R (token_at mixed s from).to)) (sym (at_word F e i.lexed ∙ g (token_at mixed s from).to)) (stood_for s kind o nb (token_at mixed s from).to (R (token_at mixed s from).to) (so (token_at mixed s from).to) (λ z q. word_end d s t n x l from p labels ns i w) (a (token_at mixed s from).to))

  word_goto : (b : Bool) → k ≡ K.Goto → y ≡ plain_for k b s l.from l.to → ByWord d s t n x k l from p labels t' n r
  unfolding plain_for
  word_goto b e f = by K.Goto e S.Goto (St.goto_clause mixed s (token_at mixed s from).to) (goto_so s (token_at mixed s from).to) (plain St.opens_nothing tt S.Goto (St.goto_clause mixed s) (goto_so s) (λ c. plain_for K.Goto b s l.from c) (λ c. refl) (λ c z. again_goto s c z) (rw e at f)) (λ ns. refl)

  word_include : (b : Bool) → k ≡ K.Include → y ≡ plain_for k b s l.from l.to → ByWord d s t n x k l from p labels t' n r
  unfolding plain_for
  word_include b e f = by K.Include e S.Include (St.include_clause mixed s (token_at mixed s from).to) (include_so s (token_at mixed s from).to) (plain St.opens_nothing tt S.Include (St.include_clause mixed s) (include_so s) (λ c. plain_for K.Include b s l.from c) (λ c. refl) (λ c z. again_include s c z) (rw e at f)) (λ ns. refl)

  word_activate : (b : Bool) → k ≡ K.Activate → y ≡ plain_for k b s l.from l.to → ByWord d s t n x k l from p labels t' n r
  unfolding plain_for
  word_activate b e f = by K.Activate e S.Activate (St.activate_clause mixed s (token_at mixed s from).to) (activate_so s (token_at mixed s from).to) (plain St.opens_nothing tt S.Activate (St.activate_clause mixed s) (activate_so s) (λ c. plain_for K.Activate b s l.from c) (λ c. refl) (λ c z. again_activate s c z) (rw e at f)) (λ ns. refl)

  word_deactivate : (b : Bool) → k ≡ K.Deactivate → y ≡ plain_for k b s l.from l.to → ByWord d s t n x k l from p labels t' n r
  unfolding plain_for
  word_deactivate b e f = by K.Deactivate e S.Deactivate (St.deactivate_clause mixed s (token_at mixed s from).to) (deactivate_so s (token_at mixed s from).to) (plain St.opens_nothing tt S.Deactivate (St.deactivate_clause mixed s) (deactivate_so s) (λ c. plain_for K.Deactivate b s l.from c) (λ c. refl) (λ c z. again_deactivate s c z) (rw e at f)) (λ ns. refl)

  word_return : (b : Bool) → k ≡ K.Return → y ≡ plain_for k b s l.from l.to → ByWord d s t n x k l from p labels t' n r
  unfolding plain_for
  word_return b e f = by K.Return e S.Return (St.return_clause mixed s (token_at mixed s from).to) (return_so s (token_at mixed s from).to) (plain St.opens_nothing tt S.Return (St.return_clause mixed s) (return_so s) (λ c. plain_for K.Return b s l.from c) (λ c. refl) (λ c z. again_return s c z) (rw e at f)) (λ ns. refl)

  stands : (o : St.Opens) → NoBody o → (kind : Statement) (c : ℕ) (R : Reading St.Clause) → OpensSo kind o R → y ≡ read_for kind c FixedType R → ((z : St.Clause) → R ≡ read z → c < 65536) → ((z : St.Clause) → R ≡ read z → statement_at s kind c ≡ z.statement) → Stood s y R
  stands o nb kind c R so e lc a = subst (λ (u : Read). Stood s u R) (sym e) (stood_for s kind o nb c R so lc a)

  pub word_if : (b : Bool) → k ≡ K.If → b ≡ is_inside x.scope → y ≡ plain_for k b s l.from l.to → ByWord d s t n x k l from p labels t' n r
  unfolding plain_for state_of
  word_if b e hb f =
      by K.If e S.Conditional (St.if_clause mixed (D.is_inside (scope_of x.scope)) s (token_at mixed s from).to) (if_so (D.is_inside (scope_of x.scope)) s (token_at mixed s from).to)
      (plain St.opens_then tt S.Conditional (St.if_clause mixed (D.is_inside (scope_of x.scope)) s) (if_so (D.is_inside (scope_of x.scope)) s) (λ c. plain_for K.If b s l.from c) (λ c. ap (λ (u : Bool). read_for S.Conditional c FixedType (St.if_clause mixed u s c)) (hb ∙ sym (inside_is x.scope)))
      (λ c z. again_if s c z (D.is_inside (scope_of x.scope))) (rw e at f)) (λ ns. refl)

  word_go : (b : Bool) → k ≡ K.Go → y ≡ plain_for k b s l.from l.to → ByWord d s t n x k l from p labels t' n r
  unfolding plain_for
  word_go b e f =
      by K.Go e S.Goto (go_clause s (token_at mixed s from).to) (go_so s (token_at mixed s from).to)
      (λ ns i w c. stands St.opens_nothing tt S.Goto (token_at mixed s (token_at mixed s from).to).to (go_clause s (token_at mixed s from).to) (go_so s (token_at mixed s from).to) (at_word (λ q. plain_for K.Go b s l.from q) (rw e at f) i.lexed)
      (λ z h. let q : (token_at mixed s (token_at mixed s from).to).to ≤ length s = go_end s (token_at mixed s from).to z h in omega (arith, q, i.sits.short)) (λ z. again_go s (token_at mixed s from).to z)) (λ ns. refl)

  pub word_alone : (b : Bool) → (k ≡ K.Goto) ⊎ ((k ≡ K.Go) ⊎ ((k ≡ K.Include) ⊎ ((k ≡ K.Activate) ⊎ ((k ≡ K.Deactivate) ⊎ (k ≡ K.Return))))) → y ≡ plain_for k b s l.from l.to → ByWord d s t n x k l from p labels t' n r
  word_alone b (inl e) f = word_goto b e f
  word_alone b (inr (inl e)) f = word_go b e f
  word_alone b (inr (inr (inl e))) f = word_include b e f
  word_alone b (inr (inr (inr (inl e)))) f = word_activate b e f
  word_alone b (inr (inr (inr (inr (inl e))))) f = word_deactivate b e f
  word_alone b (inr (inr (inr (inr (inr e))))) f = word_return b e f

  pub word_do : (b : Bool) (m : ℕ) → k ≡ K.Do → Deep x.opened m → m < 16 → y ≡ plain_for k b s l.from l.to → ByWord d s t n x k l from p labels t' n r
  unfolding plain_for state_of
  word_do b m e deep low f =
      let there : D.do_at mixed s (token_at mixed s from).from (token_at mixed s from).to (from_state s t x) ≡ St.do_clause mixed s (token_at mixed s from).to = do_there s (token_at mixed s from).from (token_at mixed s from).to (from_state s t x) m (deep.is s) low in
      let so : OpensSo (do_kind s (token_at mixed s from).to) St.opens_group (St.do_clause mixed s (token_at mixed s from).to) = subst (OpensSo (do_kind s (token_at mixed s from).to) St.opens_group) there (do_so s (token_at mixed s from).from (token_at mixed s from).to (from_state s t x)) in
      by K.Do e (do_kind s (token_at mixed s from).to) (St.do_clause mixed s (token_at mixed s from).to) so
      (λ ns i w c. stands St.opens_group tt (do_kind s (token_at mixed s from).to) (token_at mixed s from).to (St.do_clause mixed s (token_at mixed s from).to) so (at_word (λ q. plain_for K.Do b s l.from q) (rw e at f) i.lexed)
      (λ z h. word_end d s t n x l from p labels ns i w) (λ z. again_do s (token_at mixed s from).to z))
      (λ ns. ap (D.take_read mixed s p ns (from_state s t x)) there)

  pub word_other : k ≡ K.Other → y ≡ other_for s from l.to → ByWord d s t n x k l from p labels t' n r
  unfolding other_for other_at
  word_other e f =
      by K.Other e S.Assign (other_at s (spelling s l) (token_at mixed s (token_at mixed s from).to)) (other_so s (spelling s l) (token_at mixed s (token_at mixed s from).to))
      (λ ns i w c. subst (λ (u : Read). Stood s u (other_at s (spelling s l) (token_at mixed s (token_at mixed s from).to))) (sym (at_word (λ q. other_for s from q) f i.lexed))
      (other_stood s from (spelling s l) (token_at mixed s (token_at mixed s from).to) (Tk.is_sign "=" (token_at mixed s (token_at mixed s from).to).token) (omega (arith, (token_on s from).low, (token_on s from).order, word_end d s t n x l from p labels ns i w))
      (λ z g h. again_assign s from z (record { spelling = spelling s l; place = (token_at mixed s from).from; to = (token_at mixed s from).to }) (token_at mixed s (token_at mixed s from).to).to (named_word s from l i.lexed w c) (equals_there s (token_at mixed s from).to g) h)))
      (λ ns. refl)

-- a 17th group
pub word_deep : (d s t n : List ℕ) (x : State) (k : Keyword) (l : Lexeme) (from p labels : ℕ) (r : Turned) (m : ℕ) → k ≡ K.Do → Deep x.opened m → 16 ≤ m → r ≡ turned x (Nx.Stop OverLimit l.from) → ByWord d s t n x k l from p labels t n r
unfolding state_of
word_deep d s t n x k l from p labels r m e deep high hr = rw e (record {
  so = λ ns i w c. subst (λ (X : D.Turn). Clausal d s t n x (D.label_meaning (opens_by K.Do) x.rows) ns X t n r) (sym (ap (D.take_read mixed s p ns (from_state s t x)) (do_deep s (token_at mixed s from).from (token_at mixed s from).to (from_state s t x) m (deep.is s) high)))
      (clausal_read d s t n x l from p labels ns i S.Group (opens_by K.Do) t r (Err (OverLimit, l.from)) (takes_refused s t x p labels r (Err (OverLimit, l.from)) OverLimit l.from refl hr) (refused OverLimit (token_at mixed s from).from) (refl, i.lexed.from) tt);
})

-- ---- with names
names_plain : (d n : List ℕ) (x : State) (n' : List ℕ) (z : Tally) (Q : St.Declaring) → AllPlain (names_in Q) → Entered d n x.tally (book_all x.tally.member (names_in Q)) n' z → NamesOf d n x n' z Q
names_plain d n x n' z (St.declared c es) a h = entered_plain d n x.tally es n' z a h
names_plain d n x n' z (St.undeclared w q es) a h = (ap (λ (b : Book). b.identifiers) h.book, ap (λ (b : Book). b.past) h.book)

declares_open : (k : Statement) (o : St.Opens) (Q : St.Declaring) → DeclaresSo k o Q → OpensSo k o (clause_in Q)
declares_open k o (St.declared c es) h = h
declares_open k o (St.undeclared w q es) h = tt

pub word_declare : (d s t n : List ℕ) (x : State) (k : Keyword) (l : Lexeme) (from p labels : ℕ) (t' n' : List ℕ) (r : Turned) (a : Declaring) → k ≡ K.Declare → DeclaresIf d s n x.tally x.scope l.to n' a
    → TakesAs s t (with_tally x a.tally) a.read p labels t' r → ByWord d s t n x k l from p labels t' n' r
unfolding state_of
word_declare d s t n x k l from p labels t' n' r a e hd h = rw e (record {
  so = λ ns i w c.
      let Q : St.Declaring = St.declare_from mixed (scope_of x.scope) s (length s) [] (token_at mixed s from).to in
      let so : DeclaresSo S.Declare St.opens_nothing Q = declare_so (scope_of x.scope) s (length s) [] (token_at mixed s from).to in
      let g : Declares d s n x.tally x.scope (token_at mixed s from).to n' a = subst (λ (q : ℕ). Declares d s n x.tally x.scope q n' a) i.lexed.to (hd.is i.sits.ready) in
      clausal d s t n x l from p labels ns i S.Declare (opens_by K.Declare) t' n' r a.tally a.read h g.entered.member Q
      (subst (λ (u : Read). Stood s u (clause_in Q)) (sym g.is) (stood_for s S.Declare St.opens_nothing tt (token_at mixed s from).to (clause_in Q) (declares_open S.Declare St.opens_nothing Q so) (λ z q. word_end d s t n x l from p labels ns i w) (λ z q. again_declare_in s (token_at mixed s from).to z x.scope q)))
      so
      (names_plain d n x n' a.tally Q (declare_plain s (scope_of x.scope) (length s) [] (token_at mixed s from).to tt) g.entered);
})

-- PROCEDURE: the room of names stays
record SameNames (x y : Tally) : Type 0 where
  names : y.names ≡ x.names
  member : y.member ≡ x.member
  base : y.base ≡ x.base

procedure_keeps : (s : List ℕ) (at : ℕ) (r : Read) (x : Tally) → SameNames x (procedure_tally s at r x)
unfolding procedure_tally
procedure_keeps s at r x = by (is_read r && is_spelled (bytes_of "(") (token_at mixed s at).token) (parameter_twice s (token_at mixed s at).to (length s) (token_at mixed s at).to)
  where
    by : (b : Bool) (m : Option ℕ) → SameNames x (cond b (tally_twice m x) x)
    by false m = record { names = refl; member = refl; base = refl }
    by true None = record { names = refl; member = refl; base = refl }
    by true (Some q) = record { names = refl; member = refl; base = refl }

stood_procedure : (s : List ℕ) (c : ℕ) (Q : St.Declaring) → DeclaresSo S.Procedure St.opens_body Q → c < 65536 → ((z : St.Clause) → clause_in Q ≡ read z → statement_at s S.Procedure c ≡ z.statement) → Stood s (read_procedure c Q) (clause_in Q)
unfolding read_procedure
stood_procedure s c (St.declared z es) so lc f = record { statement = f z refl; content = lc; opens = refl; to = refl; kind = sym so.kind; type = refl }
stood_procedure s c (St.undeclared w q es) so lc f = (refl, refl)

module _ (d s n : List ℕ) (x : State) (m c : ℕ) (ro : Roomy n x.tally) (y : Read) (hy : y ≡ read_procedure c (St.procedure_clause mixed (P.inside m) s c)) where
  procedure_of : (Q : St.Declaring) → St.procedure_clause mixed (P.inside m) s c ≡ Q → NamesOf d n x n (procedure_tally s c y x.tally) Q
  unfolding read_procedure
  procedure_of (St.declared z es) e =
      let k : SameNames x.tally (procedure_tally s c y x.tally) = procedure_keeps s c y x.tally in
      record {
        book = procedure_names d n x.tally x.tally.member m s c y hy (ap is_read (hy ∙ ap (read_procedure c) e)) ∙ ap (λ (q : St.Declaring). book_whole x.tally.member [] (names_in q) (book_of d n x.tally)) e;
        roomy = record { size = ro.size; few = omega (arith, ro.few, k.names) };
        member = k.member;
        base = k.base;
      }
  procedure_of (St.undeclared w q es) e =
      let f : Almost (book_whole x.tally.member [] es (book_of d n x.tally)) (book_of d n (procedure_tally s c y x.tally)) =
      subst (λ (u : St.Declaring). Almost (book_whole x.tally.member [] (names_in u) (book_of d n x.tally)) (book_of d n (procedure_tally s c y x.tally))) e (procedure_refused d n x.tally x.tally.member m s c y (ap is_read (hy ∙ ap (read_procedure c) e))) in
      let g : Almost (book_whole x.tally.member [] es (book_of d n x.tally)) (book_all x.tally.member es (book_of d n x.tally)) = whole_almost x.tally.member [] es (book_of d n x.tally) (book_of d n x.tally) (record { identifiers = refl; denotations = refl; activities = refl; past = refl }) in
      (sym f.identifiers ∙ g.identifiers, sym f.past ∙ g.past)

pub word_procedure : (d s t n : List ℕ) (x : State) (k : Keyword) (l : Lexeme) (from p labels : ℕ) (t' : List ℕ) (r : Turned) (a : Declaring) → k ≡ K.Procedure → Heads s x.tally l.to a
    → TakesAs s t (with_tally x a.tally) a.read p labels t' r → ByWord d s t n x k l from p labels t' n r
unfolding state_of
word_procedure d s t n x k l from p labels t' r a e hd h = rw e (record {
  so = λ ns i w c.
      let Q : St.Declaring = St.procedure_clause mixed (P.inside (length (rows_from s t 0 x.rows))) s (token_at mixed s from).to in
      let so : DeclaresSo S.Procedure St.opens_body Q = procedure_so (P.inside (length (rows_from s t 0 x.rows))) s (token_at mixed s from).to in
      let g : Heads s x.tally (token_at mixed s from).to a = subst (λ (q : ℕ). Heads s x.tally q a) i.lexed.to hd in
      clausal d s t n x l from p labels ns i S.Procedure (opens_by K.Procedure) t' n r a.tally a.read h (ap (λ (u : Tally). u.member) g.tally ∙ (procedure_keeps s (token_at mixed s from).to a.read x.tally).member) Q
      (subst (λ (u : Read). Stood s u (clause_in Q)) (sym (g.is (P.inside (length (rows_from s t 0 x.rows))))) (stood_procedure s (token_at mixed s from).to Q so (word_end d s t n x l from p labels ns i w) (λ z q. again_procedure s (token_at mixed s from).to z (P.inside (length (rows_from s t 0 x.rows))) q)))
      so
      (subst (λ (u : Tally). NamesOf d n x n u Q) (sym g.tally) (procedure_of d s n x (length (rows_from s t 0 x.rows)) (token_at mixed s from).to i.sits.ready.roomy a.read (g.is (P.inside (length (rows_from s t 0 x.rows)))) Q refl));
})

pub after_declares : (s t : List ℕ) (x z : State) (q : Tally) (y : Read) (p labels : ℕ) (t' : List ℕ) (r : Turned) → z ≡ with_tally x q → TakesAs s t z y p labels t' r → TakesAs s t (with_tally x q) y p labels t' r
after_declares s t x z q y p labels t' r e h = subst (λ (u : State). TakesAs s t u y p labels t' r) e h
