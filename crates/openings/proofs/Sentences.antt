-- The definition's turns at a sentence, by the tests that a reader of bytes makes: one law for each way on.
-- Assumes nothing.
use Rattle.expressions.specs.Types.{Expected, NamedAt}
use Rattle.std.proofs.Common.{Some, None, Ok, Err}
use mathlib.Core.Path.{◌≡◌, refl, sym, ap, ◌∙◌}
use mathlib.Core.Bool.{Bool, true, false, cond, not, ◌&&◌, ◌||◌, false≢true}
use mathlib.Core.List.{List, [], ◌∷◌}
use Prim.Native.Nat.{ℕ, ◌-◌, ◌<◌, ◌≤◌}
use native.Mathlib.Omega.{arith}
use borrow.Author.Tests.{le-leb, lt-leb}
use lib.Dec.{ltb}
use lib.ListN.{length}
use Rattle.definition.specs.Lists.{part}
use Rattle.definition.specs.Bytes.{mixed, folded}
use Rattle.definition.specs.Choice.{when}
use Rattle.definition.specs.Tokens as Tk
use Rattle.definition.specs.Tokens.{token_at}
use Rattle.definition.specs.Expressions.{Reading, read, refused, Named, name_of, name_at}
use Rattle.definition.specs.Program as P
use Rattle.definition.specs.Statements as St
use Rattle.definition.specs.Reading as D
use Rattle.definition.specs.declared.Why.{Why}
use Rattle.definition.specs.declared.Why.TheVariants.{Syntax, OverLimit}
use Rattle.definition.proofs.Folded.{length_folded}
use Rattle.definition.proofs.Parts.{length_part}
use Rattle.tokens.specs.declared.Kind.{Kind}
use Rattle.tokens.specs.declared.Kind.TheVariants as Kd
use Rattle.tokens.specs.declared.Lexeme.{Lexeme}
use Rattle.tokens.specs.Answer.{Lexed, written, spelling, content, is_word_kind, is_word_in, is_sign_in, token_for}
use Rattle.tokens.proofs.Lexemes.{token_is, is_word_lem, is_sign_lem}
use Rattle.expressions.specs.Check.{expect_for, named_for}
use Rattle.expressions.proofs.Laws.{parts}
use Rattle.openings.specs.declared.Where.{Where}
use Rattle.openings.specs.declared.Where.TheVariants as Wh
use Rattle.openings.specs.declared.Open.{Open}
use Rattle.openings.specs.declared.Labels.{Labels}
use Rattle.openings.specs.Open.{where_of, labels_of, open_of, labelled, first_long, LabelsAt, keyword_at, by_keyword, begins_in, is_end_in}
use Rattle.openings.proofs.Words.{begins_is, by_keyword_lem}
use Rattle.openings.proofs.Ends.{end_is}

chosen : {A : Type 0} (b c : Bool) (x y : Unit {0} → A) → b ≡ c → when b x y ≡ when c x y
chosen b c x y e = ap (λ (z : Bool). when z x y) e

-- ---- the statement by its first token
word_kind : (k : Kind) (x y : List ℕ) → is_word_kind k ≡ true → token_for k x y ≡ Tk.word (folded mixed x)
word_kind Kd.Word x y e = refl
word_kind Kd.Integer x y e = absurd (false≢true e)
word_kind Kd.String x y e = absurd (false≢true e)
word_kind Kd.Bits x y e = absurd (false≢true e)
word_kind Kd.Sign x y e = absurd (false≢true e)
word_kind Kd.Nothing x y e = absurd (false≢true e)
word_kind Kd.Wrong x y e = absurd (false≢true e)

module _ (s : List ℕ) (p : ℕ) (ns : List Named) (st : D.State) where
  sign_kind : (t : Tk.Lexeme) (k : Kind) (x y : List ℕ) → is_word_kind k ≡ false → D.by_token mixed (token_for k x y) s p ns t st
      ≡ when (Tk.is_sign ";" (token_for k x y)) (λ _. D.taken mixed s p ns st (St.clause P.null St.opens_nothing t.to) []) (λ _. D.untaken p ns st Syntax t.from [])
  sign_kind t Kd.Word x y e = absurd (false≢true (sym e))
  sign_kind t Kd.Integer x y e = refl
  sign_kind t Kd.String x y e = refl
  sign_kind t Kd.Bits x y e = refl
  sign_kind t Kd.Sign x y e = refl
  sign_kind t Kd.Nothing x y e = refl
  sign_kind t Kd.Wrong x y e = refl

  module _ (at : ℕ) (l : Lexeme) (lex : Lexed s at l) where
    abbrev here : D.Turn
    here = D.by_token mixed (token_at mixed s at).token s p ns (token_at mixed s at) st

    size : length (spelling s l) ≡ l.to - l.from
    unfolding written
    size = length_folded mixed (part (l.to - l.from) l.from s) ∙ length_part (l.to - l.from) l.from s

    abbrev named_if : Bool → D.Turn
    named_if b = D.by_name mixed (cond b (read (record { spelling = spelling s l; place = (token_at mixed s at).from; to = (token_at mixed s at).to })) (refused OverLimit (token_at mixed s at).from)) s p ns (token_at mixed s at) st

    a_word : is_word_kind l.kind ≡ true → here ≡ D.by_token mixed (Tk.word (spelling s l)) s p ns (token_at mixed s at) st
    a_word e = ap (λ (z : Tk.Token). D.by_token mixed z s p ns (token_at mixed s at) st) (token_is s at l lex ∙ word_kind l.kind (written s l) (content s l.from) e)

    -- a word begins the statement that its keyword says; n labels stand before it
    pub token_word : is_word_kind l.kind ≡ true → l.to - l.from ≤ 31 → (n : ℕ) → ltb 0 n ≡ not (D.is_none ns)
        → here ≡ by_keyword (keyword_at s (D.kind_of st.opened) (D.is_inside st.scope) l n) s p ns (spelling s l) (token_at mixed s at) (token_at mixed s (token_at mixed s at).to) st
    token_word e h n f = a_word e ∙ ap named_if (le-leb (length (spelling s l)) 31 (omega (arith, size, h))) ∙ by_keyword_lem s at l lex p ns (spelling s l) st n f

    pub token_long : is_word_kind l.kind ≡ true → 31 < l.to - l.from → here ≡ D.untaken p ns st OverLimit l.from []
    token_long e h = a_word e ∙ ap named_if (lt-leb (length (spelling s l)) 31 (omega (arith, size, h))) ∙ ap (λ (q : ℕ). D.untaken p ns st OverLimit q []) (sym lex.from)

    a_sign : is_word_kind l.kind ≡ false → here ≡ when (is_sign_in s l (59 ∷ [])) (λ _. D.taken mixed s p ns st (St.clause P.null St.opens_nothing (token_at mixed s at).to) []) (λ _. D.untaken p ns st Syntax (token_at mixed s at).from [])
    a_sign e =
        ap (λ (z : Tk.Token). D.by_token mixed z s p ns (token_at mixed s at) st) (token_is s at l lex)
        ∙ sign_kind (token_at mixed s at) l.kind (written s l) (content s l.from) e
        ∙ chosen (Tk.is_sign ";" (token_for l.kind (written s l) (content s l.from))) (is_sign_in s l (59 ∷ [])) _ _ (ap (Tk.is_sign ";") (sym (token_is s at l lex)) ∙ sym (is_sign_lem s at l lex ";" (59 ∷ []) refl))

    pub token_null : is_word_kind l.kind ≡ false → is_sign_in s l (59 ∷ []) ≡ true → here ≡ D.taken mixed s p ns st (St.clause P.null St.opens_nothing l.to) []
    token_null e f = a_sign e ∙ chosen (is_sign_in s l (59 ∷ [])) true _ _ f ∙ ap (λ (q : ℕ). D.taken mixed s p ns st (St.clause P.null St.opens_nothing q) []) (sym lex.to)

    pub token_wrong : is_word_kind l.kind ≡ false → is_sign_in s l (59 ∷ []) ≡ false → here ≡ D.untaken p ns st Syntax l.from []
    token_wrong e f = a_sign e ∙ chosen (is_sign_in s l (59 ∷ [])) false _ _ f ∙ ap (λ (q : ℕ). D.untaken p ns st Syntax q []) (sym lex.from)

-- ---- the first label that is too long
first_there : (ls : List ℕ) (q : ℕ) (f : ℕ → D.Turn) (on : Unit {0} → D.Turn) → first_long ls ≡ Some q → D.long_label ls f on ≡ f q
first_there [] q f on e = let z : ◌≡◌ {A = ℕ} 0 1 = cc in absurd (omega arith)
first_there (x ∷ ls) q f on e = let z : x ≡ q = cc in rw z

first_none : (ls : List ℕ) (f : ℕ → D.Turn) (on : Unit {0} → D.Turn) → first_long ls ≡ None → D.long_label ls f on ≡ on tt
first_none [] f on e = refl
first_none (x ∷ ls) f on e = let z : ◌≡◌ {A = ℕ} 0 1 = cc in absurd (omega arith)

pub no_longs : (ls : List ℕ) → first_long ls ≡ None → ls ≡ []
no_longs [] e = refl
no_longs (x ∷ ls) e = let z : ◌≡◌ {A = ℕ} 0 1 = cc in absurd (omega arith)

-- ---- a clause at p: its labels from `at` on, and the token l behind them
module _ (s : List ℕ) (p : ℕ) (st : D.State) where
  abbrev clause_on : List Named → List ℕ → Tk.Lexeme → D.Turn
  clause_on ns long t =
      when (D.is_in_group (D.kind_of st.opened) && D.is_end mixed s t)
      (λ _. D.long_label long (λ q. D.stop OverLimit q [] (D.named ns st)) (λ _. D.end_at mixed s ns t.to st.opened st))
      (λ _. when (D.is_full st) (λ _. D.stop OverLimit p (p ∷ []) st)
      (λ _. D.long_label long (λ q. D.untaken p ns st OverLimit q []) (λ _. D.by_token mixed t.token s p ns t st)))

  module _ (at : ℕ) (r : Labels) (h : LabelsAt s at r) (l : Lexeme) (lex : Lexed s r.to l) where
    abbrev of_labels : List Named
    of_labels = (D.labels mixed s at).labels

    clause_is : D.clause_at mixed s p at st ≡ clause_on of_labels (D.labels mixed s at).long (token_at mixed s r.to)
    unfolding D.clause_from
    clause_is = ap (λ (t : Tk.Lexeme). clause_on of_labels (D.labels mixed s at).long t) h.behind

    test_is : (D.is_in_group (D.kind_of st.opened) && is_end_in s l) ≡ (D.is_in_group (D.kind_of st.opened) && D.is_end mixed s (token_at mixed s r.to))
    test_is = ap (λ (b : Bool). D.is_in_group (D.kind_of st.opened) && b) (end_is s r.to l lex)

    module _ (e : (D.is_in_group (D.kind_of st.opened) && is_end_in s l) ≡ true) where
      ended : D.clause_at mixed s p at st ≡ D.long_label (D.labels mixed s at).long (λ q. D.stop OverLimit q [] (D.named of_labels st)) (λ _. D.end_at mixed s of_labels (token_at mixed s r.to).to st.opened st)
      ended = clause_is ∙ chosen (D.is_in_group (D.kind_of st.opened) && D.is_end mixed s (token_at mixed s r.to)) true _ _ (sym test_is ∙ e)

      pub clause_end_long : (q : ℕ) → r.long ≡ Some q → D.clause_at mixed s p at st ≡ D.stop OverLimit q [] (D.named of_labels st)
      clause_end_long q f = ended ∙ first_there (D.labels mixed s at).long q _ _ (sym h.long ∙ f)

      pub clause_end : r.long ≡ None → D.clause_at mixed s p at st ≡ D.end_at mixed s of_labels l.to st.opened st
      clause_end f = ended ∙ first_none (D.labels mixed s at).long _ _ (sym h.long ∙ f) ∙ ap (λ (q : ℕ). D.end_at mixed s of_labels q st.opened st) (sym lex.to)

    module _ (e : (D.is_in_group (D.kind_of st.opened) && is_end_in s l) ≡ false) where
      begun : D.clause_at mixed s p at st ≡ when (D.is_full st) (λ _. D.stop OverLimit p (p ∷ []) st) (λ _. D.long_label (D.labels mixed s at).long (λ q. D.untaken p of_labels st OverLimit q []) (λ _. D.by_token mixed (token_at mixed s r.to).token s p of_labels (token_at mixed s r.to) st))
      begun = clause_is ∙ chosen (D.is_in_group (D.kind_of st.opened) && D.is_end mixed s (token_at mixed s r.to)) false _ _ (sym test_is ∙ e)

      pub clause_full : D.is_full st ≡ true → D.clause_at mixed s p at st ≡ D.stop OverLimit p (p ∷ []) st
      clause_full f = begun ∙ chosen (D.is_full st) true _ _ f

      module _ (g : D.is_full st ≡ false) where
        pub clause_long : (q : ℕ) → r.long ≡ Some q → D.clause_at mixed s p at st ≡ D.untaken p of_labels st OverLimit q []
        clause_long q f = begun ∙ chosen (D.is_full st) false _ _ g ∙ first_there (D.labels mixed s at).long q _ _ (sym h.long ∙ f)

        pub clause_token : r.long ≡ None → D.clause_at mixed s p at st ≡ D.by_token mixed (token_at mixed s r.to).token s p of_labels (token_at mixed s r.to) st
        clause_token f = begun ∙ chosen (D.is_full st) false _ _ g ∙ first_none (D.labels mixed s at).long _ _ (sym h.long ∙ f)

-- ---- END in a procedure, behind its `%`
module _ (s : List ℕ) (st : D.State) where
  module _ (at : ℕ) (r : Labels) (h : LabelsAt s at r) (l : Lexeme) (lex : Lexed s r.to l) where
    abbrev named : List Named
    named = (D.labels mixed s at).labels

    pub procedure_end_long : (q : ℕ) → r.long ≡ Some q → D.procedure_end mixed s (D.labels mixed s at) st ≡ D.stop OverLimit q [] (D.named named st)
    procedure_end_long q f = first_there (D.labels mixed s at).long q _ _ (sym h.long ∙ f)

    module _ (f : r.long ≡ None) where
      short : D.procedure_end mixed s (D.labels mixed s at) st ≡ when (Tk.is_word "END" (token_at mixed s r.to).token) (λ _. D.end_at mixed s named (token_at mixed s r.to).to st.opened st) (λ _. D.not_end mixed (name_at mixed s r.to) s (D.named named st))
      unfolding name_at
      short =
          first_none (D.labels mixed s at).long _ _ (sym h.long ∙ f)
          ∙ ap (λ (t : Tk.Lexeme). when (Tk.is_word "END" t.token) (λ _. D.end_at mixed s named t.to st.opened st) (λ _. D.not_end mixed (name_of t.token t.from t.to) s (D.named named st))) h.behind

      pub procedure_end_lem : is_word_in s l (69 ∷ 78 ∷ 68 ∷ []) ≡ true → D.procedure_end mixed s (D.labels mixed s at) st ≡ D.end_at mixed s named l.to st.opened st
      procedure_end_lem e = short ∙ chosen (Tk.is_word "END" (token_at mixed s r.to).token) true _ _ (sym (is_word_lem s r.to l lex "END" (69 ∷ 78 ∷ 68 ∷ []) refl) ∙ e) ∙ ap (λ (q : ℕ). D.end_at mixed s named q st.opened st) (sym lex.to)

      pub procedure_not_end : is_word_in s l (69 ∷ 78 ∷ 68 ∷ []) ≡ false → D.procedure_end mixed s (D.labels mixed s at) st ≡ D.not_end mixed (name_at mixed s r.to) s (D.named named st)
      procedure_not_end e = short ∙ chosen (Tk.is_word "END" (token_at mixed s r.to).token) false _ _ (sym (is_word_lem s r.to l lex "END" (69 ∷ 78 ∷ 68 ∷ []) refl) ∙ e)

  module _ (x : NamedAt) where
    pub not_end_name : (R : Reading Named) (from to : ℕ) → x ≡ named_for R → x ≡ Ok (from, to) → D.not_end mixed R s st ≡ D.stop Syntax (token_at mixed s to).from [] st
    not_end_name (read n) from to h e = let z : (n.place, n.to) ≡ (from, to) = cc in ap (λ (q : ℕ). D.stop Syntax (token_at mixed s q).from [] st) (parts z).1
    not_end_name (refused w p) from to h e = let z : ◌≡◌ {A = ℕ} 0 1 = cc in absurd (omega arith)

    pub not_end_refused : (R : Reading Named) (w : Why) (p : ℕ) → x ≡ named_for R → x ≡ Err (w, p) → D.not_end mixed R s st ≡ D.stop w p [] st
    not_end_refused (read n) w p h e = let z : ◌≡◌ {A = ℕ} 0 1 = cc in absurd (omega arith)
    not_end_refused (refused v q) w p h e = let z : (v, q) ≡ (w, p) = cc in let y : (v ≡ w) × (q ≡ p) = parts z in rw (y.0, y.1)

-- ---- in a procedure
module _ (s : List ℕ) (at : ℕ) (l : Lexeme) (lex : Lexed s at l) (st : D.State) where
  abbrev inner_on : Bool → Bool → Bool → D.Turn
  inner_on g v b = when (g && v) (λ _. D.procedure_end mixed s (D.labels mixed s (token_at mixed s at).to) st) (λ _. when b (λ _. D.clause_at mixed s (token_at mixed s at).from at st) (λ _. D.stop Syntax (token_at mixed s at).from [] st))

  inner_is : D.inner_at mixed s at (token_at mixed s at) st ≡ inner_on (D.is_in_body (D.kind_of st.opened)) (is_sign_in s l (37 ∷ [])) (begins_in s l)
  unfolding D.inner_at
  inner_is =
      ap (λ (v : Bool). inner_on (D.is_in_body (D.kind_of st.opened)) v (D.begins (token_at mixed s at).token)) (sym (is_sign_lem s at l lex "%" (37 ∷ []) refl))
      ∙ ap (λ (b : Bool). inner_on (D.is_in_body (D.kind_of st.opened)) (is_sign_in s l (37 ∷ [])) b) (sym (begins_is s at l lex))

  pub inner_end : D.is_in_body (D.kind_of st.opened) ≡ true → is_sign_in s l (37 ∷ []) ≡ true → D.inner_at mixed s at (token_at mixed s at) st ≡ D.procedure_end mixed s (D.labels mixed s l.to) st
  inner_end e f = inner_is ∙ chosen (D.is_in_body (D.kind_of st.opened) && is_sign_in s l (37 ∷ [])) true _ _ (both e f) ∙ ap (λ (q : ℕ). D.procedure_end mixed s (D.labels mixed s q) st) (sym lex.to)
    where
      both : {a b : Bool} → a ≡ true → b ≡ true → (a && b) ≡ true
      both x y = rw (x, y)

  module _ (e : (D.is_in_body (D.kind_of st.opened) && is_sign_in s l (37 ∷ [])) ≡ false) where
    pub inner_clause : begins_in s l ≡ true → D.inner_at mixed s at (token_at mixed s at) st ≡ D.clause_at mixed s l.from at st
    inner_clause f = inner_is ∙ chosen (D.is_in_body (D.kind_of st.opened) && is_sign_in s l (37 ∷ [])) false _ _ e ∙ chosen (begins_in s l) true _ _ f ∙ ap (λ (q : ℕ). D.clause_at mixed s q at st) (sym lex.from)

    pub inner_wrong : begins_in s l ≡ false → D.inner_at mixed s at (token_at mixed s at) st ≡ D.stop Syntax l.from [] st
    inner_wrong f = inner_is ∙ chosen (D.is_in_body (D.kind_of st.opened) && is_sign_in s l (37 ∷ [])) false _ _ e ∙ chosen (begins_in s l) false _ _ f ∙ ap (λ (q : ℕ). D.stop Syntax q [] st) (sym lex.from)

-- ---- END, behind it: x is on top of what is open
in_group_lem : (s : List ℕ) (k : Where) (at : ℕ) → (D.is_in_group (where_of k) || D.is_in_body (where_of k)) ≡ true → labels_of s k at ≡ labelled s at
in_group_lem s Wh.InProgram at e = absurd (false≢true e)
in_group_lem s Wh.InGroup at e = refl
in_group_lem s Wh.InBody at e = refl
in_group_lem s Wh.InThen at e = absurd (false≢true e)
in_group_lem s Wh.InElse at e = absurd (false≢true e)

module _ (s : List ℕ) (ns : List Named) (at : ℕ) (x : Open) (os : List D.Open) (st : D.State) (e : (D.is_in_group (where_of x.kind) || D.is_in_body (where_of x.kind)) ≡ true) (r : Expected) (h : r ≡ expect_for (D.end_name mixed s (labelled s x.labels) at)) where
  asked : D.end_at mixed s ns at (open_of s x ∷ os) st ≡ D.end_read mixed s ns (open_of s x) os st (D.end_name mixed s (labelled s x.labels) at)
  unfolding open_of
  asked = ap (λ (ls : List (List ℕ)). D.end_read mixed s ns (open_of s x) os st (D.end_name mixed s ls at)) (in_group_lem s x.kind x.labels e)

  past_by : (R : Reading ℕ) (q : ℕ) → r ≡ expect_for R → r ≡ Ok q → D.end_read mixed s ns (open_of s x) os st R
      ≡ D.complete mixed s os x.row q (D.with_opened os (D.scope_out (where_of x.kind) st.scope) (D.with_names (St.means st.scope (P.end_label x.row) ns) st))
  unfolding open_of
  past_by (read n) q f g = let z : n ≡ q = cc in ap (λ (i : ℕ). D.complete mixed s os x.row i (D.with_opened os (D.scope_out (where_of x.kind) st.scope) (D.with_names (St.means st.scope (P.end_label x.row) ns) st))) z
  past_by (refused w p) q f g = let z : ◌≡◌ {A = ℕ} 0 1 = cc in absurd (omega arith)

  refused_by : (R : Reading ℕ) (w : Why) (p : ℕ) → r ≡ expect_for R → r ≡ Err (w, p) → D.end_read mixed s ns (open_of s x) os st R ≡ D.stop w p [] (D.with_names (St.means st.scope (P.end_label x.row) ns) st)
  unfolding open_of
  refused_by (read n) w p f g = let z : ◌≡◌ {A = ℕ} 0 1 = cc in absurd (omega arith)
  refused_by (refused v q) w p f g = let z : (v, q) ≡ (w, p) = cc in let y : (v ≡ w) × (q ≡ p) = parts z in rw (y.0, y.1)

  pub end_past : (q : ℕ) → r ≡ Ok q → D.end_at mixed s ns at (open_of s x ∷ os) st
      ≡ D.complete mixed s os x.row q (D.with_opened os (D.scope_out (where_of x.kind) st.scope) (D.with_names (St.means st.scope (P.end_label x.row) ns) st))
  end_past q f = asked ∙ past_by (D.end_name mixed s (labelled s x.labels) at) q h f

  pub end_refused : (w : Why) (p : ℕ) → r ≡ Err (w, p) → D.end_at mixed s ns at (open_of s x ∷ os) st ≡ D.stop w p [] (D.with_names (St.means st.scope (P.end_label x.row) ns) st)
  end_refused w p f = asked ∙ refused_by (D.end_name mixed s (labelled s x.labels) at) w p h f
