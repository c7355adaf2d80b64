-- Which statement begins with a word: what the code finds is what the definition's tests find in their order, and the definition's
-- `by_word` is one case of it.
-- Assumes nothing.
use Rattle.std.proofs.Common.{Ok, Err}
use Rattle.statements.specs.Types.{Read}
use mathlib.Core.Path.{◌≡◌, refl, sym, ap, subst, ◌∙◌}
use mathlib.Core.Bool.{Bool, true, false, cond, not, ◌&&◌, ◌||◌, false≢true}
use mathlib.Core.List.{List, [], ◌∷◌}
use Prim.Native.Nat.{ℕ}
use Prim.Native.String as Str
use borrow.Author.Tests.{eqb-true}
use lib.Dec.{eqb, ltb}
use lib.ListN.{length}
use Rattle.definition.specs.Bytes.{mixed}
use Rattle.definition.specs.Choice.{when}
use Rattle.definition.specs.Text.{bytes_of}
use Rattle.definition.specs.Lists.{same}
use Rattle.definition.specs.Tokens as Tk
use Rattle.definition.specs.Tokens.{token_at}
use Rattle.definition.specs.Expressions.{Named}
use Rattle.definition.specs.Program as P
use Rattle.definition.specs.Statements as St
use Rattle.definition.specs.Reading as D
use Rattle.definition.specs.declared.Why.TheVariants.{Syntax}
use Rattle.definition.specs.declared.ValueType.TheVariants.{FixedType}
use Rattle.definition.proofs.Keeping.{and_left, and_right}
use Rattle.tokens.specs.declared.Lexeme.{Lexeme}
use Rattle.tokens.specs.Answer.{Lexed, spelling, is_word_kind, is_word_in, is_sign_in}
use Rattle.tokens.proofs.Lexemes.{is_word_lem, is_sign_lem}
use Rattle.expressions.proofs.Laws.{told}
use Rattle.rows.specs.declared.Statement.TheVariants as S
use Rattle.statements.specs.declared.Keyword.{Keyword}
use Rattle.statements.specs.declared.Keyword.TheVariants as K
use Rattle.statements.specs.declared.Opens.TheVariants as O
use Rattle.statements.specs.Clauses.{other_by, keyword_by, clause_of, read_for, go_clause}
use Rattle.openings.specs.Open.{outer_by, list_by, keyword_here, keyword_at, may_stand, other_at, other_for, null_for, by_keyword, begins_in}
use Rattle.openings.proofs.Laws.{name_kind}

-- ---- a word that is one of several is none of the others
same_true : (x w : List ℕ) → same x w ≡ true → x ≡ w
same_true [] [] e = refl
same_true [] (y ∷ w) e = absurd (false≢true e)
same_true (a ∷ x) [] e = absurd (false≢true e)
same_true (a ∷ x) (y ∷ w) e = rw (eqb-true a y (and_left (eqb a y) (same x w) e), same_true x w (and_right (eqb a y) (same x w) e))

module _ (Q : List ℕ → Type 0) (x : List ℕ) where
  split_by : (w : List ℕ) (b : Bool) → same x w ≡ b → Q w → (same x w ≡ false → Q x) → Q x
  split_by w true e p f = subst Q (sym (same_true x w e)) p
  split_by w false e p f = f e

  split : (w : List ℕ) → Q w → (same x w ≡ false → Q x) → Q x
  split w p f = split_by w (same x w) refl p f

-- in a list, in a procedure, with labels: all eight
all_eight : (Q : Bool → Bool → Bool → Type 0) → Q true true true → Q true true false → Q true false true → Q true false false
    → Q false true true → Q false true false → Q false false true → Q false false false → (l i n : Bool) → Q l i n
all_eight Q a b c d e f g h true true true = a
all_eight Q a b c d e f g h true true false = b
all_eight Q a b c d e f g h true false true = c
all_eight Q a b c d e f g h true false false = d
all_eight Q a b c d e f g h false true true = e
all_eight Q a b c d e f g h false true false = f
all_eight Q a b c d e f g h false false true = g
all_eight Q a b c d e f g h false false false = h

abbrev Stands : List ℕ → Bool → Bool → Bool → Type 0
Stands x l i n = cond (may_stand (keyword_by (same x)) l i n) (keyword_by (same x)) K.Other ≡ keyword_here false l i n (same x)

abbrev StandsAll : List ℕ → Type 0
StandsAll x = (l i n : Bool) → Stands x l i n

-- a word that is none of those that are left
list_by_lem : (l i n : Bool) → K.Other ≡ list_by l i n (λ _. false)
list_by_lem = all_eight (λ l i n. K.Other ≡ list_by l i n (λ _. false)) refl refl refl refl refl refl refl refl

list_none : (l i n : Bool) (is : List ℕ → Bool) → is (68 ∷ 69 ∷ 67 ∷ 76 ∷ 65 ∷ 82 ∷ 69 ∷ []) ≡ false → is (68 ∷ 67 ∷ 76 ∷ []) ≡ false → is (80 ∷ 82 ∷ 79 ∷ 67 ∷ 69 ∷ 68 ∷ 85 ∷ 82 ∷ 69 ∷ []) ≡ false → is (80 ∷ 82 ∷ 79 ∷ 67 ∷ []) ≡ false → K.Other ≡ list_by l i n is
list_none l i n is a b c d = rw (a, b, c, d) (list_by_lem l i n)

outer_none : (i : Bool) (is : List ℕ → Bool) (j : Keyword) → is (73 ∷ 78 ∷ 67 ∷ 76 ∷ 85 ∷ 68 ∷ 69 ∷ []) ≡ false → is (65 ∷ 67 ∷ 84 ∷ 73 ∷ 86 ∷ 65 ∷ 84 ∷ 69 ∷ []) ≡ false → is (65 ∷ 67 ∷ 84 ∷ []) ≡ false → is (68 ∷ 69 ∷ 65 ∷ 67 ∷ 84 ∷ 73 ∷ 86 ∷ 65 ∷ 84 ∷ 69 ∷ []) ≡ false → is (68 ∷ 69 ∷ 65 ∷ 67 ∷ 84 ∷ []) ≡ false → is (82 ∷ 69 ∷ 84 ∷ 85 ∷ 82 ∷ 78 ∷ []) ≡ false → j ≡ outer_by i is j
outer_none false is j a b c d e f = rw (a, b, c, d, e)
outer_none true is j a b c d e f = rw f

no_keyword : (x : List ℕ) (l i n : Bool) → same x (73 ∷ 78 ∷ 67 ∷ 76 ∷ 85 ∷ 68 ∷ 69 ∷ []) ≡ false → same x (65 ∷ 67 ∷ 84 ∷ 73 ∷ 86 ∷ 65 ∷ 84 ∷ 69 ∷ []) ≡ false → same x (65 ∷ 67 ∷ 84 ∷ []) ≡ false → same x (68 ∷ 69 ∷ 65 ∷ 67 ∷ 84 ∷ 73 ∷ 86 ∷ 65 ∷ 84 ∷ 69 ∷ []) ≡ false → same x (68 ∷ 69 ∷ 65 ∷ 67 ∷ 84 ∷ []) ≡ false → same x (82 ∷ 69 ∷ 84 ∷ 85 ∷ 82 ∷ 78 ∷ []) ≡ false
    → same x (68 ∷ 69 ∷ 67 ∷ 76 ∷ 65 ∷ 82 ∷ 69 ∷ []) ≡ false → same x (68 ∷ 67 ∷ 76 ∷ []) ≡ false → same x (80 ∷ 82 ∷ 79 ∷ 67 ∷ 69 ∷ 68 ∷ 85 ∷ 82 ∷ 69 ∷ []) ≡ false → same x (80 ∷ 82 ∷ 79 ∷ 67 ∷ []) ≡ false
    → cond (may_stand (other_by (same x)) l i n) (other_by (same x)) K.Other ≡ outer_by i (same x) (list_by l i n (same x))
unfolding other_by
no_keyword x l i n e f g h j k m o p q =
    ap (λ (z : Keyword). cond (may_stand z l i n) z K.Other) (other x e f g h j k m o p q)
    ∙ list_none l i n (same x) m o p q ∙ outer_none i (same x) (list_by l i n (same x)) e f g h j k
  where
    other : (x : List ℕ) → same x (73 ∷ 78 ∷ 67 ∷ 76 ∷ 85 ∷ 68 ∷ 69 ∷ []) ≡ false → same x (65 ∷ 67 ∷ 84 ∷ 73 ∷ 86 ∷ 65 ∷ 84 ∷ 69 ∷ []) ≡ false → same x (65 ∷ 67 ∷ 84 ∷ []) ≡ false → same x (68 ∷ 69 ∷ 65 ∷ 67 ∷ 84 ∷ 73 ∷ 86 ∷ 65 ∷ 84 ∷ 69 ∷ []) ≡ false → same x (68 ∷ 69 ∷ 65 ∷ 67 ∷ 84 ∷ []) ≡ false → same x (82 ∷ 69 ∷ 84 ∷ 85 ∷ 82 ∷ 78 ∷ []) ≡ false
        → same x (68 ∷ 69 ∷ 67 ∷ 76 ∷ 65 ∷ 82 ∷ 69 ∷ []) ≡ false → same x (68 ∷ 67 ∷ 76 ∷ []) ≡ false → same x (80 ∷ 82 ∷ 79 ∷ 67 ∷ 69 ∷ 68 ∷ 85 ∷ 82 ∷ 69 ∷ []) ≡ false → same x (80 ∷ 82 ∷ 79 ∷ 67 ∷ []) ≡ false → other_by (same x) ≡ K.Other
    other x e f g h j k m o p q = rw (e, f, g, h, j, k, m, o, p, q)

by_word_list : (x : List ℕ) → StandsAll x
unfolding keyword_by other_by keyword_here
by_word_list x =
    split StandsAll x (73 ∷ 70 ∷ []) (all_eight (Stands (73 ∷ 70 ∷ [])) refl refl refl refl refl refl refl refl) λ a.
    split StandsAll x (68 ∷ 79 ∷ []) (all_eight (Stands (68 ∷ 79 ∷ [])) refl refl refl refl refl refl refl refl) λ b.
    split StandsAll x (71 ∷ 79 ∷ 84 ∷ 79 ∷ []) (all_eight (Stands (71 ∷ 79 ∷ 84 ∷ 79 ∷ [])) refl refl refl refl refl refl refl refl) λ c.
    split StandsAll x (71 ∷ 79 ∷ []) (all_eight (Stands (71 ∷ 79 ∷ [])) refl refl refl refl refl refl refl refl) λ d.
    split StandsAll x (73 ∷ 78 ∷ 67 ∷ 76 ∷ 85 ∷ 68 ∷ 69 ∷ []) (all_eight (Stands (73 ∷ 78 ∷ 67 ∷ 76 ∷ 85 ∷ 68 ∷ 69 ∷ [])) refl refl refl refl refl refl refl refl) λ e.
    split StandsAll x (65 ∷ 67 ∷ 84 ∷ 73 ∷ 86 ∷ 65 ∷ 84 ∷ 69 ∷ []) (all_eight (Stands (65 ∷ 67 ∷ 84 ∷ 73 ∷ 86 ∷ 65 ∷ 84 ∷ 69 ∷ [])) refl refl refl refl refl refl refl refl) λ f.
    split StandsAll x (65 ∷ 67 ∷ 84 ∷ []) (all_eight (Stands (65 ∷ 67 ∷ 84 ∷ [])) refl refl refl refl refl refl refl refl) λ g.
    split StandsAll x (68 ∷ 69 ∷ 65 ∷ 67 ∷ 84 ∷ 73 ∷ 86 ∷ 65 ∷ 84 ∷ 69 ∷ []) (all_eight (Stands (68 ∷ 69 ∷ 65 ∷ 67 ∷ 84 ∷ 73 ∷ 86 ∷ 65 ∷ 84 ∷ 69 ∷ [])) refl refl refl refl refl refl refl refl) λ h.
    split StandsAll x (68 ∷ 69 ∷ 65 ∷ 67 ∷ 84 ∷ []) (all_eight (Stands (68 ∷ 69 ∷ 65 ∷ 67 ∷ 84 ∷ [])) refl refl refl refl refl refl refl refl) λ j.
    split StandsAll x (82 ∷ 69 ∷ 84 ∷ 85 ∷ 82 ∷ 78 ∷ []) (all_eight (Stands (82 ∷ 69 ∷ 84 ∷ 85 ∷ 82 ∷ 78 ∷ [])) refl refl refl refl refl refl refl refl) λ k.
    split StandsAll x (68 ∷ 69 ∷ 67 ∷ 76 ∷ 65 ∷ 82 ∷ 69 ∷ []) (all_eight (Stands (68 ∷ 69 ∷ 67 ∷ 76 ∷ 65 ∷ 82 ∷ 69 ∷ [])) refl refl refl refl refl refl refl refl) λ m.
    split StandsAll x (68 ∷ 67 ∷ 76 ∷ []) (all_eight (Stands (68 ∷ 67 ∷ 76 ∷ [])) refl refl refl refl refl refl refl refl) λ o.
    split StandsAll x (80 ∷ 82 ∷ 79 ∷ 67 ∷ 69 ∷ 68 ∷ 85 ∷ 82 ∷ 69 ∷ []) (all_eight (Stands (80 ∷ 82 ∷ 79 ∷ 67 ∷ 69 ∷ 68 ∷ 85 ∷ 82 ∷ 69 ∷ [])) refl refl refl refl refl refl refl refl) λ p.
    split StandsAll x (80 ∷ 82 ∷ 79 ∷ 67 ∷ []) (all_eight (Stands (80 ∷ 82 ∷ 79 ∷ 67 ∷ [])) refl refl refl refl refl refl refl refl) λ q.
    λ l i n. rw (a, b, c, d) (no_keyword x l i n e f g h j k m o p q)

module _ (s : List ℕ) (t : Lexeme) where
  standing_by : (k : Bool) (x : List ℕ) (l i n : Bool) → cond (may_stand (keyword_by (λ v. k && same x v)) l i n) (keyword_by (λ v. k && same x v)) K.Other ≡ keyword_here false l i n (λ v. k && same x v)
  unfolding keyword_by other_by keyword_here
  standing_by true x l i n = by_word_list x l i n
  standing_by false x l i n = list_by_lem l i n ∙ outer_none i (λ _. false) (list_by l i n (λ _. false)) refl refl refl refl refl refl

  standing : (l i n : Bool) → cond (may_stand (keyword_by (is_word_in s t)) l i n) (keyword_by (is_word_in s t)) K.Other ≡ keyword_here false l i n (is_word_in s t)
  unfolding is_word_in keyword_by other_by keyword_here
  standing l i n = standing_by (is_word_kind t.kind) (spelling s t) l i n

-- ---- the keyword that stands here
module _ (s : List ℕ) (k : D.Where) (i : Bool) (t : Lexeme) (n : ℕ) (u : Lexeme) (lux : Lexed s t.to u) (v : Bool) (hv : v ≡ is_sign_in s u (61 ∷ [])) where
  pub here_equals : v ≡ true → K.Other ≡ keyword_at s k i t n
  unfolding keyword_at keyword_here
  here_equals e = rw (told s t.to u lux "=" (61 ∷ []) v true refl hv e)

  module _ (nv : v ≡ false) (w : Keyword) (hw : w ≡ keyword_by (is_word_in s t)) (b : Bool) (hb : b ≡ may_stand w (D.is_list k) i (ltb 0 n)) where
    here_is : cond b w K.Other ≡ keyword_at s k i t n
    unfolding keyword_at
    here_is = rw (told s t.to u lux "=" (61 ∷ []) v false refl hv nv, hb, hw) (standing s t (D.is_list k) i (ltb 0 n))

    pub here_stands : b ≡ true → w ≡ keyword_at s k i t n
    here_stands e = ap (λ (c : Bool). cond c w K.Other) (sym e) ∙ here_is

    pub here_other : b ≡ false → K.Other ≡ keyword_at s k i t n
    here_other e = ap (λ (c : Bool). cond c w K.Other) (sym e) ∙ here_is

-- ---- a word that begins no statement, and `;`
module _ (s : List ℕ) (c at : ℕ) (u : Lexeme) (lux : Lexed s at u) (v : Bool) (hv : v ≡ is_sign_in s u (61 ∷ [])) where
  pub other_equals : v ≡ true → (r : Read) → r ≡ read_for S.Assign c FixedType (St.assignment mixed s [] u.to) → r ≡ other_for s c at
  unfolding other_for other_at
  other_equals e r f = rw (told s at u lux "=" (61 ∷ []) v true refl hv e, ← lux.to) f

  pub other_wrong : v ≡ false → Err (Syntax, u.from) ≡ other_for s c at
  unfolding other_for other_at read_for
  other_wrong e = rw (told s at u lux "=" (61 ∷ []) v false refl hv e, lux.from)

pub null_is : (from to : ℕ) → Ok (clause_of S.Null O.Nothing from to FixedType) ≡ null_for from to
unfolding null_for read_for
null_is from to = refl

module _ (s : List ℕ) (t : Lexeme) (a : Bool) (ha : a ≡ is_word_kind t.kind) where
  pub begins_word : a ≡ true → a ≡ begins_in s t
  unfolding begins_in
  begins_word e = rw (← ha, e)

  pub begins_sign : a ≡ false → (r : Bool) → r ≡ is_sign_in s t (59 ∷ []) → r ≡ begins_in s t
  unfolding begins_in
  begins_sign e r f = rw (← ha, e) f

pub begins_is : (s : List ℕ) (at : ℕ) (l : Lexeme) → Lexed s at l → begins_in s l ≡ D.begins (token_at mixed s at).token
unfolding begins_in
begins_is s at l lex = rw (is_sign_lem s at l lex ";" (59 ∷ []) refl) (ap (λ (b : Bool). b || Tk.is_sign ";" (token_at mixed s at).token) (ap is_word_kind lex.kind ∙ name_kind (token_at mixed s at).token))

-- ---- THE DEFINITION'S CHOICE is one case of the keyword that stands here
module _ (s : List ℕ) (p : ℕ) (ns : List Named) (w : List ℕ) (t u : Tk.Lexeme) (st : D.State) where
  abbrev turn_by : Keyword → D.Turn
  turn_by k = by_keyword k s p ns w t u st

  step : (b c : Bool) → b ≡ c → (k j : Keyword) (x y : Unit {0} → D.Turn) → x tt ≡ turn_by k → y tt ≡ turn_by j → when b x y ≡ turn_by (cond c k j)
  step true true e k j x y f g = f
  step true false e k j x y f g = absurd (false≢true (sym e))
  step false true e k j x y f g = absurd (false≢true e)
  step false false e k j x y f g = g

  module _ (is : List ℕ → Bool) (h : (W : Str.String) → Tk.is_word W t.token ≡ is (bytes_of W)) where
    either : (W X : Str.String) → (Tk.is_word W t.token || Tk.is_word X t.token) ≡ (is (bytes_of W) || is (bytes_of X))
    either W X = rw (h W, h X)

    outer_is : (k : P.Scope) (j : Keyword) (y : Unit {0} → D.Turn) → y tt ≡ turn_by j → D.outer mixed k s t (D.take_read mixed s p ns st) y ≡ turn_by (outer_by (D.is_inside k) is j)
    outer_is P.global j y g =
        step (Tk.is_word "INCLUDE" t.token) (is (bytes_of "INCLUDE")) (h "INCLUDE") K.Include _ (λ _. D.take_read mixed s p ns st (St.include_clause mixed s t.to)) _ refl
        (step (Tk.is_word "ACTIVATE" t.token || Tk.is_word "ACT" t.token) (is (bytes_of "ACTIVATE") || is (bytes_of "ACT")) (either "ACTIVATE" "ACT") K.Activate _ (λ _. D.take_read mixed s p ns st (St.activate_clause mixed s t.to)) _ refl
        (step (Tk.is_word "DEACTIVATE" t.token || Tk.is_word "DEACT" t.token) (is (bytes_of "DEACTIVATE") || is (bytes_of "DEACT")) (either "DEACTIVATE" "DEACT") K.Deactivate j (λ _. D.take_read mixed s p ns st (St.deactivate_clause mixed s t.to)) y refl g))
    outer_is (P.inside r) j y g = step (Tk.is_word "RETURN" t.token) (is (bytes_of "RETURN")) (h "RETURN") K.Return j (λ _. D.take_read mixed s p ns st (St.return_clause mixed s t.to)) y refl g

    module _ (l n : Bool) (hl : D.is_list (D.kind_of st.opened) ≡ l) (hn : not (D.is_none ns) ≡ n) where
      list_is : (y : Unit {0} → D.Turn) → y tt ≡ turn_by K.Other → D.in_list mixed s p ns t st y ≡ turn_by (list_by l (D.is_inside st.scope) n is)
      unfolding D.in_list
      list_is y g =
          step (D.is_list (D.kind_of st.opened) && D.is_declare t.token) (l && (is (bytes_of "DECLARE") || is (bytes_of "DCL"))) (rw (hl, either "DECLARE" "DCL")) K.Declare _
          (λ _. D.take_declared mixed s p ns st (St.declare_from mixed st.scope s (length s) [] t.to)) _ refl
          (step (D.is_list (D.kind_of st.opened) && not (D.is_inside st.scope) && not (D.is_none ns) && D.is_procedure t.token) (l && not (D.is_inside st.scope) && n && (is (bytes_of "PROCEDURE") || is (bytes_of "PROC"))) (rw (hl, hn, either "PROCEDURE" "PROC")) K.Procedure K.Other
          (λ _. D.take_declared mixed s p ns st (St.procedure_clause mixed (P.inside (length st.rows)) s t.to)) y refl g)

      common_is : (j : Keyword) (y : Unit {0} → D.Turn) → y tt ≡ turn_by j → D.common mixed s t st (D.take_read mixed s p ns st) y ≡ turn_by (cond (is (bytes_of "IF")) K.If (cond (is (bytes_of "DO")) K.Do (cond (is (bytes_of "GOTO")) K.Goto (cond (is (bytes_of "GO")) K.Go j))))
      unfolding D.common go_clause
      common_is j y g =
          step (Tk.is_word "IF" t.token) (is (bytes_of "IF")) (h "IF") K.If _ (λ _. D.take_read mixed s p ns st (St.if_clause mixed (D.is_inside st.scope) s t.to)) _ refl
          (step (Tk.is_word "DO" t.token) (is (bytes_of "DO")) (h "DO") K.Do _ (λ _. D.take_read mixed s p ns st (D.do_at mixed s t.from t.to st)) _ refl
          (step (Tk.is_word "GOTO" t.token) (is (bytes_of "GOTO")) (h "GOTO") K.Goto _ (λ _. D.take_read mixed s p ns st (St.goto_clause mixed s t.to)) _ refl
          (step (Tk.is_word "GO" t.token) (is (bytes_of "GO")) (h "GO") K.Go j (λ _. D.take_read mixed s p ns st (go_clause s t.to)) y refl g)))

      equals_is : (b : Bool) → Tk.is_sign "=" u.token ≡ b → (j : Keyword) (y : Unit {0} → D.Turn) → (b ≡ false → y tt ≡ turn_by j) → when b (λ _. D.take_read mixed s p ns st (St.assignment mixed s w u.to)) y ≡ turn_by (cond b K.Other j)
      unfolding other_at
      equals_is true e j y g = rw e
      equals_is false e j y g = g refl

      not_equals : Tk.is_sign "=" u.token ≡ false → D.untaken p ns st Syntax u.from [] ≡ turn_by K.Other
      unfolding other_at
      not_equals e = rw e

      pub word_is : D.by_word mixed s p ns w t u st ≡ turn_by (keyword_here (Tk.is_sign "=" u.token) l (D.is_inside st.scope) n is)
      unfolding D.by_word keyword_here
      word_is = equals_is (Tk.is_sign "=" u.token) refl _ _ λ e. common_is _ _ (outer_is st.scope _ _ (list_is _ (not_equals e)))

-- the law that the reading of a word uses: t is the word at a place, behind n labels
pub by_keyword_lem : (s : List ℕ) (at : ℕ) (l : Lexeme) → Lexed s at l → (p : ℕ) (ns : List Named) (w : List ℕ) (st : D.State) (n : ℕ) → ltb 0 n ≡ not (D.is_none ns)
    → D.by_word mixed s p ns w (token_at mixed s at) (token_at mixed s (token_at mixed s at).to) st ≡ by_keyword (keyword_at s (D.kind_of st.opened) (D.is_inside st.scope) l n) s p ns w (token_at mixed s at) (token_at mixed s (token_at mixed s at).to) st
unfolding keyword_at
by_keyword_lem s at l lex p ns w st n e =
    word_is s p ns w (token_at mixed s at) (token_at mixed s (token_at mixed s at).to) st (is_word_in s l) (λ W. sym (is_word_lem s at l lex W (bytes_of W) refl)) (D.is_list (D.kind_of st.opened)) (ltb 0 n) refl (sym e)
    ∙ ap (λ (q : ℕ). by_keyword (keyword_here (Tk.is_sign "=" (token_at mixed s q).token) (D.is_list (D.kind_of st.opened)) (D.is_inside st.scope) (ltb 0 n) (is_word_in s l)) s p ns w (token_at mixed s at) (token_at mixed s (token_at mixed s at).to) st) (sym lex.to)
