-- ELSE, END and alternatives: one law for each way out.
-- Assumes nothing.
use Rattle.expressions.specs.Types.{Expected}
use Rattle.std.proofs.Common.{Option, Some, None, Ok, Err}
use mathlib.Core.Path.{◌≡◌, refl, sym, ap, ◌∙◌}
use mathlib.Core.Bool.{Bool, true, false, cond, ◌&&◌, false≢true}
use mathlib.Core.Logic.{◌⊎◌, inl, inr}
use mathlib.Core.List.{List, [], ◌∷◌}
use Prim.Native.Nat.{ℕ}
use native.Mathlib.Omega.{arith}
use Rattle.definition.specs.Bytes.{mixed, folded}
use Rattle.definition.specs.Choice.{when}
use Rattle.definition.specs.Lists.{is_one_of}
use Rattle.definition.specs.Tokens as Tk
use Rattle.definition.specs.Tokens.{token_at}
use Rattle.definition.specs.Expressions.{read, refused}
use Rattle.definition.specs.Reading as D
use Rattle.definition.specs.declared.Why.TheVariants.{Syntax}
use Rattle.tokens.specs.declared.Kind.{Kind}
use Rattle.tokens.specs.declared.Kind.TheVariants as Kd
use Rattle.tokens.specs.declared.Lexeme.{Lexeme}
use Rattle.tokens.specs.Answer.{written, Lexed, spelling, content, is_word_kind, is_sign_in, token_for}
use Rattle.tokens.proofs.Lexemes.{token_is, is_word_lem}
use Rattle.expressions.specs.Check.{expect_for, expected}
use Rattle.expressions.proofs.Laws.{told}
use Rattle.names.specs.declared.Owner.{Owner}
use Rattle.names.specs.declared.Owner.TheVariants.{Everyone, Procedure}
use Rattle.statements.specs.Clauses.{is_inside, scope_of}
use Rattle.statements.proofs.Laws.{sign_spelled}
use Rattle.openings.specs.declared.Where.{Where}
use Rattle.openings.specs.declared.Where.TheVariants as Wh
use Rattle.openings.specs.declared.Open.{Open}
use Rattle.openings.specs.declared.Done.{Done}
use Rattle.openings.specs.declared.Done.TheVariants as Dn
use Rattle.openings.specs.Open.{where_of, else_for, begins_in, is_end_in, may_name_in, done_turn, Completes, alternative_turn, first, behind, AlternativeFrom}
use Rattle.openings.proofs.Words.{begins_is}

pub inside_is : (k : Owner) → D.is_inside (scope_of k) ≡ is_inside k
inside_is Everyone = refl
inside_is (Procedure p) = refl

-- ---- behind a statement
module _ (s : List ℕ) (k : Owner) (e : ℕ) where
  -- the definition's turn, of what is open there
  abbrev Ends : Where → ℕ → Done → Type 0
  Ends w i r = (os : List D.Open) (n : ℕ) (st : D.State) (up : ℕ → D.Turn) → st.scope ≡ scope_of k → D.complete_in mixed (where_of w) s i os n e st up ≡ done_turn r os n e st up

  ends_list : (w : Where) (i : ℕ) → (w ≡ Wh.InProgram) ⊎ ((w ≡ Wh.InGroup) ⊎ (w ≡ Wh.InBody)) → Ends w i Dn.On
  ends_list w i (inl h) = rw h (λ os n st up g. refl)
  ends_list w i (inr (inl h)) = rw h (λ os n st up g. refl)
  ends_list w i (inr (inr h)) = rw h (λ os n st up g. refl)

  ends_else : (w : Where) (i : ℕ) → w ≡ Wh.InElse → Ends w i (Dn.Up i)
  ends_else w i h = rw h (λ os n st up g. refl)

  module _ (m : Option ℕ) (f : m ≡ else_for (D.else_at mixed (is_inside k) s e)) where
    else_there : (x : D.Else) (q i : ℕ) (os : List D.Open) (n : ℕ) (st : D.State) (up : ℕ → D.Turn) → m ≡ else_for x → m ≡ Some q → D.elsed x i os st (λ _. up i) ≡ done_turn (Dn.OnElse i q) os n e st up
    else_there (D.else_to p) q i os n st up g h = let z : p ≡ q = cc in rw z
    else_there D.no_else q i os n st up g h = let z : ◌≡◌ {A = ℕ} 0 1 = cc in absurd (omega arith)

    else_missing : (x : D.Else) (i : ℕ) (os : List D.Open) (n : ℕ) (st : D.State) (up : ℕ → D.Turn) → m ≡ else_for x → m ≡ None → D.elsed x i os st (λ _. up i) ≡ done_turn (Dn.Up i) os n e st up
    else_missing (D.else_to p) i os n st up g h = let z : ◌≡◌ {A = ℕ} 0 1 = cc in absurd (omega arith)
    else_missing D.no_else i os n st up g h = refl

    asked : (i : ℕ) (os : List D.Open) (st : D.State) (up : ℕ → D.Turn) → st.scope ≡ scope_of k → D.elsed (D.else_at mixed (D.is_inside st.scope) s e) i os st (λ _. up i) ≡ D.elsed (D.else_at mixed (is_inside k) s e) i os st (λ _. up i)
    asked i os st up g = ap (λ (b : Bool). D.elsed (D.else_at mixed b s e) i os st (λ _. up i)) (ap D.is_inside g ∙ inside_is k)

    ends_on : (w : Where) (i q : ℕ) → w ≡ Wh.InThen → m ≡ Some q → Ends w i (Dn.OnElse i q)
    ends_on w i q h j = rw h (λ os n st up g. asked i os st up g ∙ else_there (D.else_at mixed (is_inside k) s e) q i os n st up f j)

    ends_then : (w : Where) (i : ℕ) → w ≡ Wh.InThen → m ≡ None → Ends w i (Dn.Up i)
    ends_then w i h j = rw h (λ os n st up g. asked i os st up g ∙ else_missing (D.else_at mixed (is_inside k) s e) i os n st up f j)

  module _ (o : Open) where
    pub done_list : (o.kind ≡ Wh.InProgram) ⊎ ((o.kind ≡ Wh.InGroup) ⊎ (o.kind ≡ Wh.InBody)) → Completes s o k e Dn.On
    done_list h = record { is = ends_list o.kind o.row h }

    pub done_else : o.kind ≡ Wh.InElse → Completes s o k e (Dn.Up o.row)
    done_else h = record { is = ends_else o.kind o.row h }

    pub done_on : (m : Option ℕ) → m ≡ else_for (D.else_at mixed (is_inside k) s e) → (q : ℕ) → o.kind ≡ Wh.InThen → m ≡ Some q → Completes s o k e (Dn.OnElse o.row q)
    done_on m f q h j = record { is = ends_on m f o.kind o.row q h j }

    pub done_then : (m : Option ℕ) → m ≡ else_for (D.else_at mixed (is_inside k) s e) → o.kind ≡ Wh.InThen → m ≡ None → Completes s o k e (Dn.Up o.row)
    done_then m f h j = record { is = ends_then m f o.kind o.row h j }

-- ---- END
pub end_is : (s : List ℕ) (at : ℕ) (l : Lexeme) → Lexed s at l → is_end_in s l ≡ D.is_end mixed s (token_at mixed s at)
unfolding is_end_in D.is_end
end_is s at l lex = rw (is_word_lem s at l lex "END" (69 ∷ 78 ∷ 68 ∷ []) refl, lex.to)

module _ (s : List ℕ) (t : Lexeme) (ls : List (List ℕ)) (a : Bool) (ha : a ≡ is_word_kind t.kind) where
  pub may_name_word : a ≡ true → (r : Bool) → r ≡ is_one_of (spelling s t) ls → r ≡ may_name_in s t ls
  unfolding may_name_in
  may_name_word e r f = rw (← ha, e) f

  pub may_name_none : a ≡ false → a ≡ may_name_in s t ls
  unfolding may_name_in
  may_name_none e = rw (← ha, e)

may_name_is : (s : List ℕ) (at : ℕ) (l : Lexeme) → Lexed s at l → (ls : List (List ℕ)) → may_name_in s l ls ≡ D.may_name (token_at mixed s at).token ls
unfolding may_name_in
may_name_is s at l lex ls = rw (token_is s at l lex) (by_kind l.kind (written s l) (content s l.from))
  where
    by_kind : (k : Kind) (x y : List ℕ) → (is_word_kind k && is_one_of (folded mixed x) ls) ≡ D.may_name (token_for k x y) ls
    by_kind Kd.Word x y = refl
    by_kind Kd.Integer x y = refl
    by_kind Kd.String x y = refl
    by_kind Kd.Bits x y = refl
    by_kind Kd.Sign x y = refl
    by_kind Kd.Nothing x y = refl
    by_kind Kd.Wrong x y = refl

semicolon_by : (b : Bool) (q p : ℕ) → cond b (Ok q) (Err (Syntax, p)) ≡ expect_for (when b (λ _. read q) (λ _. refused Syntax p))
semicolon_by true q p = refl
semicolon_by false q p = refl

semicolon : (s : List ℕ) (at : ℕ) → expected (59 ∷ []) s at ≡ expect_for (when (Tk.is_sign ";" (token_at mixed s at).token) (λ _. read (token_at mixed s at).to) (λ _. refused Syntax (token_at mixed s at).from))
unfolding expected
semicolon s at = rw (sign_spelled ";" (59 ∷ []) refl (token_at mixed s at).token) (semicolon_by (Tk.is_sign ";" (token_at mixed s at).token) (token_at mixed s at).to (token_at mixed s at).from)

module _ (s : List ℕ) (ls : List (List ℕ)) (at : ℕ) (t : Lexeme) (lex : Lexed s at t) (v : Bool) (hv : v ≡ is_sign_in s t (59 ∷ [])) where
  pub end_bare : v ≡ true → Ok t.to ≡ expect_for (D.end_name mixed s ls at)
  unfolding D.end_name
  end_bare e = rw (told s at t lex ";" (59 ∷ []) v true refl hv e, lex.to)

  module _ (nv : v ≡ false) (b : Bool) (hb : b ≡ may_name_in s t ls) where
    pub end_named : b ≡ true → (r : Expected) → r ≡ expected (59 ∷ []) s t.to → r ≡ expect_for (D.end_name mixed s ls at)
    unfolding D.end_name
    end_named e r f = rw (told s at t lex ";" (59 ∷ []) v false refl hv nv, ← may_name_is s at t lex ls, ← hb, e, ← lex.to) (f ∙ semicolon s t.to)

    pub end_wrong : b ≡ false → Err (Syntax, t.from) ≡ expect_for (D.end_name mixed s ls at)
    unfolding D.end_name
    end_wrong e = rw (told s at t lex ";" (59 ∷ []) v false refl hv nv, ← may_name_is s at t lex ls, ← hb, e, lex.from)

-- ---- an alternative
module _ (s : List ℕ) (at : ℕ) (t : Lexeme) where
  begun_by : (k : Owner) (b : Bool) → is_inside k ≡ true → Lexed s at t → begins_in s t ≡ b → (st : D.State) → D.alternative_at mixed (scope_of k) s at (token_at mixed s at) st ≡ alternative_turn (cond b (Some at) None) s (token_at mixed s at) st
  begun_by Everyone b e lex f st = absurd (false≢true e)
  begun_by (Procedure p) true e lex f st = rw (sym (begins_is s at t lex) ∙ f)
  begun_by (Procedure p) false e lex f st = rw (sym (begins_is s at t lex) ∙ f)

  percent_by : (k : Owner) (v b : Bool) → is_inside k ≡ false → Lexed s at t → v ≡ is_sign_in s t (37 ∷ []) → v ≡ b → (st : D.State) → D.alternative_at mixed (scope_of k) s at (token_at mixed s at) st ≡ alternative_turn (cond b (Some t.to) None) s (token_at mixed s at) st
  percent_by (Procedure p) v b e lex hv f st = absurd (false≢true (sym e))
  percent_by Everyone v true e lex hv f st = rw (told s at t lex "%" (37 ∷ []) v true refl hv f, lex.to)
  percent_by Everyone v false e lex hv f st = rw (told s at t lex "%" (37 ∷ []) v false refl hv f)

  module _ (k : Owner) (i : Bool) (hi : i ≡ is_inside k) where
    module _ (yi : i ≡ true) (b : Bool) (hb : b ≡ begins_in s t) where
      pub from_first : b ≡ true → AlternativeFrom s k t at (Some at)
      from_first e = record { is = λ lex st. begun_by k true (sym hi ∙ yi) lex (sym hb ∙ e) st; enters = λ lex q f. let z : at ≡ q = cc in first (sym z) (sym (begins_is s at t lex) ∙ sym hb ∙ e) }

      pub from_wrong : b ≡ false → AlternativeFrom s k t at None
      from_wrong e = record { is = λ lex st. begun_by k false (sym hi ∙ yi) lex (sym hb ∙ e) st; enters = λ lex q f. let z : ◌≡◌ {A = ℕ} 0 1 = cc in absurd (omega arith) }

    module _ (ni : i ≡ false) (v : Bool) (hv : v ≡ is_sign_in s t (37 ∷ [])) where
      pub from_percent : v ≡ true → AlternativeFrom s k t at (Some t.to)
      from_percent e = record { is = λ lex st. percent_by k v true (sym hi ∙ ni) lex hv e st; enters = λ lex q f. let z : t.to ≡ q = cc in behind (sym z ∙ lex.to) (told s at t lex "%" (37 ∷ []) v true refl hv e) }

      pub from_none : v ≡ false → AlternativeFrom s k t at None
      from_none e = record { is = λ lex st. percent_by k v false (sym hi ∙ ni) lex hv e st; enters = λ lex q f. let z : ◌≡◌ {A = ℕ} 0 1 = cc in absurd (omega arith) }
