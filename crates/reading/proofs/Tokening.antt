-- A statement by its first token: one law for each way out.
-- Assumes nothing.
use Rattle.std.proofs.Common.{Err}
use Rattle.statements.specs.Types.{Read}
use mathlib.Core.Path.{◌≡◌, refl, sym, ap, subst, ◌∙◌}
use mathlib.Core.Bool.{Bool, true, false, ◌&&◌}
use mathlib.Core.List.{List, [], ◌∷◌}
use Prim.Native.Nat.{ℕ, ◌-◌, ◌<◌, ◌≤◌}
use native.Mathlib.Omega.{arith}
use lib.Dec.{ltb}
use lib.ListN.{length}
use Rattle.definition.specs.Bytes.{mixed}
use Rattle.definition.specs.Lists.{same}
use Rattle.definition.specs.Tokens as Tk
use Rattle.definition.specs.Tokens.{token_at}
use Rattle.definition.specs.Expressions.{read, refused, Named}
use Rattle.definition.specs.Program as P
use Rattle.definition.specs.Statements as St
use Rattle.definition.specs.Reading as D
use Rattle.definition.specs.declared.Why.{Why}
use Rattle.definition.specs.declared.Why.TheVariants.{Syntax, OverLimit}
use Rattle.tokens.specs.declared.Lexeme.{Lexeme}
use Rattle.tokens.specs.Answer.{Lexed, spelling, is_word_kind, is_word_in, is_sign_in}
use Rattle.tokens.proofs.Lexemes.{is_sign_lem}
use Rattle.rows.specs.declared.Statement.TheVariants as S
use Rattle.statements.specs.declared.Keyword.{Keyword}
use Rattle.statements.specs.declared.Keyword.TheVariants as K
use Rattle.statements.specs.Clauses.{scope_of, read_for}
use Rattle.statements.specs.Again.{statement_at}
use Rattle.openings.specs.Open.{opened_of, opens_by, keyword_here, keyword_at, null_for, by_keyword}
use Rattle.openings.proofs.Sentences.{token_word, token_long, token_null, token_wrong}
use Rattle.reading.specs.declared.State.{State}
use Rattle.reading.specs.declared.Next.TheVariants as Nx
use Rattle.reading.specs.declared.Turned.{Turned}
use Rattle.reading.specs.State.{state_of, turned, Stood, TakesAs, from_state}
use Rattle.reading.specs.Sentences.{Clausal, ByWord, ByToken}
use Rattle.reading.proofs.Places.{token_on, sign_real}
use Rattle.reading.proofs.Endings.{takes_refused}
use Rattle.reading.proofs.Wording.{clausal_read}

-- what is no word begins no statement by its keyword
no_word : (e l i n : Bool) (x : List ℕ) → keyword_here e l i n (λ v. false && same x v) ≡ K.Other
unfolding keyword_here
no_word true l i n x = refl
no_word false true true n x = refl
no_word false true false true x = refl
no_word false true false false x = refl
no_word false false true n x = refl
no_word false false false n x = refl

no_keyword : (s : List ℕ) (w : D.Where) (b : Bool) (l : Lexeme) (c : ℕ) → is_word_kind l.kind ≡ false → keyword_at s w b l c ≡ K.Other
unfolding keyword_at is_word_in
no_keyword s w b l c e =
    ap (λ (g : Bool). keyword_here (Tk.is_sign "=" (token_at mixed s l.to).token) (D.is_list w) b (ltb 0 c) (λ v. g && same (spelling s l) v)) e
    ∙ no_word (Tk.is_sign "=" (token_at mixed s l.to).token) (D.is_list w) b (ltb 0 c) (spelling s l)

module _ (d s t n : List ℕ) (x : State) (k : Keyword) (l : Lexeme) (from p labels : ℕ) (r : Turned) (v : Bool) (hv : v ≡ is_word_kind l.kind) where
  pub token_by_word : (m : ℕ) (t' n' : List ℕ) → v ≡ true → m ≡ l.to - l.from → m ≤ 31 → ByWord d s t n x k l from p labels t' n' r → ByToken d s t n x k l from p labels t' n' r
  unfolding state_of
  token_by_word m t' n' e hm low h = record {
    so = λ ns c i hk hc.
        let short : l.to - l.from ≤ 31 = omega (arith, hm, low) in
        subst (λ (X : D.Turn). Clausal d s t n x (D.label_meaning (opens_by k) x.rows) ns X t' n' r)
        (sym (token_word s p ns (from_state s t x) from l i.lexed (sym hv ∙ e) short c hc ∙ ap (λ (q : Keyword). by_keyword q s p ns (spelling s l) (token_at mixed s from) (token_at mixed s (token_at mixed s from).to) (from_state s t x)) (sym hk)))
        (h.so ns i (sym hv ∙ e) short);
  }

  -- a token that is wrong
  wrong : (w : Why) → r ≡ turned x (Nx.Stop w l.from) → ((ns : List Named) → Lexed s from l → D.by_token mixed (token_at mixed s from).token s p ns (token_at mixed s from) (from_state s t x) ≡ D.untaken p ns (from_state s t x) w l.from []) → ByToken d s t n x k l from p labels t n r
  wrong w hr f = record {
    so = λ ns c i hk hc. subst (λ (X : D.Turn). Clausal d s t n x (D.label_meaning (opens_by k) x.rows) ns X t n r) (sym (f ns i.lexed))
        (clausal_read d s t n x l from p labels ns i S.Null (opens_by k) t r (Err (w, l.from)) (takes_refused s t x p labels r (Err (w, l.from)) w l.from refl hr) (refused w l.from) (refl, refl) tt);
  }

  pub token_too_long : (m : ℕ) → v ≡ true → m ≡ l.to - l.from → 31 < m → r ≡ turned x (Nx.Stop OverLimit l.from) → ByToken d s t n x k l from p labels t n r
  token_too_long m e hm high hr = wrong OverLimit hr (λ ns lex. token_long s p ns (from_state s t x) from l lex (sym hv ∙ e) (omega (arith, hm, high)))

  module _ (e : v ≡ false) (g : Bool) (hg : g ≡ is_sign_in s l (59 ∷ [])) where
    pub token_no_statement : g ≡ false → r ≡ turned x (Nx.Stop Syntax l.from) → ByToken d s t n x k l from p labels t n r
    token_no_statement f hr = wrong Syntax hr (λ ns lex. token_wrong s p ns (from_state s t x) from l lex (sym hv ∙ e) (sym hg ∙ f))

    null_stood : (y : Read) → y ≡ null_for l.from l.to → l.from < 65536 → Stood s y (read (St.clause P.null St.opens_nothing l.to))
    unfolding null_for read_for statement_at
    null_stood y hy low = rw hy (record { statement = refl; content = low; opens = refl; to = refl; kind = refl; type = refl })

    pub token_empty : (y : Read) (t' : List ℕ) → g ≡ true → y ≡ null_for l.from l.to → TakesAs s t x y p labels t' r → ByToken d s t n x k l from p labels t' n r
    token_empty y t' f hy h = record {
      so = λ ns c i hk hc.
          let b : ((token_at mixed s from).from < (token_at mixed s from).to) × ((token_at mixed s from).to ≤ length s) = (token_on s from).some (sign_real ";" (token_at mixed s from).token (sym (is_sign_lem s from l i.lexed ";" (59 ∷ []) refl) ∙ sym hg ∙ f)) in
          let z : k ≡ K.Other = hk ∙ no_keyword s (D.kind_of (opened_of s x.opened)) (D.is_inside (scope_of x.scope)) l c (sym hv ∙ e) in
          subst (λ (X : D.Turn). Clausal d s t n x (D.label_meaning (opens_by k) x.rows) ns X t' n r) (sym (token_null s p ns (from_state s t x) from l i.lexed (sym hv ∙ e) (sym hg ∙ f)))
          (clausal_read d s t n x l from p labels ns i S.Null (opens_by k) t' r y h (read (St.clause P.null St.opens_nothing l.to)) (null_stood y hy (omega (arith, b.0, b.1, i.lexed.from, i.sits.short))) (record { opens = ap opens_by (sym z); statement = ap opens_by (sym z); kind = refl }));
    }
