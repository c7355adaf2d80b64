-- One law for each way out of the leaves.
-- Assumes nothing.
use Rattle.std.proofs.Common.{Option, Some, None}
use mathlib.Core.Path.{◌≡◌, refl, sym, ap, ◌∙◌}
use mathlib.Core.Bool.{Bool, true, false, cond, not, ◌&&◌}
use mathlib.Core.List.{List, [], ◌∷◌}
use Prim.Native.Nat.{ℕ}
use lib.ListN.{length}
use Rattle.definition.specs.Bytes.{mixed}
use Rattle.definition.specs.Tokens as Tk
use Rattle.definition.specs.Tokens.{token_at}
use Rattle.definition.specs.Reading as D
use Rattle.tokens.specs.declared.Lexeme.{Lexeme}
use Rattle.tokens.specs.declared.Ending.{Ending}
use Rattle.tokens.specs.declared.Ending.TheVariants as E
use Rattle.tokens.specs.Answer.{Lexed, is_sign_in, is_word_in, is_word_kind, kind_of}
use Rattle.tokens.proofs.Lexemes.{is_sign_lem, is_word_lem}
use Rattle.expressions.proofs.Laws.{told}
use Rattle.names.specs.declared.Owner.{Owner}
use Rattle.statements.specs.Clauses.{is_inside}
use Rattle.openings.specs.Open.{end_for, else_for, else_word_in, label_past}

-- ---- END and ELSE are decided
module _ (s : List ℕ) (at : ℕ) (l : Lexeme) (lex : Lexed s at l) (a : Bool) (ha : a ≡ is_sign_in s l (61 ∷ [])) where
  pub decided_equals : a ≡ true → not a ≡ D.is_decided (token_at mixed s at).token
  unfolding D.is_decided
  decided_equals e = rw (told s at l lex "=" (61 ∷ []) a true refl ha e, e)

  module _ (na : a ≡ false) (b : Bool) (hb : b ≡ is_sign_in s l (58 ∷ [])) where
    pub decided_rest : not b ≡ D.is_decided (token_at mixed s at).token
    unfolding D.is_decided
    decided_rest = rw (told s at l lex "=" (61 ∷ []) a false refl ha na, hb, is_sign_lem s at l lex ":" (58 ∷ []) refl)

module _ (s : List ℕ) (t : Lexeme) (a : Bool) (ha : a ≡ is_word_in s t (69 ∷ 76 ∷ 83 ∷ 69 ∷ [])) where
  pub no_else_word : a ≡ false → None ≡ else_word_in s t
  unfolding else_word_in
  no_else_word e = rw (← ha, e)

  module _ (ya : a ≡ true) (b : Bool) (hb : b ≡ D.is_decided (token_at mixed s t.to).token) where
    pub else_decided : b ≡ true → Some t.to ≡ else_word_in s t
    unfolding else_word_in
    else_decided e = rw (← ha, ya, ← hb, e)

    pub else_open : b ≡ false → None ≡ else_word_in s t
    unfolding else_word_in
    else_open e = rw (← ha, ya, ← hb, e)

either_else : (g : Bool) (q : ℕ) → cond g (Some q) None ≡ else_for (cond g (D.else_to q) D.no_else)
either_else true q = refl
either_else false q = refl

word_else : (s : List ℕ) (e : ℕ) (t : Lexeme) → Lexed s e t → else_word_in s t ≡ else_for (D.else_word mixed s (token_at mixed s e))
unfolding else_word_in D.else_word
word_else s e t lex = rw (is_word_lem s e t lex "ELSE" (69 ∷ 76 ∷ 83 ∷ 69 ∷ []) refl, lex.to) (either_else (Tk.is_word "ELSE" (token_at mixed s e).token && D.is_decided (token_at mixed s (token_at mixed s e).to).token) (token_at mixed s e).to)

module _ (s : List ℕ) (e : ℕ) (o : Owner) (t : Lexeme) (lex : Lexed s e t) (i : Bool) (hi : i ≡ is_inside o) where
  pub else_inside : i ≡ true → (r : Option ℕ) → r ≡ else_word_in s t → r ≡ else_for (D.else_at mixed (is_inside o) s e)
  unfolding D.else_at
  else_inside h r f = rw (← hi, h) (f ∙ word_else s e t lex)

  module _ (h : i ≡ false) (v : Bool) (hv : v ≡ is_sign_in s t (37 ∷ [])) where
    pub else_percent : v ≡ true → (u : Lexeme) → Lexed s t.to u → (r : Option ℕ) → r ≡ else_word_in s u → r ≡ else_for (D.else_at mixed (is_inside o) s e)
    unfolding D.else_at
    else_percent g u lux r f = rw (← hi, h, told s e t lex "%" (37 ∷ []) v true refl hv g, ← lex.to) (f ∙ word_else s t.to u lux)

    pub else_none : v ≡ false → None ≡ else_for (D.else_at mixed (is_inside o) s e)
    unfolding D.else_at
    else_none g = rw (← hi, h, told s e t lex "%" (37 ∷ []) v false refl hv g)

-- ---- labels
pub name_kind : (t : Tk.Token) → is_word_kind (kind_of t) ≡ D.is_name t
name_kind (Tk.word x) = refl
name_kind (Tk.integer x) = refl
name_kind (Tk.string x) = refl
name_kind (Tk.bits x) = refl
name_kind (Tk.sign x) = refl
name_kind Tk.nothing = refl
name_kind Tk.wrong = refl

module _ (s : List ℕ) (at : ℕ) (l : Lexeme) (lex : Lexed s at l) (a : Bool) (ha : a ≡ is_word_kind l.kind) where
  names : D.is_name (token_at mixed s at).token ≡ a
  names = sym (ha ∙ ap is_word_kind lex.kind ∙ name_kind (token_at mixed s at).token)

  pub no_label : a ≡ false → None ≡ label_past s at
  unfolding label_past
  no_label e = rw (names, e)

  module _ (ya : a ≡ true) (u : Lexeme) (lux : Lexed s l.to u) (b : Bool) (hb : b ≡ is_sign_in s u (58 ∷ [])) where
    pub a_label : b ≡ true → Some u.to ≡ label_past s at
    unfolding label_past
    a_label e = rw (names, ya, ← lex.to, told s l.to u lux ":" (58 ∷ []) b true refl hb e, lux.to)

    pub not_label : b ≡ false → None ≡ label_past s at
    unfolding label_past
    not_label e = rw (names, ya, ← lex.to, told s l.to u lux ":" (58 ∷ []) b false refl hb e)

-- ---- where a text ends
module _ (s : List ℕ) (e : Ending) where
  pub end_end : e ≡ E.AtEnd → length s ≡ end_for s e
  end_end h = rw h
