-- What a test on a lexeme tells of the definition's token, and one law for each way out.
-- Assumes nothing.
use Rattle.std.proofs.Common.{Option, Some, None, Ok, Err}
use mathlib.Core.Path.{◌≡◌, refl, sym, ap, ◌∙◌}
use mathlib.Core.Bool.{Bool, true, false, ◌&&◌, false≢true}
use mathlib.Core.List.{List, [], ◌∷◌}
use Prim.Native.Nat.{ℕ, zero, suc, ◌-◌, ◌<◌, ◌≤◌}
use Prim.Native.String as S
use native.Mathlib.Omega.{arith}
use borrow.Author.Tests.{le-leb, lt-leb}
use lib.ListN.{length}
use Rattle.definition.specs.Bytes.{mixed, folded}
use Rattle.definition.specs.Lists.{same, part}
use Rattle.definition.specs.Text.{bytes_of}
use Rattle.definition.specs.Tokens as T
use Rattle.definition.specs.Expressions as E
use Rattle.definition.specs.declared.Operator.{Operator}
use Rattle.definition.specs.declared.Operator.TheVariants.{Times, Divided, Plus, Minus, Greater, GreaterEqual, Equal, Less, LessEqual, NotGreater, NotEqual, NotLess}
use Rattle.definition.specs.declared.Prefix.TheVariants.{Positive, Negative, Complement}
use Rattle.definition.specs.declared.Why.TheVariants.{Syntax, OverLimit}
use Rattle.definition.proofs.Folded.{length_folded}
use Rattle.definition.proofs.Parts.{length_part}
use Rattle.tokens.specs.declared.Kind.{Kind}
use Rattle.tokens.specs.declared.Kind.TheVariants.{Word, Integer, String, Bits, Sign, Nothing, Wrong}
use Rattle.tokens.specs.declared.Lexeme.{Lexeme}
use Rattle.tokens.specs.Answer.{written, Lexed, spelling, is_sign_in, is_word_in, is_sign_kind, is_word_kind, content, token_for}
use Rattle.tokens.proofs.Lexemes as L
use Rattle.expressions.specs.Check.{infix_for, infix_at, single_for, prefix_for, is_spelled, expected, is_worded, expected_word, named_for}

-- equal pairs have equal parts
pub parts : {A B : Type 0} {p q : A × B} → p ≡ q → (p.0 ≡ q.0) × (p.1 ≡ q.1)
parts {A} {B} h = (ap (λ (x : A × B). x.0) h, ap (λ (x : A × B). x.1) h)

module _ (s : List ℕ) (at : ℕ) (l : Lexeme) (lex : Lexed s at l) where
  -- a test on a sign, as the definition has it
  pub told : (W : S.String) (w : List ℕ) (r b : Bool) → bytes_of W ≡ w → r ≡ is_sign_in s l w → r ≡ b → T.is_sign W (T.token_at mixed s at).token ≡ b
  told W w r b e f g = sym (L.is_sign_lem s at l lex W w e) ∙ sym f ∙ g

  spelled : (w : List ℕ) → is_sign_in s l w ≡ is_spelled w (T.token_at mixed s at).token
  unfolding is_sign_in
  spelled w = rw (L.token_is s at l lex) (by_kind l.kind (written s l) (content s l.from))
    where
      by_kind : (k : Kind) (x y : List ℕ) → (is_sign_kind k && same x w) ≡ is_spelled w (token_for k x y)
      by_kind Word x y = refl
      by_kind Integer x y = refl
      by_kind String x y = refl
      by_kind Bits x y = refl
      by_kind Sign x y = refl
      by_kind Nothing x y = refl
      by_kind Wrong x y = refl

  -- the operators of a level, by the code's tests
  pub product_tests : infix_at 0 s at ≡ infix_for (E.or_else (is_sign_in s l (42 ∷ [])) Times (E.or_else (is_sign_in s l (47 ∷ [])) Divided E.no_operator)) l.to
  unfolding infix_at E.infix_of
  product_tests = rw (L.is_sign_lem s at l lex "*" (42 ∷ []) refl, L.is_sign_lem s at l lex "/" (47 ∷ []) refl, lex.to)

  pub sum_tests : infix_at 1 s at ≡ infix_for (E.or_else (is_sign_in s l (43 ∷ [])) Plus (E.or_else (is_sign_in s l (45 ∷ [])) Minus E.no_operator)) l.to
  unfolding infix_at E.infix_of
  sum_tests = rw (L.is_sign_lem s at l lex "+" (43 ∷ []) refl, L.is_sign_lem s at l lex "-" (45 ∷ []) refl, lex.to)

  pub comparison_tests : infix_at 3 s at ≡ infix_for (E.or_else (is_sign_in s l (62 ∷ [])) Greater (E.or_else (is_sign_in s l (62 ∷ 61 ∷ [])) GreaterEqual (E.or_else (is_sign_in s l (61 ∷ [])) Equal (E.or_else (is_sign_in s l (60 ∷ [])) Less (E.or_else (is_sign_in s l (60 ∷ 61 ∷ [])) LessEqual (E.or_else (is_sign_in s l (94 ∷ 62 ∷ [])) NotGreater (E.or_else (is_sign_in s l (94 ∷ 61 ∷ [])) NotEqual (E.or_else (is_sign_in s l (94 ∷ 60 ∷ [])) NotLess E.no_operator)))))))) l.to
  unfolding infix_at E.infix_of E.comparison
  comparison_tests = rw (L.is_sign_lem s at l lex ">" (62 ∷ []) refl, L.is_sign_lem s at l lex ">=" (62 ∷ 61 ∷ []) refl, L.is_sign_lem s at l lex "=" (61 ∷ []) refl, L.is_sign_lem s at l lex "<" (60 ∷ []) refl, L.is_sign_lem s at l lex "<=" (60 ∷ 61 ∷ []) refl, L.is_sign_lem s at l lex "^>" (94 ∷ 62 ∷ []) refl, L.is_sign_lem s at l lex "^=" (94 ∷ 61 ∷ []) refl, L.is_sign_lem s at l lex "^<" (94 ∷ 60 ∷ []) refl, lex.to)

  pub prefix_tests : prefix_for (E.prefix_of (T.token_at mixed s at).token) (T.token_at mixed s at).to ≡ prefix_for (E.or_else (is_sign_in s l (43 ∷ [])) Positive (E.or_else (is_sign_in s l (45 ∷ [])) Negative (E.or_else (is_sign_in s l (94 ∷ [])) Complement E.no_operator))) l.to
  unfolding E.prefix_of
  prefix_tests = rw (L.is_sign_lem s at l lex "+" (43 ∷ []) refl, L.is_sign_lem s at l lex "-" (45 ∷ []) refl, L.is_sign_lem s at l lex "^" (94 ∷ []) refl, lex.to)

  pub there : (w : List ℕ) (r : Bool) → r ≡ is_sign_in s l w → r ≡ true → Ok l.to ≡ expected w s at
  unfolding expected
  there w r f g = rw (← spelled w, ← f, g, lex.to)

  pub not_there : (w : List ℕ) (r : Bool) → r ≡ is_sign_in s l w → r ≡ false → Err (Syntax, l.from) ≡ expected w s at
  unfolding expected
  not_there w r f g = rw (← spelled w, ← f, g, lex.from)

  pub single_there : (w : List ℕ) (o : Operator) (r : Bool) → r ≡ is_sign_in s l w → r ≡ true → Some (o, l.to) ≡ single_for w o s at
  unfolding single_for
  single_there w o r f g = rw (← spelled w, ← f, g, lex.to)

  pub single_not_there : (w : List ℕ) (o : Operator) (r : Bool) → r ≡ is_sign_in s l w → r ≡ false → None ≡ single_for w o s at
  unfolding single_for
  single_not_there w o r f g = rw (← spelled w, ← f, g)

  worded : (w : List ℕ) → is_word_in s l w ≡ is_worded w (T.token_at mixed s at).token
  unfolding is_word_in
  worded w = rw (L.token_is s at l lex) (by_kind l.kind (written s l) (content s l.from))
    where
      by_kind : (k : Kind) (x y : List ℕ) → (is_word_kind k && same (folded mixed x) w) ≡ is_worded w (token_for k x y)
      by_kind Word x y = refl
      by_kind Integer x y = refl
      by_kind String x y = refl
      by_kind Bits x y = refl
      by_kind Sign x y = refl
      by_kind Nothing x y = refl
      by_kind Wrong x y = refl

  pub word_there : (w : List ℕ) (r : Bool) → r ≡ is_word_in s l w → r ≡ true → Ok l.to ≡ expected_word w s at
  unfolding expected_word
  word_there w r f g = rw (← worded w, ← f, g, lex.to)

  pub word_not_there : (w : List ℕ) (r : Bool) → r ≡ is_word_in s l w → r ≡ false → Err (Syntax, l.from) ≡ expected_word w s at
  unfolding expected_word
  word_not_there w r f g = rw (← worded w, ← f, g, lex.from)

  -- a word is a name, if it is short enough
  word_is : (k : Kind) (x y : List ℕ) → is_word_kind k ≡ true → token_for k x y ≡ T.word (folded mixed x)
  word_is Word x y e = refl
  word_is Integer x y e = absurd (false≢true e)
  word_is String x y e = absurd (false≢true e)
  word_is Bits x y e = absurd (false≢true e)
  word_is Sign x y e = absurd (false≢true e)
  word_is Nothing x y e = absurd (false≢true e)
  word_is Wrong x y e = absurd (false≢true e)

  module _ (r : Bool) (f : r ≡ is_word_kind l.kind) where
    named : r ≡ true → (T.token_at mixed s at).token ≡ T.word (spelling s l)
    named g = L.token_is s at l lex ∙ word_is l.kind (written s l) (content s l.from) (sym f ∙ g)

    size : length (spelling s l) ≡ l.to - l.from
    unfolding written
    size = length_folded mixed (part (l.to - l.from) l.from s) ∙ length_part (l.to - l.from) l.from s

    pub short_name : (n : ℕ) → r ≡ true → n ≡ l.to - l.from → n ≤ 31 → Ok (l.from, l.to) ≡ named_for (E.name_at mixed s at)
    unfolding E.name_at
    short_name n g e h = rw (named g, le-leb (length (spelling s l)) 31 (omega (arith, size, e, h)), lex.from, lex.to)

    pub long_name : (n : ℕ) → r ≡ true → n ≡ l.to - l.from → 31 < n → Err (OverLimit, l.from) ≡ named_for (E.name_at mixed s at)
    unfolding E.name_at
    long_name n g e h = rw (named g, lt-leb (length (spelling s l)) 31 (omega (arith, size, e, h)), lex.from)

    no_name : (k : Kind) (x y : List ℕ) (p q : ℕ) → is_word_kind k ≡ false → named_for (E.name_of (token_for k x y) p q) ≡ Err (Syntax, p)
    no_name Word x y p q e = absurd (false≢true (sym e))
    no_name Integer x y p q e = refl
    no_name String x y p q e = refl
    no_name Bits x y p q e = refl
    no_name Sign x y p q e = refl
    no_name Nothing x y p q e = refl
    no_name Wrong x y p q e = refl

    pub not_a_name : r ≡ false → Err (Syntax, l.from) ≡ named_for (E.name_at mixed s at)
    unfolding E.name_at
    not_a_name g = rw (L.token_is s at l lex, ← lex.from) (sym (no_name l.kind (written s l) (content s l.from) l.from (T.token_at mixed s at).to (sym f ∙ g)))

-- ---- the levels
pub of_level : (n k : ℕ) (s : List ℕ) (at : ℕ) (r : Option (Operator × ℕ)) → n ≡ k → r ≡ infix_at k s at → r ≡ infix_at n s at
of_level n k s at r e f = f ∙ ap (λ (m : ℕ). infix_at m s at) (sym e)

pub of_rest : (n : ℕ) (s : List ℕ) (at : ℕ) (r : Option (Operator × ℕ)) → (n ≡ 0 → ⊥) → (n ≡ 1 → ⊥) → (n ≡ 2 → ⊥) → (n ≡ 3 → ⊥) → (n ≡ 4 → ⊥) → r ≡ infix_at 5 s at → r ≡ infix_at n s at
unfolding infix_at E.infix_of
of_rest zero s at r a b c d e f = absurd (a refl)
of_rest (suc zero) s at r a b c d e f = absurd (b refl)
of_rest (suc (suc zero)) s at r a b c d e f = absurd (c refl)
of_rest (suc (suc (suc zero))) s at r a b c d e f = absurd (d refl)
of_rest (suc (suc (suc (suc zero)))) s at r a b c d e f = absurd (e refl)
of_rest (suc (suc (suc (suc (suc n))))) s at r a b c d e f = f
