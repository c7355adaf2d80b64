-- The check of an expression answers where the tree ends that the definition reads: one law for each way out.
-- Assumes nothing.
use Rattle.expressions.specs.Types.{Expected, NamedAt}
use Rattle.std.proofs.Common.{Option, Some, None, Ok, Err}
use mathlib.Core.Path.{◌≡◌, refl, sym, ap, ◌∙◌}
use mathlib.Core.Bool.{Bool, true, false, cond, ◌&&◌}
use mathlib.Core.Logic.{◌⊎◌, inl, inr}
use mathlib.Core.List.{List, [], ◌∷◌}
use Prim.Native.Nat.{ℕ, zero, suc, ◌+◌, ◌-◌, ◌<◌, ◌≤◌}
use Prim.Native.String as S
use native.Mathlib.Omega.{arith}
use native.Mathlib.Numerals.{add-one, sub-one}
use native.Mathlib.Nat.{add-zero, zero-add}
use lib.Dec.{leb}
use lib.ListN.{length}
use Rattle.definition.specs.Bytes.{mixed}
use Rattle.definition.specs.Choice.{when}
use Rattle.definition.specs.Lists.{same}
use Rattle.definition.specs.Text.{bytes_of}
use Rattle.definition.specs.Tokens.{Token, word, integer, string, bits, sign, nothing, wrong, is_sign, is_word, token_at}
use Rattle.definition.specs.Expressions.{Reading, read, refused, then, Tree, more, binary, none, Parsed, parsed, Maybe, is, no_operator, infix_of, prefix_of, expect_sign, expect_word, Named, name_at, Reader, arguments, reference_at, primitive, prefixed, operand, chained, chain, levels, expression, whole_expression}
use Rattle.definition.specs.declared.Operator.{Operator}
use Rattle.definition.specs.declared.Operator.TheVariants.{CatOp, AndOp, OrOp}
use Rattle.definition.specs.declared.Prefix.{Prefix}
use Rattle.definition.specs.declared.Why.{Why}
use Rattle.definition.specs.declared.Why.TheVariants.{Syntax, OverLimit}
use Rattle.tokens.specs.declared.Kind.{Kind}
use Rattle.tokens.specs.declared.Kind.TheVariants as K
use Rattle.tokens.specs.declared.Lexeme.{Lexeme}
use Rattle.tokens.specs.Answer.{Lexed, kind_of, lexeme_for, is_token, written, spelling, content, is_sign_in, is_sign_kind, token_for}
use Rattle.tokens.proofs.Lexemes.{token_is}
use Rattle.tokens.proofs.Reach.{token_low, token_past, token_inside}
use Rattle.expressions.specs.declared.Prefixes.{Prefixes}
use Rattle.expressions.specs.Check.{infix_for, infix_at, single_for, prefix_for, expect_for, is_spelled, expected, is_worded, expected_word, named_for, prefixes_of, with_prefix, prefixes, end_for, inside_of, referred, primitive_at, levels_in}
use Rattle.expressions.proofs.Laws.{told, parts}

-- ---- the tokens that must follow, spelled by text
module _ (W : S.String) (w : List ℕ) (e : bytes_of W ≡ w) where
  sign_spelled : (t : Token) → is_spelled w t ≡ is_sign W t
  sign_spelled (word x) = refl
  sign_spelled (integer x) = refl
  sign_spelled (string x) = refl
  sign_spelled (bits x) = refl
  sign_spelled (sign x) = rw e
  sign_spelled nothing = refl
  sign_spelled wrong = refl

  word_spelled : (t : Token) → is_worded w t ≡ is_word W t
  word_spelled (word x) = rw e
  word_spelled (integer x) = refl
  word_spelled (string x) = refl
  word_spelled (bits x) = refl
  word_spelled (sign x) = refl
  word_spelled nothing = refl
  word_spelled wrong = refl

  expect_either : (b c : Bool) (to from : ℕ) → b ≡ c → cond b (Ok to) (Err (Syntax, from)) ≡ expect_for (cond c (read to) (refused Syntax from))
  expect_either b true to from h = rw h
  expect_either b false to from h = rw h

  pub expected_is : (s : List ℕ) (at : ℕ) → expected w s at ≡ expect_for (expect_sign mixed W s at)
  unfolding expected expect_sign
  expected_is s at = expect_either _ _ (token_at mixed s at).to (token_at mixed s at).from (sign_spelled (token_at mixed s at).token)

  pub expected_word_is : (s : List ℕ) (at : ℕ) → expected_word w s at ≡ expect_for (expect_word mixed W s at)
  unfolding expected_word expect_word
  expected_word_is s at = expect_either _ _ (token_at mixed s at).to (token_at mixed s at).from (word_spelled (token_at mixed s at).token)

  single_either : (b : Bool) (o : Operator) (to : ℕ) → cond b (Some (o, to)) None ≡ infix_for (cond b (is o) no_operator) to
  single_either true o to = refl
  single_either false o to = refl

  single_is : (o : Operator) (s : List ℕ) (at : ℕ) → single_for w o s at ≡ infix_for (cond (is_sign W (token_at mixed s at).token) (is o) no_operator) (token_at mixed s at).to
  unfolding single_for
  single_is o s at = rw (sign_spelled (token_at mixed s at).token) (single_either (is_sign W (token_at mixed s at).token) o (token_at mixed s at).to)

-- ---- operators that are alone on their level
module _ (s : List ℕ) (at : ℕ) (r : Option (Operator × ℕ)) where
  pub of_join : (n : ℕ) → n ≡ 2 → r ≡ single_for (124 ∷ 124 ∷ []) CatOp s at → r ≡ infix_at n s at
  unfolding infix_at infix_of
  of_join n e f = rw e (f ∙ single_is "||" (124 ∷ 124 ∷ []) refl CatOp s at)

  pub of_and : (n : ℕ) → n ≡ 4 → r ≡ single_for (38 ∷ []) AndOp s at → r ≡ infix_at n s at
  unfolding infix_at infix_of
  of_and n e f = rw e (f ∙ single_is "&" (38 ∷ []) refl AndOp s at)

  pub of_or : r ≡ single_for (124 ∷ []) OrOp s at → r ≡ infix_at 5 s at
  unfolding infix_at infix_of
  of_or f = f ∙ single_is "|" (124 ∷ []) refl OrOp s at

-- ---- what an answer says of what was read
module _ (x : Expected) where
  pub ended : (e : ℕ) (R : Reading Parsed) → x ≡ end_for R → x ≡ Ok e → (t : Tree) × (R ≡ read (parsed t e))
  unfolding end_for
  ended e (read r) h k = let z : e ≡ r.to = cc in (r.tree, rw z)
  ended e (refused w p) h k = let z : ◌≡◌ {A = ℕ} 0 1 = cc in absurd (omega arith)

  pub refused_is : (d : Why × ℕ) (R : Reading Parsed) → x ≡ end_for R → x ≡ Err d → R ≡ refused d.0 d.1
  unfolding end_for
  refused_is d (read r) h k = let z : ◌≡◌ {A = ℕ} 0 1 = cc in absurd (omega arith)
  refused_is d (refused v q) h k = let z : d ≡ (v, q) = cc in let y : (d.0 ≡ v) × (d.1 ≡ q) = parts z in rw (y.0, y.1)

  module _ (f : Parsed → Reading Parsed) (R : Reading Parsed) (h : x ≡ end_for R) where
    then_past : (y : Expected) (e : ℕ) → x ≡ Ok e → ((t : Tree) → y ≡ end_for (f (parsed t e))) → y ≡ end_for (then R f)
    then_past y e k l = let q : (t : Tree) × (R ≡ read (parsed t e)) = ended e R h k in rw q.1 (l q.0)

    then_refused : (d : Why × ℕ) → x ≡ Err d → Err d ≡ end_for (then R f)
    unfolding end_for
    then_refused d k = rw (refused_is d R h k)

module _ (f g : Parsed → Reading Parsed) (h : (r : Parsed) → end_for (f r) ≡ end_for (g r)) where
  then_same : (R : Reading Parsed) → end_for (then R f) ≡ end_for (then R g)
  unfolding end_for
  then_same (read r) = h r
  then_same (refused w p) = refl

-- a tree over what was read ends where it does
kept : (F : Parsed → Tree) (R : Reading Parsed) → end_for (then R λ r. read (parsed (F r) r.to)) ≡ end_for R
unfolding end_for
kept F (read r) = refl
kept F (refused w p) = refl

closed : (t : Tree) (R : Reading ℕ) → end_for (then R λ e. read (parsed t e)) ≡ expect_for R
unfolding end_for
closed t (read e) = refl
closed t (refused w p) = refl

-- ---- a chain of operators
chained_same : (g h : Operator → Reading Parsed) (a b : Reading Parsed) → ((o : Operator) → end_for (g o) ≡ end_for (h o)) → end_for a ≡ end_for b → (o : Maybe Operator) → end_for (chained o g a) ≡ end_for (chained o h b)
chained_same g h a b i j (is o) = i o
chained_same g h a b i j no_operator = j

infix_is : (x : Option (Operator × ℕ)) (o : Operator) (q to : ℕ) (m : Maybe Operator) → x ≡ infix_for m to → x ≡ Some (o, q) → (m ≡ is o) × (to ≡ q)
infix_is x o q to (is v) h k = let z : (o, q) ≡ (v, to) = cc in let y : (o ≡ v) × (q ≡ to) = parts z in (rw y.0, sym y.1)
infix_is x o q to no_operator h k = let z : ◌≡◌ {A = ℕ} 0 1 = cc in absurd (omega arith)

infix_none : (x : Option (Operator × ℕ)) (to : ℕ) (m : Maybe Operator) → x ≡ infix_for m to → ((o : Operator) (q : ℕ) → x ≡ Some (o, q) → ⊥) → m ≡ no_operator
infix_none x to (is v) h k = absurd (k v to h)
infix_none x to no_operator h k = refl

-- the operators that are left end where all of them do
pub record Chaining (l : ℕ) (next : Reader) (s : List ℕ) (from turns at : ℕ) : Type 0 where
  pub same : end_for (chain mixed l next s turns none at) ≡ end_for (chain mixed l next s (suc (length s)) none from)

module _ (l : ℕ) (next : Reader) (s : List ℕ) where
  -- the end is the same whatever the tree
  chain_same : (f : ℕ) (t u : Tree) (at : ℕ) → end_for (chain mixed l next s f t at) ≡ end_for (chain mixed l next s f u at)
  unfolding chain end_for
  chain_same zero t u at = refl
  chain_same (suc f) t u at = chained_same _ _ _ _ (λ o. then_same _ _ (λ r. chain_same f _ _ r.to) (next (token_at mixed s at).to)) refl (infix_of l (token_at mixed s at).token)

  chain_turn : (n : ℕ) (t : Tree) (at : ℕ) → 0 < n
      → chain mixed l next s n t at ≡ chained (infix_of l (token_at mixed s at).token) (λ o. then (next (token_at mixed s at).to) λ r. chain mixed l next s (n - 1) (binary o t r.tree) r.to) (read (parsed t at))
  unfolding chain
  chain_turn zero t at h = absurd (omega arith)
  chain_turn (suc n) t at h = rw sub-one

  pub chaining_start : (from : ℕ) → Chaining l next s from (length s + 1) from
  chaining_start from = record { same = rw add-one }

  module _ (from turns at : ℕ) (h : Chaining l next s from turns at) where
    pub chaining_end : turns ≤ 0 → Err (Syntax, at) ≡ end_for (chain mixed l next s (suc (length s)) none from)
    unfolding chain end_for
    chaining_end k = let z : turns ≡ 0 = omega arith in rw z at h.same

    module _ (k : 0 < turns) (x : Option (Operator × ℕ)) (i : x ≡ infix_at l s at) where
      off : ((o : Operator) (q : ℕ) → x ≡ Some (o, q) → ⊥) → chain mixed l next s turns none at ≡ read (parsed none at)
      unfolding infix_at
      off e = chain_turn turns none at k ∙ rw (infix_none x (token_at mixed s at).to (infix_of l (token_at mixed s at).token) i e)

      pub chaining_done : ((o : Operator) (q : ℕ) → x ≡ Some (o, q) → ⊥) → Ok at ≡ end_for (chain mixed l next s (suc (length s)) none from)
      unfolding end_for
      chaining_done e = rw (off e) at h.same

      module _ (o : Operator) (q : ℕ) (e : x ≡ Some (o, q)) (y : Expected) (a : y ≡ end_for (next q)) where
        on : chain mixed l next s turns none at ≡ then (next q) λ r. chain mixed l next s (turns - 1) (binary o none r.tree) r.to
        unfolding infix_at
        on =
            let z : (infix_of l (token_at mixed s at).token ≡ is o) × ((token_at mixed s at).to ≡ q) = infix_is x o q (token_at mixed s at).to (infix_of l (token_at mixed s at).token) i e in
            chain_turn turns none at k ∙ rw (z.0, z.1)

        pub chaining_more : (p : ℕ) → y ≡ Ok p → Chaining l next s from (turns - 1) p
        chaining_more p b = record { same = then_past y _ (next q) a _ p b (λ t. chain_same (turns - 1) none _ p) ∙ ap end_for (sym on) ∙ h.same }

        pub chaining_refused : (d : Why × ℕ) → y ≡ Err d → Err d ≡ end_for (chain mixed l next s (suc (length s)) none from)
        chaining_refused d b = then_refused y _ (next q) a d b ∙ ap end_for (sym on) ∙ h.same

-- ---- levels
levels_turn : (inner : Reader) (s : List ℕ) (at n : ℕ) → 1 ≤ n → levels mixed inner s n at ≡ then (levels mixed inner s (n - 1) at) λ r. chain mixed (n - 1) (levels mixed inner s (n - 1)) s (suc (length s)) r.tree r.to
unfolding levels
levels_turn inner s at zero h = absurd (omega arith)
levels_turn inner s at (suc n) h = rw sub-one

module _ (inner : Reader) (s : List ℕ) (at n : ℕ) where
  pub levels_none : (y : Expected) → n < 1 → y ≡ end_for (inner at) → y ≡ end_for (levels mixed inner s n at)
  unfolding levels
  levels_none y h e = let z : n ≡ 0 = omega arith in rw z e

  module _ (h : 1 ≤ n) (x : Expected) (e : x ≡ end_for (levels mixed inner s (n - 1) at)) where
    pub levels_more : (p : ℕ) → x ≡ Ok p → (y : Expected) → y ≡ end_for (chain mixed (n - 1) (levels mixed inner s (n - 1)) s (suc (length s)) none p) → y ≡ end_for (levels mixed inner s n at)
    levels_more p k y f = then_past x _ (levels mixed inner s (n - 1) at) e y p k (λ t. f ∙ chain_same (n - 1) (levels mixed inner s (n - 1)) s (suc (length s)) none t p) ∙ ap end_for (sym (levels_turn inner s at n h))

    pub levels_refused : (d : Why × ℕ) → x ≡ Err d → Err d ≡ end_for (levels mixed inner s n at)
    levels_refused d k = then_refused x _ (levels mixed inner s (n - 1) at) e d k ∙ ap end_for (sym (levels_turn inner s at n h))

-- ---- an expression inside a parenthesis
expression_is : (d : ℕ) (s : List ℕ) (at : ℕ) → expression mixed d s at ≡ levels_in d s 6 at
unfolding expression inside_of
expression_is zero s at = refl
expression_is (suc d) s at = refl

pub checked : (s : List ℕ) (at : ℕ) (y : Expected) → y ≡ end_for (levels_in 16 s 6 at) → y ≡ end_for (whole_expression mixed s at)
checked s at y e = e ∙ ap end_for (sym (expression_is 16 s at))

pub inside_none : (d : ℕ) (s : List ℕ) (p at : ℕ) → d < 1 → Err (OverLimit, p) ≡ end_for (inside_of d s p at)
unfolding inside_of end_for
inside_none d s p at h = let z : d ≡ 0 = omega arith in rw z

pub inside_some : (d : ℕ) (s : List ℕ) (p at : ℕ) (y : Expected) → 1 ≤ d → y ≡ end_for (levels_in (d - 1) s 6 at) → y ≡ end_for (inside_of d s p at)
unfolding inside_of
inside_some zero s p at y h e = absurd (omega arith)
inside_some (suc d) s p at y h e = rw sub-one at e ∙ ap end_for (sym (expression_is d s at))

-- ---- arguments: those that are left end where all of them do
pub record Arguing (inside : Reader) (s : List ℕ) (from turns at : ℕ) : Type 0 where
  pub same : end_for (arguments mixed inside s turns at) ≡ end_for (arguments mixed inside s (length s) from)

module _ (inside : Reader) (s : List ℕ) where
  abbrev next : ℕ → Parsed → Reading Parsed
  next f a =
      when (is_sign "," (token_at mixed s a.to).token)
      (λ _. then (arguments mixed inside s f (token_at mixed s a.to).to) λ r. read (parsed (more a.tree r.tree) r.to))
      (λ _. then (expect_sign mixed ")" s a.to) λ e. read (parsed (more a.tree none) e))

  arguments_turn : (n at : ℕ) → 0 < n → arguments mixed inside s n at ≡ then (inside at) (next (n - 1))
  unfolding arguments
  arguments_turn zero at h = absurd (omega arith)
  arguments_turn (suc n) at h = rw sub-one

  pub arguing_start : (from : ℕ) → Arguing inside s from (length s) from
  arguing_start from = record { same = refl }

  module _ (from turns at : ℕ) (h : Arguing inside s from turns at) where
    pub arguing_end : turns ≤ 0 → Err (Syntax, at) ≡ end_for (arguments mixed inside s (length s) from)
    unfolding arguments end_for
    arguing_end k = let z : turns ≡ 0 = omega arith in rw z at h.same

    module _ (k : 0 < turns) (x : Expected) (a : x ≡ end_for (inside at)) where
      pub arguing_refused : (d : Why × ℕ) → x ≡ Err d → Err d ≡ end_for (arguments mixed inside s (length s) from)
      arguing_refused d b = then_refused x _ (inside at) a d b ∙ ap end_for (sym (arguments_turn turns at k)) ∙ h.same

      module _ (e : ℕ) (b : x ≡ Ok e) (l : Lexeme) (lex : Lexed s e l) (v : Bool) (c : v ≡ is_sign_in s l (44 ∷ [])) where
        behind : (y : Expected) → ((t : Tree) → y ≡ end_for (next (turns - 1) (parsed t e))) → y ≡ end_for (arguments mixed inside s (length s) from)
        behind y f = then_past x _ (inside at) a y e b f ∙ ap end_for (sym (arguments_turn turns at k)) ∙ h.same

        pub arguing_more : v ≡ true → Arguing inside s from (turns - 1) l.to
        arguing_more d = record
            { same = behind _ λ t. rw (told s e l lex "," (44 ∷ []) v true refl c d, lex.to) (sym (kept _ (arguments mixed inside s (turns - 1) (token_at mixed s e).to))) }

        pub arguing_done : v ≡ false → (y : Expected) → y ≡ expected (41 ∷ []) s e → y ≡ end_for (arguments mixed inside s (length s) from)
        arguing_done d y f =
            behind y λ t. rw (told s e l lex "," (44 ∷ []) v false refl c d) (f ∙ expected_is ")" (41 ∷ []) refl s e ∙ sym (closed _ (expect_sign mixed ")" s e)))

-- ---- a reference
module _ (g : Named → Reading Parsed) (x : NamedAt) where
  named_then : (R : Reading Named) (y : Expected) (from to : ℕ) → x ≡ named_for R → x ≡ Ok (from, to) → ((n : Named) → n.to ≡ to → y ≡ end_for (g n)) → y ≡ end_for (then R g)
  named_then (read n) y from to h k f = let z : (from, to) ≡ (n.place, n.to) = cc in f n (sym (parts z).1)
  named_then (refused w p) y from to h k f = let z : ◌≡◌ {A = ℕ} 0 1 = cc in absurd (omega arith)

  named_refused : (R : Reading Named) (d : Why × ℕ) → x ≡ named_for R → x ≡ Err d → Err d ≡ end_for (then R g)
  unfolding end_for
  named_refused (read n) d h k = let z : ◌≡◌ {A = ℕ} 0 1 = cc in absurd (omega arith)
  named_refused (refused v q) d h k = cc

module _ (inside : ℕ → Reader) (s : List ℕ) (at : ℕ) (x : NamedAt) (h : x ≡ named_for (name_at mixed s at)) where
  pub reference_refused : (d : Why × ℕ) → x ≡ Err d → Err d ≡ end_for (referred inside s at)
  unfolding referred
  reference_refused d k = named_refused _ x (name_at mixed s at) d h k

  module _ (from to : ℕ) (k : x ≡ Ok (from, to)) (l : Lexeme) (lex : Lexed s to l) (v : Bool) (c : v ≡ is_sign_in s l (40 ∷ [])) where
    pub reference_name : v ≡ false → Ok to ≡ end_for (referred inside s at)
    unfolding referred reference_at end_for
    reference_name d = named_then _ x (name_at mixed s at) (Ok to) from to h k λ n e. rw (e, told s to l lex "(" (40 ∷ []) v false refl c d)

    pub reference_call : v ≡ true → (y : Expected) → y ≡ end_for (arguments mixed (inside l.from) s (length s) l.to) → y ≡ end_for (referred inside s at)
    unfolding referred reference_at
    reference_call d y f = named_then _ x (name_at mixed s at) y from to h k λ n e.
        rw (e, told s to l lex "(" (40 ∷ []) v true refl c d) (rw (lex.from, lex.to) at f ∙ sym (kept _ (arguments mixed (inside (token_at mixed s to).from) s (length s) (token_at mixed s to).to)))

-- ---- a primitive expression, by the kind of its first token
word_then : (b : Bool) (n : Named) (w : Why) (p : ℕ) (g : Named → ℕ → Reading Parsed) → then (cond b (read n) (refused w p)) (λ m. g m m.to) ≡ then (cond b (read n) (refused w p)) λ m. g m n.to
word_then true n w p g = refl
word_then false n w p g = refl

module _ (inside : ℕ → Reader) (s : List ℕ) (at : ℕ) (l : Lexeme) (lex : Lexed s at l) where
  token_of : (k : Kind) → l.kind ≡ k → (token_at mixed s at).token ≡ token_for k (written s l) (content s l.from)
  token_of k e = token_is s at l lex ∙ ap (λ (k : Kind). token_for k (written s l) (content s l.from)) e

  pub by_kind : (k : Kind) → l.kind ≡ k → (y : Expected) → y ≡ end_for (primitive mixed inside s (token_for k (written s l) (content s l.from)) l.from l.to) → y ≡ end_for (primitive_at inside s at)
  by_kind k e y f = rw (token_of k e, ← lex.from, ← lex.to) f

  pub is_constant : (l.kind ≡ K.Integer) ⊎ ((l.kind ≡ K.String) ⊎ (l.kind ≡ K.Bits)) → Ok l.to ≡ end_for (primitive_at inside s at)
  unfolding primitive end_for
  is_constant (inl e) = by_kind K.Integer e _ refl
  is_constant (inr (inl e)) = by_kind K.String e _ refl
  is_constant (inr (inr e)) = by_kind K.Bits e _ refl

  pub is_none : (l.kind ≡ K.Nothing) ⊎ (l.kind ≡ K.Wrong) → Err (Syntax, l.from) ≡ end_for (primitive_at inside s at)
  unfolding primitive end_for
  is_none (inl e) = by_kind K.Nothing e _ refl
  is_none (inr e) = by_kind K.Wrong e _ refl

  pub by_name_lem : l.kind ≡ K.Word → (y : Expected) → y ≡ end_for (referred inside s at) → y ≡ end_for (primitive_at inside s at)
  unfolding primitive referred name_at
  by_name_lem e y f = rw (token_of K.Word e) at f ∙ ap end_for (word_then (leb (length (spelling s l)) 31) (record { spelling = spelling s l; place = (token_at mixed s at).from; to = (token_at mixed s at).to }) OverLimit (token_at mixed s at).from (λ n q. reference_at mixed inside s n (token_at mixed s q)) ∙ rw (token_of K.Word e))

-- ---- an expression in parentheses
module _ (inside : ℕ → Reader) (s : List ℕ) (l : Lexeme) (e : l.kind ≡ K.Sign) (v : Bool) (c : v ≡ is_sign_in s l (40 ∷ [])) where
  opens : (b : Bool) → v ≡ b → is_sign "(" (sign (written s l)) ≡ b
  unfolding is_sign_in
  opens b d = sym (ap (λ (k : Kind). is_sign_kind k && same (written s l) (40 ∷ [])) e) ∙ sym c ∙ d

  pub not_open : v ≡ false → Err (Syntax, l.from) ≡ end_for (primitive mixed inside s (sign (written s l)) l.from l.to)
  unfolding primitive end_for
  not_open d = rw (opens false d)

  module _ (d : v ≡ true) (x : Expected) (a : x ≡ end_for (inside l.from l.to)) where
    opened : primitive mixed inside s (sign (written s l)) l.from l.to ≡ then (inside l.from l.to) λ r. then (expect_sign mixed ")" s r.to) λ q. read (parsed r.tree q)
    unfolding primitive
    opened = rw (opens true d)

    pub open_refused : (e : Why × ℕ) → x ≡ Err e → Err e ≡ end_for (primitive mixed inside s (sign (written s l)) l.from l.to)
    open_refused e b = then_refused x _ (inside l.from l.to) a e b ∙ ap end_for (sym opened)

    pub open_closed : (p : ℕ) → x ≡ Ok p → (y : Expected) → y ≡ expected (41 ∷ []) s p → y ≡ end_for (primitive mixed inside s (sign (written s l)) l.from l.to)
    open_closed p b y f = then_past x _ (inside l.from l.to) a y p b (λ t. f ∙ expected_is ")" (41 ∷ []) refl s p ∙ sym (closed t (expect_sign mixed ")" s p))) ∙ ap end_for (sym opened)

-- ---- prefix operators: each has a byte, so that they are no more than the bytes
prefix_real : (t : Token) (o : Prefix) → prefix_of t ≡ is o → is_token (kind_of t) ≡ true
unfolding prefix_of
prefix_real (word x) o e = refl
prefix_real (integer x) o e = refl
prefix_real (string x) o e = refl
prefix_real (bits x) o e = refl
prefix_real (sign x) o e = refl
prefix_real nothing o e = let z : ◌≡◌ {A = ℕ} 0 1 = cc in absurd (omega arith)
prefix_real wrong o e = let z : ◌≡◌ {A = ℕ} 0 1 = cc in absurd (omega arith)

-- a reading under the n prefix operators from a place on
unfoldable pub under : List ℕ → ℕ → ℕ → Reading Parsed → Reading Parsed
under s zero at x = x
under s (suc n) at x = prefixed (prefix_of (token_at mixed s at).token) (λ _. under s n (token_at mixed s at).to x) λ _. x

prefixed_end : (a x : Reading Parsed) → end_for a ≡ end_for x → (m : Maybe Prefix) → end_for (prefixed m (λ _. a) λ _. x) ≡ end_for x
prefixed_end a x h (is o) = kept _ a ∙ h
prefixed_end a x h no_operator = refl

pub under_end : (s : List ℕ) (n at : ℕ) (x : Reading Parsed) → end_for (under s n at x) ≡ end_for x
unfolding under
under_end s zero at x = refl
under_end s (suc n) at x = prefixed_end _ x (under_end s n (token_at mixed s at).to x) (prefix_of (token_at mixed s at).token)

module _ (inside : ℕ → Reader) (s : List ℕ) where
  prefix_past : (at : ℕ) (o : Prefix) → prefix_of (token_at mixed s at).token ≡ is o → (at < (token_at mixed s at).to) × ((token_at mixed s at).to ≤ length s)
  prefix_past at o e =
      let l : Lexeme = lexeme_for (token_at mixed s at) in
      let h : Lexed s at l = record { kind = refl; from = refl; to = refl } in
      let r : is_token l.kind ≡ true = prefix_real (token_at mixed s at).token o e in
      omega (arith, token_low s at l h, token_past s at l h r, token_inside s at l h r)

  prefixed_none : (m : Maybe Prefix) (again first : Unit {0} → Reading Parsed) → ((o : Prefix) → m ≡ is o → ⊥) → prefixed m again first ≡ first tt
  prefixed_none (is o) again first h = absurd (h o refl)
  prefixed_none no_operator again first h = refl

  prefixed_some : (at : ℕ) (r : Prefixes) (again : Reading Parsed) (m : Maybe Prefix) → prefix_of (token_at mixed s at).token ≡ m
      → ((o : Prefix) → m ≡ is o → again ≡ under s r.count (token_at mixed s at).to (primitive_at inside s r.to))
      → prefixed m (λ _. again) (λ _. primitive_at inside s at) ≡ under s (with_prefix m at r).count at (primitive_at inside s (with_prefix m at r).to)
  unfolding under
  prefixed_some at r again (is o) e h = rw (e, h o refl)
  prefixed_some at r again no_operator e h = refl

  operand_under : (f at : ℕ) → length s ≤ at + f → operand mixed inside s (suc f) at ≡ under s (prefixes f s at).count at (primitive_at inside s (prefixes f s at).to)
  unfolding operand prefixes under
  operand_under zero at h = prefixed_none (prefix_of (token_at mixed s at).token) _ _ λ o e. omega (arith, prefix_past at o e, h)
  operand_under (suc f) at h =
      prefixed_some at (prefixes f s (token_at mixed s at).to) _ (prefix_of (token_at mixed s at).token) refl λ o e. operand_under f (token_at mixed s at).to (omega (arith, prefix_past at o e, h))

  -- THE OPERAND at a place is the primitive behind the prefix operators there, under each of them
  pub operand_is : (at : ℕ) (p : Prefixes) → p ≡ prefixes (length s) s at → operand mixed inside s (suc (length s)) at ≡ under s p.count at (primitive_at inside s p.to)
  operand_is at p e = rw e (operand_under (length s) at (omega arith))

  pub operand_ends : (at : ℕ) (p : Prefixes) → p ≡ prefixes (length s) s at → (y : Expected) → y ≡ end_for (primitive_at inside s p.to) → y ≡ end_for (operand mixed inside s (suc (length s)) at)
  operand_ends at p e y f = f ∙ sym (ap end_for (operand_is at p e) ∙ under_end s p.count at (primitive_at inside s p.to))

-- those that are left, with those that were passed, are all
pub record Passing (s : List ℕ) (from count at : ℕ) : Type 0 where
  pub turns : ℕ
  pub sum : count + turns ≡ length s
  pub same : prefixes_of (count + (prefixes turns s at).count) (prefixes turns s at).to ≡ prefixes (length s) s from

prefix_is : (x : Option (Prefix × ℕ)) (o : Prefix) (q to : ℕ) (m : Maybe Prefix) → x ≡ prefix_for m to → x ≡ Some (o, q) → (m ≡ is o) × (to ≡ q)
prefix_is x o q to (is v) h k = let z : (o, q) ≡ (v, to) = cc in let y : (o ≡ v) × (q ≡ to) = parts z in (rw y.0, sym y.1)
prefix_is x o q to no_operator h k = let z : ◌≡◌ {A = ℕ} 0 1 = cc in absurd (omega arith)

prefix_none : (x : Option (Prefix × ℕ)) (to : ℕ) (m : Maybe Prefix) → x ≡ prefix_for m to → ((o : Prefix) (q : ℕ) → x ≡ Some (o, q) → ⊥) → m ≡ no_operator
prefix_none x to (is v) h k = absurd (k v to h)
prefix_none x to no_operator h k = refl

module _ (s : List ℕ) (from : ℕ) where
  pub passing_start : Passing s from 0 from
  passing_start = record { turns = length s; sum = omega arith; same = rw zero-add }

  module _ (count at : ℕ) (h : Passing s from count at) where
    pub passing_end : length s ≤ count → prefixes_of (length s) at ≡ prefixes (length s) s from
    unfolding prefixes
    passing_end k =
        let z : h.turns ≡ 0 = omega (arith, h.sum) in
        let e : count ≡ length s = omega (arith, h.sum) in
        rw (z, add-zero, e) at h.same

    module _ (k : count < length s) (x : Option (Prefix × ℕ)) (i : x ≡ prefix_for (prefix_of (token_at mixed s at).token) (token_at mixed s at).to) where
      a_turn : (n : ℕ) → count + n ≡ length s → prefixes_of (count + (prefixes n s at).count) (prefixes n s at).to ≡ prefixes (length s) s from → (r : Prefixes) → with_prefix (prefix_of (token_at mixed s at).token) at (prefixes (n - 1) s (token_at mixed s at).to) ≡ r → prefixes_of (count + r.count) r.to ≡ prefixes (length s) s from
      unfolding prefixes
      a_turn zero a b r e = absurd (omega arith)
      a_turn (suc n) a b r e = rw (← e, sub-one) b

      pub passing_more : (o : Prefix) (q : ℕ) → x ≡ Some (o, q) → Passing s from (count + 1) q
      passing_more o q e =
          let z : (prefix_of (token_at mixed s at).token ≡ is o) × ((token_at mixed s at).to ≡ q) = prefix_is x o q (token_at mixed s at).to (prefix_of (token_at mixed s at).token) i e in
          let p : Prefixes = prefixes (h.turns - 1) s q in
          let n : count + 1 + p.count ≡ count + suc p.count = omega arith in
          record {
            turns = h.turns - 1;
            sum = omega (arith, h.sum);
            same = rw n (a_turn h.turns h.sum h.same (prefixes_of (suc p.count) p.to) (rw (z.0, z.1)));
          }

      pub passing_stop : ((o : Prefix) (q : ℕ) → x ≡ Some (o, q) → ⊥) → prefixes_of count at ≡ prefixes (length s) s from
      passing_stop e = rw add-zero at (a_turn h.turns h.sum h.same (prefixes_of 0 at) (rw (prefix_none x (token_at mixed s at).to (prefix_of (token_at mixed s at).token) i e)))
