-- A statement is read as the definition reads it: one law for each way out.
-- Assumes nothing.
use Rattle.std.proofs.Common.{Ok, Err}
use Rattle.expressions.specs.Types.{Expected, NamedAt}
use mathlib.Core.Path.{◌≡◌, refl, sym, ◌∙◌}
use mathlib.Core.Bool.{Bool, true, false, ◌&&◌, ◌||◌}
use mathlib.Core.List.{List, [], ◌∷◌}
use Prim.Native.Nat.{ℕ, zero, suc, ◌-◌, ◌<◌, ◌≤◌}
use Prim.Native.String as Str
use native.Mathlib.Omega.{arith}
use native.Mathlib.Numerals.{sub-one}
use lib.ListN.{length}
use Rattle.definition.specs.Bytes.{mixed, folded}
use Rattle.definition.specs.Lists.{same}
use Rattle.definition.specs.Text.{bytes_of}
use Rattle.definition.specs.Tokens.{Token, word, integer, string, bits, sign, nothing, wrong, is_sign, is_word, token_at}
use Rattle.definition.specs.Expressions.{Reading, read, refused, Named, name_at, whole_expression}
use Rattle.definition.specs.declared.ValueType.TheVariants.{FixedType}
use Rattle.definition.specs.declared.Why.{Why}
use Rattle.definition.specs.declared.Why.TheVariants.{Syntax}
use Rattle.tokens.specs.declared.Kind.{Kind}
use Rattle.tokens.specs.declared.Kind.TheVariants as Kd
use Rattle.tokens.specs.declared.Lexeme.{Lexeme}
use Rattle.tokens.specs.Answer.{written, Lexed, content, is_sign_in, is_sign_kind, is_word_in, is_word_kind, token_for}
use Rattle.tokens.proofs.Lexemes.{token_is}
use Rattle.expressions.specs.Check.{is_spelled, expected, is_worded, expected_word, named_for, end_for}
use Rattle.expressions.proofs.Laws.{parts}
use Rattle.rows.specs.declared.Statement.{Statement}
use Rattle.statements.specs.declared.Opens.{Opens}
use Rattle.statements.specs.declared.Each.{Each}
use Rattle.statements.specs.declared.Each.TheVariants as Ea
use Rattle.statements.specs.Clauses.{clause_of, read_up_to, then_sign, then_word, then_expression, bound_past, bounds_past, name_end, rescan_past, member_past, item_past, list_next, list_end}

-- ---- one answer after the other
pub name_there : (x : NamedAt) (R : Reading Named) (from to : ℕ) → x ≡ named_for R → x ≡ Ok (from, to) → Ok to ≡ name_end R
unfolding name_end
name_there x (read n) from to h k = let z : (from, to) ≡ (n.place, n.to) = cc in let y : (from ≡ n.place) × (to ≡ n.to) = parts z in rw y.1
name_there x (refused w p) from to h k = let z : ◌≡◌ {A = ℕ} 0 1 = cc in absurd (omega arith)

pub name_refused : (x : NamedAt) (R : Reading Named) (d : Why × ℕ) → x ≡ named_for R → x ≡ Err d → Err d ≡ name_end R
unfolding name_end
name_refused x (read n) d h k = let z : ◌≡◌ {A = ℕ} 0 1 = cc in absurd (omega arith)
name_refused x (refused v q) d h k = cc

module _ (k : Statement) (o : Opens) (c : ℕ) (e : Expected) where
  pub up_past : (to : ℕ) → e ≡ Ok to → Ok (clause_of k o c to FixedType) ≡ read_up_to k o c e
  unfolding read_up_to
  up_past to h = rw h

  pub up_refused : (d : Why × ℕ) → e ≡ Err d → Err d ≡ read_up_to k o c e
  unfolding read_up_to
  up_refused d h = rw h

module _ (s : List ℕ) (e : Expected) where
  pub expression_past : (q : ℕ) (y : Expected) → e ≡ Ok q → y ≡ end_for (whole_expression mixed s q) → y ≡ then_expression s e
  unfolding then_expression
  expression_past q y h k = rw h k

  pub expression_refused : (d : Why × ℕ) → e ≡ Err d → Err d ≡ then_expression s e
  unfolding then_expression
  expression_refused d h = rw h

  module _ (v : List ℕ) where
    pub sign_past : (q : ℕ) (y : Expected) → e ≡ Ok q → y ≡ expected v s q → y ≡ then_sign v s e
    unfolding then_sign
    sign_past q y h k = rw h k

    pub sign_refused : (d : Why × ℕ) → e ≡ Err d → Err d ≡ then_sign v s e
    unfolding then_sign
    sign_refused d h = rw h

    pub word_past : (q : ℕ) (y : Expected) → e ≡ Ok q → y ≡ expected_word v s q → y ≡ then_word v s e
    unfolding then_word
    word_past q y h k = rw h k

    pub word_refused : (d : Why × ℕ) → e ≡ Err d → Err d ≡ then_word v s e
    unfolding then_word
    word_refused d h = rw h

-- ---- tests on a token
module _ (s : List ℕ) (at : ℕ) (l : Lexeme) (lex : Lexed s at l) where
  pub word_in : (w : List ℕ) → is_word_in s l w ≡ is_worded w (token_at mixed s at).token
  unfolding is_word_in
  word_in w = rw (token_is s at l lex) (by_kind l.kind (written s l) (content s l.from))
    where
      by_kind : (k : Kind) (x y : List ℕ) → (is_word_kind k && same (folded mixed x) w) ≡ is_worded w (token_for k x y)
      by_kind Kd.Word x y = refl
      by_kind Kd.Integer x y = refl
      by_kind Kd.String x y = refl
      by_kind Kd.Bits x y = refl
      by_kind Kd.Sign x y = refl
      by_kind Kd.Nothing x y = refl
      by_kind Kd.Wrong x y = refl

  pub sign_in_lem : (w : List ℕ) → is_sign_in s l w ≡ is_spelled w (token_at mixed s at).token
  unfolding is_sign_in
  sign_in_lem w = rw (token_is s at l lex) (by_kind l.kind (written s l) (content s l.from))
    where
      by_kind : (k : Kind) (x y : List ℕ) → (is_sign_kind k && same x w) ≡ is_spelled w (token_for k x y)
      by_kind Kd.Word x y = refl
      by_kind Kd.Integer x y = refl
      by_kind Kd.String x y = refl
      by_kind Kd.Bits x y = refl
      by_kind Kd.Sign x y = refl
      by_kind Kd.Nothing x y = refl
      by_kind Kd.Wrong x y = refl

module _ (W : Str.String) (w : List ℕ) (e : bytes_of W ≡ w) where
  pub sign_spelled : (t : Token) → is_spelled w t ≡ is_sign W t
  sign_spelled (word x) = refl
  sign_spelled (integer x) = refl
  sign_spelled (string x) = refl
  sign_spelled (bits x) = refl
  sign_spelled (sign x) = rw e
  sign_spelled nothing = refl
  sign_spelled wrong = refl

  pub word_spelled : (t : Token) → is_worded w t ≡ is_word W t
  word_spelled (word x) = rw e
  word_spelled (integer x) = refl
  word_spelled (string x) = refl
  word_spelled (bits x) = refl
  word_spelled (sign x) = refl
  word_spelled nothing = refl
  word_spelled wrong = refl

-- ---- BY and TO
module _ (s w : List ℕ) (e : Expected) where
  pub bound_refused : (d : Why × ℕ) → e ≡ Err d → Err d ≡ bound_past w s e
  unfolding bound_past
  bound_refused d h = rw h

  module _ (q : ℕ) (h : e ≡ Ok q) (l : Lexeme) (lex : Lexed s q l) (v : Bool) (c : v ≡ is_word_in s l w) where
    pub bound_there : v ≡ true → (y : Expected) → y ≡ end_for (whole_expression mixed s l.to) → y ≡ bound_past w s e
    unfolding bound_past
    bound_there d y f = rw (h, ← word_in s q l lex w, ← c, d, ← lex.to) f

    pub bound_absent : v ≡ false → Ok q ≡ bound_past w s e
    unfolding bound_past
    bound_absent d = rw (h, ← word_in s q l lex w, ← c, d)

module _ (s : List ℕ) (e : Expected) where
  pub bounds_refused : (d : Why × ℕ) → e ≡ Err d → Err d ≡ bounds_past s e
  unfolding bounds_past
  bounds_refused d h = rw h

  module _ (q : ℕ) (h : e ≡ Ok q) (l : Lexeme) (lex : Lexed s q l) (v : Bool) (c : v ≡ is_word_in s l (66 ∷ 89 ∷ [])) where
    pub bounds_by : v ≡ true → (x y : Expected) → x ≡ end_for (whole_expression mixed s l.to) → y ≡ bound_past (84 ∷ 79 ∷ []) s x → y ≡ bounds_past s e
    unfolding bounds_past
    bounds_by d x y f g = rw (h, ← word_in s q l lex (66 ∷ 89 ∷ []), ← c, d, ← lex.to, ← f) g

    pub bounds_to : v ≡ false → (x y : Expected) → x ≡ bound_past (84 ∷ 79 ∷ []) s (Ok q) → y ≡ bound_past (66 ∷ 89 ∷ []) s x → y ≡ bounds_past s e
    unfolding bounds_past
    bounds_to d x y f g = rw (h, ← word_in s q l lex (66 ∷ 89 ∷ []), ← c, d, ← f) g

-- ---- lists of names
module _ (s : List ℕ) (at : ℕ) (l : Lexeme) (lex : Lexed s at l) (v : Bool) (c : v ≡ (is_word_in s l (78 ∷ 79 ∷ 82 ∷ 69 ∷ 83 ∷ 67 ∷ 65 ∷ 78 ∷ []) || is_word_in s l (82 ∷ 69 ∷ 83 ∷ 67 ∷ 65 ∷ 78 ∷ []))) where
  either : v ≡ (is_worded (78 ∷ 79 ∷ 82 ∷ 69 ∷ 83 ∷ 67 ∷ 65 ∷ 78 ∷ []) (token_at mixed s at).token || is_worded (82 ∷ 69 ∷ 83 ∷ 67 ∷ 65 ∷ 78 ∷ []) (token_at mixed s at).token)
  either = rw (word_in s at l lex (78 ∷ 79 ∷ 82 ∷ 69 ∷ 83 ∷ 67 ∷ 65 ∷ 78 ∷ []), word_in s at l lex (82 ∷ 69 ∷ 83 ∷ 67 ∷ 65 ∷ 78 ∷ [])) at c

  pub rescan_there : v ≡ true → l.to ≡ rescan_past s at
  unfolding rescan_past
  rescan_there d = rw (← either, d, lex.to)

  pub rescan_absent : v ≡ false → at ≡ rescan_past s at
  unfolding rescan_past
  rescan_absent d = rw (← either, d)

module _ (s : List ℕ) (e : Expected) where
  pub member_refused : (d : Why × ℕ) → e ≡ Err d → Err d ≡ member_past s e
  unfolding member_past
  member_refused d h = rw h

  module _ (q : ℕ) (h : e ≡ Ok q) (l : Lexeme) (lex : Lexed s q l) (v : Bool) (c : v ≡ is_sign_in s l (40 ∷ [])) where
    pub member_there : v ≡ true → (x y : Expected) → x ≡ name_end (name_at mixed s l.to) → y ≡ then_sign (41 ∷ []) s x → y ≡ member_past s e
    unfolding member_past
    member_there d x y f g = rw (h, ← sign_in_lem s q l lex (40 ∷ []), ← c, d, ← lex.to, ← f) g

    pub member_absent : v ≡ false → Ok q ≡ member_past s e
    unfolding member_past
    member_absent d = rw (h, ← sign_in_lem s q l lex (40 ∷ []), ← c, d)

module _ (s : List ℕ) (at : ℕ) (i : Each) (e : Expected) (h : e ≡ name_end (name_at mixed s at)) where
  pub item_active : i ≡ Ea.Activation → (q x : ℕ) → e ≡ Ok q → x ≡ rescan_past s q → Ok x ≡ item_past i s at
  unfolding item_past
  item_active d q x f g = rw (d, ← h, f, g)

  pub item_refused : i ≡ Ea.Activation → (w : Why) (p : ℕ) → e ≡ Err (w, p) → Err (w, p) ≡ item_past i s at
  unfolding item_past
  item_refused d w p f = rw (d, ← h, f)

  pub item_plain : i ≡ Ea.Name → e ≡ item_past i s at
  unfolding item_past
  item_plain d = rw (d, h)

  pub item_member : i ≡ Ea.Member → (x : Expected) → x ≡ member_past s e → x ≡ item_past i s at
  unfolding item_past
  item_member d x f = rw (d, ← h) f

-- what is left ends where all of it does
pub record Listing (w : List ℕ) (j : Each) (s : List ℕ) (from turns at : ℕ) : Type 0 where
  pub same : list_end w j s turns at ≡ list_end w j s (length s) from

module _ (w : List ℕ) (j : Each) (s : List ℕ) where
  list_turn : (n at : ℕ) → 0 < n → list_end w j s n at ≡ list_next w s (item_past j s at) (list_end w j s (n - 1))
  unfolding list_end
  list_turn zero at h = absurd (omega arith)
  list_turn (suc n) at h = rw sub-one

  pub listing_start : (from : ℕ) → Listing w j s from (length s) from
  listing_start from = record { same = refl }

  module _ (from turns at : ℕ) (h : Listing w j s from turns at) where
    pub listing_end : turns ≤ 0 → Err (Syntax, at) ≡ list_end w j s (length s) from
    unfolding list_end
    listing_end k = let z : turns ≡ 0 = omega arith in rw z at h.same

    module _ (k : 0 < turns) (x : Expected) (a : x ≡ item_past j s at) where
      turned : list_next w s x (list_end w j s (turns - 1)) ≡ list_end w j s (length s) from
      turned = rw a (sym (list_turn turns at k) ∙ h.same)

      pub listing_refused : (d : Why × ℕ) → x ≡ Err d → Err d ≡ list_end w j s (length s) from
      listing_refused d e = rw e at turned

      module _ (e : ℕ) (i : x ≡ Ok e) (l : Lexeme) (lex : Lexed s e l) (v : Bool) (c : v ≡ is_sign_in s l (44 ∷ [])) where
        pub listing_more : v ≡ true → Listing w j s from (turns - 1) l.to
        listing_more d = record { same = rw (i, ← sign_in_lem s e l lex (44 ∷ []), ← c, d, ← lex.to) at turned }

        pub listing_done : v ≡ false → (y : Expected) → y ≡ expected w s e → y ≡ list_end w j s (length s) from
        listing_done d y f = f ∙ (rw (i, ← sign_in_lem s e l lex (44 ∷ []), ← c, d) at turned)
