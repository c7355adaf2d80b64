-- PROCEDURE: its head as the definition reads it, and the first parameter that is listed twice.
-- Assumes nothing.
use Rattle.statements.specs.Types.{Read}
use Rattle.expressions.specs.Types.{Expected}
use Rattle.std.proofs.Common.{Option, Some, None, Ok, Err}
use mathlib.Core.Path.{◌≡◌, refl, sym, ap, ◌∙◌}
use mathlib.Core.Bool.{Bool, true, false, cond, ◌&&◌}
use mathlib.Core.List.{List, [], ◌∷◌}
use Prim.Native.Nat.{ℕ, zero, suc, ◌-◌, ◌<◌, ◌≤◌}
use native.Mathlib.Omega.{arith}
use native.Mathlib.Numerals.{sub-one}
use lib.ListN.{length}
use Rattle.definition.specs.Bytes.{mixed, folded}
use Rattle.definition.specs.Choice.{when}
use Rattle.definition.specs.Lists.{same}
use Rattle.definition.specs.Tokens.{is_word, token_at}
use Rattle.definition.specs.Expressions.{Reading, read, refused, expect_sign, expect_word, Named}
use Rattle.definition.specs.Program as P
use Rattle.definition.specs.Statements as D
use Rattle.definition.specs.declared.ValueType.{ValueType}
use Rattle.definition.specs.declared.ValueType.TheVariants.{FixedType, CharacterType}
use Rattle.definition.specs.declared.Why.{Why}
use Rattle.definition.specs.declared.Why.TheVariants.{Syntax}
use Rattle.tokens.specs.declared.Lexeme.{Lexeme}
use Rattle.tokens.specs.Answer.{Lexed, is_sign_in}
use Rattle.expressions.specs.Check.{expect_for, is_spelled, expected}
use Rattle.expressions.proofs.Laws.{told}
use Rattle.expressions.proofs.Reading.{expected_is, expected_word_is}
use Rattle.statements.specs.declared.Clause.{Clause}
use Rattle.statements.specs.Clauses.{then_sign, then_word, names_end, names_read, type_by, type_from, head_up_to, head_from, read_procedure, spelled_as, listed_before, parameter_twice, tally_twice, is_read, procedure_tally, Heads}
use lib.Dec.{leb, eqb}
use borrow.Author.Tests.{le-leb, lt-leb, eq-eqb, ne_eqb}
use Rattle.entering.specs.Book.{tally_second}
use Rattle.definition.specs.Lists.{part}
use Rattle.entering.specs.declared.Tally.{Tally}
use Rattle.statements.proofs.Laws.{sign_in_lem, word_spelled}
use Rattle.statements.proofs.Items.{names_at_lem, after_names}

-- ---- the head
module _ (k : P.Scope) (s : List ℕ) (c : ℕ) (ds : List P.Declared) where
  abbrev last : ValueType → ℕ → D.Declaring
  last t e = D.then_declare ds (expect_sign mixed ")" s e) λ q. D.then_declare ds (expect_sign mixed ";" s q) λ z. D.declared (D.clause (P.procedure (D.spellings ds) t) D.opens_body z) ds

  end_by : (t : ValueType) (Q : Reading ℕ) → head_up_to t c (expect_for Q) ≡ read_procedure c (D.then_declare ds Q λ z. D.declared (D.clause (P.procedure (D.spellings ds) t) D.opens_body z) ds)
  unfolding head_up_to read_procedure
  end_by t (read e) = refl
  end_by t (refused w p) = refl

  end_at_lem : (t : ValueType) (e : ℕ) → head_up_to t c (expected (59 ∷ []) s e) ≡ read_procedure c (D.then_declare ds (expect_sign mixed ";" s e) λ z. D.declared (D.clause (P.procedure (D.spellings ds) t) D.opens_body z) ds)
  end_at_lem t e = rw (expected_is ";" (59 ∷ []) refl s e) (end_by t (expect_sign mixed ";" s e))

  close_by : (t : ValueType) (Q : Reading ℕ) → head_up_to t c (then_sign (59 ∷ []) s (expect_for Q)) ≡ read_procedure c (D.then_declare ds Q λ q. D.then_declare ds (expect_sign mixed ";" s q) λ z. D.declared (D.clause (P.procedure (D.spellings ds) t) D.opens_body z) ds)
  unfolding head_up_to read_procedure then_sign
  close_by t (read e) = end_at_lem t e
  close_by t (refused w p) = refl

  close_at : (t : ValueType) (e : ℕ) → head_up_to t c (then_sign (59 ∷ []) s (expected (41 ∷ []) s e)) ≡ read_procedure c (last t e)
  close_at t e = rw (expected_is ")" (41 ∷ []) refl s e) (close_by t (expect_sign mixed ")" s e))

  type_by_lem : (q : ℕ) (a b : Bool) → head_from s c (type_by a b (token_at mixed s q).from (token_at mixed s q).to)
      ≡ read_procedure c (when a (λ _. last CharacterType (token_at mixed s q).to) (λ _. D.then_declare ds (cond b (read (token_at mixed s q).to) (refused Syntax (token_at mixed s q).from)) (last FixedType)))
  unfolding head_from read_procedure
  type_by_lem q true b = close_at CharacterType (token_at mixed s q).to
  type_by_lem q false true = close_at FixedType (token_at mixed s q).to
  type_by_lem q false false = refl

  type_at : (q : ℕ) → head_from s c (type_from s (Ok q)) ≡ read_procedure c (when (D.is_character (token_at mixed s q).token) (λ _. last CharacterType (token_at mixed s q).to) (λ _. D.then_declare ds (expect_word mixed "FIXED" s q) (last FixedType)))
  unfolding type_from expect_word
  type_at q = rw (word_spelled "CHARACTER" (67 ∷ 72 ∷ 65 ∷ 82 ∷ 65 ∷ 67 ∷ 84 ∷ 69 ∷ 82 ∷ []) refl (token_at mixed s q).token, word_spelled "CHAR" (67 ∷ 72 ∷ 65 ∷ 82 ∷ []) refl (token_at mixed s q).token, word_spelled "FIXED" (70 ∷ 73 ∷ 88 ∷ 69 ∷ 68 ∷ []) refl (token_at mixed s q).token) (type_by_lem q (D.is_character (token_at mixed s q).token) (is_word "FIXED" (token_at mixed s q).token))

  open_by : (Q : Reading ℕ) → head_from s c (type_from s (expect_for Q)) ≡ read_procedure c (D.then_declare ds Q λ q. when (D.is_character (token_at mixed s q).token) (λ _. last CharacterType (token_at mixed s q).to) (λ _. D.then_declare ds (expect_word mixed "FIXED" s q) (last FixedType)))
  unfolding type_from head_from read_procedure
  open_by (read q) = type_at q
  open_by (refused w p) = refl

  open_at : (e : ℕ) → head_from s c (type_from s (expected (40 ∷ []) s e)) ≡ read_procedure c (D.then_declare ds (expect_sign mixed "(" s e) λ q. when (D.is_character (token_at mixed s q).token) (λ _. last CharacterType (token_at mixed s q).to) (λ _. D.then_declare ds (expect_word mixed "FIXED" s q) (last FixedType)))
  open_at e = rw (expected_is "(" (40 ∷ []) refl s e) (open_by (expect_sign mixed "(" s e))

  word_by : (Q : Reading ℕ) → head_from s c (type_from s (then_sign (40 ∷ []) s (expect_for Q))) ≡ read_procedure c (D.then_declare ds Q λ e. D.then_declare ds (expect_sign mixed "(" s e) λ q. when (D.is_character (token_at mixed s q).token) (λ _. last CharacterType (token_at mixed s q).to) (λ _. D.then_declare ds (expect_word mixed "FIXED" s q) (last FixedType)))
  unfolding then_sign type_from head_from read_procedure
  word_by (read e) = open_at e
  word_by (refused w p) = refl

head_at : (k : P.Scope) (s : List ℕ) (c : ℕ) (ns : List Named) (at : ℕ) → head_from s c (type_from s (then_sign (40 ∷ []) s (then_word (82 ∷ 69 ∷ 84 ∷ 85 ∷ 82 ∷ 78 ∷ 83 ∷ []) s (Ok at)))) ≡ read_procedure c (D.procedure_head mixed k s ns at)
unfolding D.procedure_head D.returns_type then_word
head_at k s c ns at = rw (expected_word_is "RETURNS" (82 ∷ 69 ∷ 84 ∷ 85 ∷ 82 ∷ 78 ∷ 83 ∷ []) refl s at) (word_by k s c (D.means k P.parameter ns) (expect_word mixed "RETURNS" s at))

head_by : (k : P.Scope) (s : List ℕ) (c : ℕ) (ns : List Named) (x : Expected) → head_from s c (type_from s (then_sign (40 ∷ []) s (then_word (82 ∷ 69 ∷ 84 ∷ 85 ∷ 82 ∷ 78 ∷ 83 ∷ []) s x))) ≡ read_procedure c (after_names k P.parameter s [] (D.procedure_head mixed k s) x ns)
unfolding then_word then_sign type_from head_from read_procedure
head_by k s c ns (Ok e) = head_at k s c ns e
head_by k s c ns (Err (w, p)) = refl

module _ (s : List ℕ) (from : ℕ) (l : Lexeme) (lex : Lexed s from l) (v : Bool) (b : v ≡ is_sign_in s l (40 ∷ [])) (k : P.Scope) where
  pub head_plain : v ≡ false → (r : Read) → r ≡ head_from s from (type_from s (then_sign (40 ∷ []) s (then_word (82 ∷ 69 ∷ 84 ∷ 85 ∷ 82 ∷ 78 ∷ 83 ∷ []) s (Ok from)))) → r ≡ read_procedure from (D.procedure_clause mixed k s from)
  unfolding D.procedure_clause
  head_plain d r e = rw (told s from l lex "(" (40 ∷ []) v false refl b d, e) (head_at k s from [] from)

  pub head_listed : v ≡ true → (x : Expected) (r : Read) → x ≡ names_end (41 ∷ []) s (length s) l.to → r ≡ head_from s from (type_from s (then_sign (40 ∷ []) s (then_word (82 ∷ 69 ∷ 84 ∷ 85 ∷ 82 ∷ 78 ∷ 83 ∷ []) s x))) → r ≡ read_procedure from (D.procedure_clause mixed k s from)
  unfolding D.procedure_clause
  head_listed d x r f e =
      rw (told s from l lex "(" (40 ∷ []) v true refl b d, e, f, lex.to, names_at_lem k P.parameter s [] (D.procedure_head mixed k s) (length s) [] (token_at mixed s from).to (omega arith) (λ z. absurd (omega arith)))
      (head_by k s from (names_read s (length s) (token_at mixed s from).to) (names_end (41 ∷ []) s (length s) (token_at mixed s from).to))

module _ (s : List ℕ) (t : Tally) (from : ℕ) (l : Lexeme) (lex : Lexed s from l) (v : Bool) (b : v ≡ is_sign_in s l (40 ∷ [])) where
  pub heads_plain : v ≡ false → (r : Read) → r ≡ head_from s from (type_from s (then_sign (40 ∷ []) s (then_word (82 ∷ 69 ∷ 84 ∷ 85 ∷ 82 ∷ 78 ∷ 83 ∷ []) s (Ok from)))) → Heads s t from (record { tally = t; read = r })
  unfolding procedure_tally
  heads_plain d r e = record { is = λ k. head_plain s from l lex v b k d r e; tally = rw (← sign_in_lem s from l lex (40 ∷ []), ← b, d) (no_tally (is_read r) t (tally_twice (parameter_twice s (token_at mixed s from).to (length s) (token_at mixed s from).to) t)) }
    where
      no_tally : (a : Bool) (x y : Tally) → x ≡ cond (a && false) y x
      no_tally true x y = refl
      no_tally false x y = refl

  module _ (d : v ≡ true) (x : Expected) (r : Read) (f : x ≡ names_end (41 ∷ []) s (length s) l.to) (e : r ≡ head_from s from (type_from s (then_sign (40 ∷ []) s (then_word (82 ∷ 69 ∷ 84 ∷ 85 ∷ 82 ∷ 78 ∷ 83 ∷ []) s x)))) where
    pub heads_refused : (w : Why) (p : ℕ) → r ≡ Err (w, p) → Heads s t from (record { tally = t; read = r })
    unfolding procedure_tally
    heads_refused w p h = record { is = λ k. head_listed s from l lex v b k d x r f e; tally = rw h }

    pub heads_there : (c : Clause) (y : Tally) → r ≡ Ok c → y ≡ tally_twice (parameter_twice s l.to (length s) l.to) t → Heads s t from (record { tally = y; read = r })
    unfolding procedure_tally
    heads_there c y h g = record { is = λ k. head_listed s from l lex v b k d x r f e; tally = rw (h, ← sign_in_lem s from l lex (40 ∷ []), ← b, d, ← lex.to) g }

-- ---- parameters that are listed twice
pub record Before (s : List ℕ) (from to list turns at : ℕ) : Type 0 where
  pub same : listed_before s from to turns at ≡ listed_before s from to (length s) list

module _ (s : List ℕ) (from to : ℕ) where
  before_turn : (n at : ℕ) → 0 < n → listed_before s from to n at
      ≡ when (leb from (token_at mixed s at).from) (λ _. false) (λ _. when (spelled_as s from to (token_at mixed s at).from (token_at mixed s at).to) (λ _. true) (λ _. listed_before s from to (n - 1) (token_at mixed s (token_at mixed s at).to).to))
  unfolding listed_before
  before_turn zero at h = absurd (omega arith)
  before_turn (suc n) at h = rw sub-one

  pub before_start : (list : ℕ) → Before s from to list (length s) list
  before_start list = record { same = refl }

  module _ (list turns at : ℕ) (h : Before s from to list turns at) where
    pub before_end : turns ≤ 0 → false ≡ listed_before s from to (length s) list
    unfolding listed_before
    before_end k = let z : turns ≡ 0 = omega arith in rw z at h.same

    module _ (k : 0 < turns) (l : Lexeme) (lex : Lexed s at l) where
      turned : when (leb from l.from) (λ _. false) (λ _. when (spelled_as s from to l.from l.to) (λ _. true) (λ _. listed_before s from to (turns - 1) (token_at mixed s l.to).to)) ≡ listed_before s from to (length s) list
      turned = rw (lex.from, lex.to) (sym (before_turn turns at k) ∙ h.same)

      pub before_own : from ≤ l.from → false ≡ listed_before s from to (length s) list
      before_own g = rw (le-leb from l.from g) at turned

      module _ (g : l.from < from) (b : Bool) (f : b ≡ spelled_as s from to l.from l.to) where
        pub before_there : b ≡ true → true ≡ listed_before s from to (length s) list
        before_there c = rw (lt-leb from l.from g, ← f, c) at turned

        pub before_more : b ≡ false → (m : Lexeme) → Lexed s l.to m → Before s from to list (turns - 1) m.to
        before_more c m lem = record { same = rw (lt-leb from l.from g, ← f, c, ← lem.to) at turned }

module _ (s : List ℕ) (from to p q n a : ℕ) (hn : n ≡ to - from) (ha : a ≡ q - p) where
  pub spelled_so : a ≡ n → (b : Bool) → b ≡ same (folded mixed (part n p s)) (folded mixed (part n from s)) → b ≡ spelled_as s from to p q
  unfolding spelled_as
  spelled_so i b f = rw (← ha, ← hn, eq-eqb a n i) f

  pub spelled_not : (a ≡ n → ⊥) → eqb a n ≡ spelled_as s from to p q
  unfolding spelled_as
  spelled_not i = rw (← ha, ← hn, ne_eqb a n i)

pub record Twice (s : List ℕ) (list turns at : ℕ) : Type 0 where
  pub same : parameter_twice s list turns at ≡ parameter_twice s list (length s) list

module _ (s : List ℕ) (list : ℕ) where
  twice_turn : (n at : ℕ) → 0 < n → parameter_twice s list n at
      ≡ when (listed_before s (token_at mixed s at).from (token_at mixed s at).to (length s) list) (λ _. Some (token_at mixed s at).from) (λ _. when (is_spelled (44 ∷ []) (token_at mixed s (token_at mixed s at).to).token) (λ _. parameter_twice s list (n - 1) (token_at mixed s (token_at mixed s at).to).to) (λ _. None))
  unfolding parameter_twice
  twice_turn zero at h = absurd (omega arith)
  twice_turn (suc n) at h = rw sub-one

  pub twice_start : Twice s list (length s) list
  twice_start = record { same = refl }

  module _ (t : Tally) (turns at : ℕ) (h : Twice s list turns at) where
    pub twice_end : turns ≤ 0 → t ≡ tally_twice (parameter_twice s list (length s) list) t
    unfolding parameter_twice
    twice_end k = let z : turns ≡ 0 = omega arith in rw (← rw z at h.same)

    module _ (k : 0 < turns) (l : Lexeme) (lex : Lexed s at l) (b : Bool) (f : b ≡ listed_before s l.from l.to (length s) list) where
      doubled : when b (λ _. Some l.from) (λ _. when (is_spelled (44 ∷ []) (token_at mixed s l.to).token) (λ _. parameter_twice s list (turns - 1) (token_at mixed s l.to).to) (λ _. None)) ≡ parameter_twice s list (length s) list
      doubled = rw (f, lex.from, lex.to) (sym (twice_turn turns at k) ∙ h.same)

      pub twice_there : b ≡ true → (y : Tally) → y ≡ tally_second t l.from → y ≡ tally_twice (parameter_twice s list (length s) list) t
      twice_there c y e = e ∙ ap (λ (z : Option ℕ). tally_twice z t) (rw c at doubled)

      module _ (c : b ≡ false) (m : Lexeme) (lem : Lexed s l.to m) (v : Bool) (g : v ≡ is_sign_in s m (44 ∷ [])) where
        onward : when v (λ _. parameter_twice s list (turns - 1) m.to) (λ _. None) ≡ parameter_twice s list (length s) list
        onward = rw (g, sign_in_lem s l.to m lem (44 ∷ []), lem.to) (rw c at doubled)

        pub twice_more : v ≡ true → Twice s list (turns - 1) m.to
        twice_more e = record { same = rw e at onward }

        pub twice_none : v ≡ false → t ≡ tally_twice (parameter_twice s list (length s) list) t
        twice_none e = ap (λ (z : Option ℕ). tally_twice z t) (rw e at onward)
