-- DECLARE: what the code reads of an item is what the definition does with it.
-- Assumes nothing.
use Rattle.statements.specs.Types.{Read}
use Rattle.expressions.specs.Types.{Expected}
use mathlib.Core.Path.{◌≡◌, refl, sym, ap, ◌∙◌}
use mathlib.Core.Bool.{Bool, true, false, cond, ◌||◌}
use mathlib.Core.List.{List, [], ◌∷◌, ◌++◌, append_assoc, append-nil}
use Prim.Native.Nat.{ℕ, zero, suc, ◌+◌, ◌-◌, ◌<◌, ◌≤◌}
use native.Mathlib.Omega.{arith}
use native.Mathlib.Numerals.{sub-one}
use lib.ListN.{length}
use Rattle.definition.specs.Bytes.{mixed}
use Rattle.definition.specs.Choice.{when}
use Rattle.definition.specs.Tokens.{Token, word, integer, string, bits, sign, nothing, wrong, is_sign, is_word, token_at}
use Rattle.definition.specs.Expressions.{Reading, read, refused, then, expect_sign, Named, name_at}
use Rattle.definition.specs.Program as P
use Rattle.definition.specs.Statements as D
use Rattle.definition.specs.declared.ValueType.TheVariants.{FixedType, CharacterType}
use Rattle.definition.specs.declared.Why.{Why}
use Rattle.definition.specs.declared.Why.TheVariants.{Syntax}
use Rattle.tokens.specs.declared.Lexeme.{Lexeme}
use Rattle.tokens.specs.Answer.{Lexed, is_sign_in}
use Rattle.expressions.specs.Check.{expect_for, is_spelled, expected, named_for}
use Rattle.expressions.proofs.Reading.{expected_is}
use Rattle.rows.specs.declared.Statement.TheVariants as S
use Rattle.entering.specs.declared.Meaning.{Meaning}
use Rattle.entering.specs.declared.Meaning.TheVariants as M
use Rattle.statements.specs.declared.Opens.TheVariants as O
use Rattle.statements.specs.declared.Item.{Item}
use Rattle.std.specs.Prelude.{Some, None, Ok, Err}
use Rattle.std.specs.declared.option.Option.{Option}
use Rattle.statements.specs.Clauses.{read_for, read_up_to, name_end, item_past, list_next, list_end, names_end, is_inside, item_of, item_in, attribute_by, worded, Part, itemized_by, itemized, meaning_in, names_next, names_read, scope_of, clause_in, names_in, Ready, NamedIf, Declares, DeclaresIf}
use lib.ListN.{length-append}
use Rattle.tokens.specs.Answer.{lexeme_for, kind_of, is_token}
use Rattle.tokens.proofs.Reach.{token_low, token_past, token_inside}
use Rattle.names.specs.declared.Owner.{Owner}
use Rattle.names.specs.declared.Owner.TheVariants.{Everyone, Procedure}
use Rattle.entering.specs.declared.Tally.{Tally}
use Rattle.entering.specs.Book.{book_all, Entered, meaning_of}
use Rattle.statements.specs.declared.Declaring.{Declaring}
use Rattle.statements.proofs.Laws.{sign_in_lem, sign_spelled, word_spelled}
use Rattle.statements.proofs.Clauses.{ended_is}
use Rattle.statements.proofs.Listed.{Names, named_is, entered_none, entered_more}

-- ---- names in parentheses
sign_real : (t : Token) → is_sign "," t ≡ true → is_token (kind_of t) ≡ true
sign_real (word x) e = refl
sign_real (integer x) e = refl
sign_real (string x) e = refl
sign_real (bits x) e = refl
sign_real (sign x) e = refl
sign_real nothing e = let z : ◌≡◌ {A = ℕ} 0 1 = cc in absurd (omega arith)
sign_real wrong e = let z : ◌≡◌ {A = ℕ} 0 1 = cc in absurd (omega arith)

comma_past : (s : List ℕ) (e : ℕ) → is_sign "," (token_at mixed s e).token ≡ true → (e < (token_at mixed s e).to) × ((token_at mixed s e).to ≤ length s)
comma_past s e h =
    let l : Lexeme = lexeme_for (token_at mixed s e) in
    let x : Lexed s e l = record { kind = refl; from = refl; to = refl } in
    let r : is_token l.kind ≡ true = sign_real (token_at mixed s e).token h in
    omega (arith, token_low s e l x, token_past s e l x r, token_inside s e l x r)

name_past : (s : List ℕ) (at : ℕ) (n : Named) → name_at mixed s at ≡ read n → at < n.to
name_past s at n e = let f : Names s at n.place n.to = named_is s at (named_for (name_at mixed s at)) n.place n.to refl (ap named_for e) in omega (arith, f.past, f.low)

nil_of : {A : Type 0} (xs : List A) → length xs ≡ 0 → xs ≡ []
nil_of [] e = refl
nil_of (x ∷ xs) e = absurd (omega arith)

module _ (k : P.Scope) (g : P.Meaning) (s : List ℕ) (ds : List P.Declared) (cont : List Named → ℕ → D.Declaring) where
  abbrev pub after_names : Expected → List Named → D.Declaring
  after_names (Ok e) all = cont all e
  after_names (Err (w, p)) all = D.undeclared w p (ds ++ D.means k g all)

  closing : (ns : List Named) (Q : Reading ℕ) → D.then_declare (ds ++ D.means k g ns) Q (λ e. cont ns e) ≡ after_names (expect_for Q) ns
  closing ns (read e) = refl
  closing ns (refused w p) = refl

  comma_by : (f : ℕ) (ns : List Named) (n : Named) (b : Bool)
      → (b ≡ true → D.names_at mixed k g s ds f (ns ++ n ∷ []) (token_at mixed s n.to).to cont ≡ after_names (names_end (41 ∷ []) s f (token_at mixed s n.to).to) ((ns ++ n ∷ []) ++ names_read s f (token_at mixed s n.to).to))
      → when b (λ _. D.names_at mixed k g s ds f (ns ++ n ∷ []) (token_at mixed s n.to).to cont) (λ _. D.then_declare (ds ++ D.means k g (ns ++ n ∷ [])) (expect_sign mixed ")" s n.to) λ e. cont (ns ++ n ∷ []) e)
      ≡ after_names (when b (λ _. names_end (41 ∷ []) s f (token_at mixed s n.to).to) (λ _. expected (41 ∷ []) s n.to)) (ns ++ (n ∷ when b (λ _. names_read s f (token_at mixed s n.to).to) (λ _. [])))
  comma_by f ns n true h = h refl ∙ ap (λ (z : List Named). after_names (names_end (41 ∷ []) s f (token_at mixed s n.to).to) z) (append_assoc ns (n ∷ []) (names_read s f (token_at mixed s n.to).to))
  comma_by f ns n false h = rw (expected_is ")" (41 ∷ []) refl s n.to) (closing (ns ++ n ∷ []) (expect_sign mixed ")" s n.to))

  name_by : (f : ℕ) (ns : List Named) (R : Reading Named)
      → ((n : Named) → R ≡ read n → is_sign "," (token_at mixed s n.to).token ≡ true → D.names_at mixed k g s ds f (ns ++ n ∷ []) (token_at mixed s n.to).to cont ≡ after_names (names_end (41 ∷ []) s f (token_at mixed s n.to).to) ((ns ++ n ∷ []) ++ names_read s f (token_at mixed s n.to).to))
      → D.then_declare (ds ++ D.means k g ns) R (λ x. when (is_sign "," (token_at mixed s x.to).token) (λ _. D.names_at mixed k g s ds f (ns ++ x ∷ []) (token_at mixed s x.to).to cont) (λ _. D.then_declare (ds ++ D.means k g (ns ++ x ∷ [])) (expect_sign mixed ")" s x.to) λ e. cont (ns ++ x ∷ []) e))
      ≡ after_names (list_next (41 ∷ []) s (name_end R) (names_end (41 ∷ []) s f)) (ns ++ names_next s R (names_read s f))
  unfolding name_end
  name_by f ns (read n) h = rw (sign_spelled "," (44 ∷ []) refl (token_at mixed s n.to).token) (comma_by f ns n (is_sign "," (token_at mixed s n.to).token) (h n refl))
  name_by f ns (refused w p) h = rw append-nil

  pub names_at_lem : (f : ℕ) (ns : List Named) (at : ℕ) → length s + length ns ≤ at + f → (0 < length ns → at ≤ length s) → D.names_at mixed k g s ds f ns at cont ≡ after_names (names_end (41 ∷ []) s f at) (ns ++ names_read s f at)
  unfolding D.names_at list_end names_read item_past
  names_at_lem zero ns at h l = let z : ns ≡ [] = nil_of ns (none (length ns) refl) in rw (z, append-nil)
    where
      none : (n : ℕ) → length ns ≡ n → length ns ≡ 0
      none zero e = e
      none (suc n) e = absurd (omega (arith, l (omega (arith, e)), h, e))
  names_at_lem (suc f) ns at h l = name_by f ns (name_at mixed s at) λ n e c.
      let p : (n.to < (token_at mixed s n.to).to) × ((token_at mixed s n.to).to ≤ length s) = comma_past s n.to c in
      names_at_lem f (ns ++ n ∷ []) (token_at mixed s n.to).to (omega (arith, h, p.0, name_past s at n e, length-append ns (n ∷ []))) (λ _. p.1)

-- ---- the attribute
module _ (t : Token) (from to : ℕ) (found : P.Meaning → ℕ → D.Declaring) (absent : Unit {0} → D.Declaring) where
  abbrev attributed : Option Meaning → D.Declaring
  attributed (Some m) = found (meaning_of m) to
  attributed None = absent tt

  three : (m : Meaning) (a b c : Bool) → when a (λ _. found (P.variable CharacterType) to) (λ _. when b (λ _. found (P.variable FixedType) to) (λ _. when c (λ _. found (meaning_of m) to) absent))
      ≡ attributed (cond a (Some (M.Variable CharacterType)) (cond b (Some (M.Variable FixedType)) (cond c (Some m) None)))
  three m true b c = refl
  three m false true c = refl
  three m false false true = refl
  three m false false false = refl

  pub attribute_is : (o : Owner) → D.attribute (scope_of o) t from to found absent ≡ attributed (attribute_by (is_inside o) (worded t))
  unfolding D.attribute attribute_by
  attribute_is Everyone = rw (word_spelled "CHARACTER" (67 ∷ 72 ∷ 65 ∷ 82 ∷ 65 ∷ 67 ∷ 84 ∷ 69 ∷ 82 ∷ []) refl t, word_spelled "CHAR" (67 ∷ 72 ∷ 65 ∷ 82 ∷ []) refl t, word_spelled "FIXED" (70 ∷ 73 ∷ 88 ∷ 69 ∷ 68 ∷ []) refl t, word_spelled "ENTRY" (69 ∷ 78 ∷ 84 ∷ 82 ∷ 89 ∷ []) refl t) (three M.EntryOnly (is_word "CHARACTER" t || is_word "CHAR" t) (is_word "FIXED" t) (is_word "ENTRY" t))
  attribute_is (Procedure p) = rw (word_spelled "CHARACTER" (67 ∷ 72 ∷ 65 ∷ 82 ∷ 65 ∷ 67 ∷ 84 ∷ 69 ∷ 82 ∷ []) refl t, word_spelled "CHAR" (67 ∷ 72 ∷ 65 ∷ 82 ∷ []) refl t, word_spelled "FIXED" (70 ∷ 73 ∷ 88 ∷ 69 ∷ 68 ∷ []) refl t, word_spelled "BUILTIN" (66 ∷ 85 ∷ 73 ∷ 76 ∷ 84 ∷ 73 ∷ 78 ∷ []) refl t) (three M.BuiltinName (is_word "CHARACTER" t || is_word "CHAR" t) (is_word "FIXED" t) (is_word "BUILTIN" t))

-- ---- one item
module _ (o : Owner) (s : List ℕ) (ds : List P.Declared) (next : List P.Declared → ℕ → D.Declaring) where
  abbrev stepped : Part Meaning → List Named → D.Declaring
  stepped (Ok (m, e)) ns = next (ds ++ D.means (scope_of o) (meaning_of m) ns) e
  stepped (Err (w, p)) ns = D.undeclared w p (ds ++ D.means (scope_of o) (P.variable FixedType) ns)

  stepped_by : (a : Option Meaning) (ns : List Named) (from to : ℕ) → attributed nothing from to (λ m e. next (ds ++ D.means (scope_of o) m ns) e) (λ _. D.undeclared Syntax from (ds ++ D.means (scope_of o) (P.variable FixedType) ns)) a ≡ stepped (itemized_by a from to) ns
  stepped_by (Some m) ns from to = refl
  stepped_by None ns from to = refl

  names_then : (ns : List Named) (e : ℕ) → D.declare_names mixed (scope_of o) s ds ns e next ≡ stepped (itemized s (Ok e) (is_inside o)) ns
  unfolding D.declare_names itemized
  names_then ns e =
      attribute_is (token_at mixed s e).token (token_at mixed s e).from (token_at mixed s e).to (λ m q. next (ds ++ D.means (scope_of o) m ns) q) (λ _. D.undeclared Syntax (token_at mixed s e).from (ds ++ D.means (scope_of o) (P.variable FixedType) ns)) o
      ∙ stepped_by (attribute_by (is_inside o) (worded (token_at mixed s e).token)) ns (token_at mixed s e).from (token_at mixed s e).to

  after_is : (x : Expected) (ns : List Named) → after_names (scope_of o) (P.variable FixedType) s ds (λ ms e. D.declare_names mixed (scope_of o) s ds ms e next) x ns ≡ stepped (itemized s x (is_inside o)) ns
  unfolding itemized
  after_is (Ok e) ns = names_then ns e
  after_is (Err (w, p)) ns = refl

  one_name : (b : Bool) (n : Named) → (n ∷ when b (λ _. []) (λ _. [])) ≡ (n ∷ [])
  one_name true n = refl
  one_name false n = refl

  single_by : (R : Reading Named) (again : ℕ → List Named) → ((q : ℕ) → again q ≡ []) → D.then_declare ds R (λ n. D.declare_names mixed (scope_of o) s ds (n ∷ []) n.to next) ≡ stepped (itemized s (name_end R) (is_inside o)) (names_next s R again)
  unfolding name_end itemized
  single_by (read n) again h = rw (h (token_at mixed s n.to).to, one_name (is_spelled (44 ∷ []) (token_at mixed s n.to).token) n) (names_then (n ∷ []) n.to)
  single_by (refused w p) again h = rw append-nil

  item_by : (at : ℕ) (b : Bool) → is_sign "(" (token_at mixed s at).token ≡ b
      → when b (λ _. D.names_at mixed (scope_of o) (P.variable FixedType) s ds (length s) [] (token_at mixed s at).to λ ns e. D.declare_names mixed (scope_of o) s ds ns e next) (λ _. D.then_declare ds (name_at mixed s at) λ n. D.declare_names mixed (scope_of o) s ds (n ∷ []) n.to next)
      ≡ stepped (itemized s (cond b (item_of (token_at mixed s at).to (length s) (names_end (41 ∷ []) s (length s) (token_at mixed s at).to)) (item_of at 1 (name_end (name_at mixed s at)))).to (is_inside o))
      (names_read s (cond b (item_of (token_at mixed s at).to (length s) (names_end (41 ∷ []) s (length s) (token_at mixed s at).to)) (item_of at 1 (name_end (name_at mixed s at)))).most (cond b (item_of (token_at mixed s at).to (length s) (names_end (41 ∷ []) s (length s) (token_at mixed s at).to)) (item_of at 1 (name_end (name_at mixed s at)))).names)
  unfolding names_read
  item_by at true e =
      names_at_lem (scope_of o) (P.variable FixedType) s ds (λ ns q. D.declare_names mixed (scope_of o) s ds ns q next) (length s) [] (token_at mixed s at).to (omega arith) (λ z. absurd (omega arith))
      ∙ after_is (names_end (41 ∷ []) s (length s) (token_at mixed s at).to) (names_read s (length s) (token_at mixed s at).to)
  item_by at false e = single_by (name_at mixed s at) (names_read s 0) (λ q. refl)

declare_turn : (o : Owner) (s : List ℕ) (n : ℕ) (ds : List P.Declared) (at : ℕ) → 0 < n
    → D.declare_from mixed (scope_of o) s n ds at ≡ stepped o s ds (D.declare_next mixed s (D.declare_from mixed (scope_of o) s (n - 1))) (itemized s (item_in s at).to (is_inside o)) (names_read s (item_in s at).most (item_in s at).names)
unfolding D.declare_from item_in
declare_turn o s zero ds at h = absurd (omega arith)
declare_turn o s (suc n) ds at h = rw (sub-one, sign_spelled "(" (40 ∷ []) refl (token_at mixed s at).token) (item_by o s ds (D.declare_next mixed s (D.declare_from mixed (scope_of o) s n)) at (is_sign "(" (token_at mixed s at).token) refl)

-- ---- one item after the other
pub record Itemizing (d s t₀ : List ℕ) (o : Owner) (x₀ : Tally) (from : ℕ) (t : List ℕ) (x : Tally) (at turns : ℕ) : Type 0 where
  pub done : List P.Declared
  pub entered : Entered d t₀ x₀ (book_all x₀.member done) t x
  pub left : D.declare_from mixed (scope_of o) s turns done at ≡ D.declare_from mixed (scope_of o) s (length s) [] from
  pub size : length t ≡ length t₀

module _ (d s t₀ : List ℕ) (o : Owner) (x₀ : Tally) (r : Ready d s t₀ x₀ o) where
  pub items_start : (from : ℕ) → Itemizing d s t₀ o x₀ from t₀ x₀ from (length s)
  items_start from = record { done = []; entered = entered_none d t₀ x₀ r.roomy; left = refl; size = refl }

  declares : (from : ℕ) (X : D.Declaring) (u : List ℕ) (y : Declaring) → X ≡ D.declare_from mixed (scope_of o) s (length s) [] from → Entered d t₀ x₀ (book_all x₀.member (names_in X)) u y.tally → y.read ≡ read_for S.Declare from FixedType (clause_in X) → Declares d s t₀ x₀ o from u y
  declares from X u y e a b = record { entered = rw e at a; is = rw e at b }

  module _ (from : ℕ) (t : List ℕ) (x : Tally) (at turns : ℕ) (h : Itemizing d s t₀ o x₀ from t x at turns) where
    pub items_ready : Ready d s t x o
    items_ready = record { roomy = h.entered.roomy; lies = rw h.entered.base r.lies; own = rw h.entered.member r.own }

    pub items_none : turns ≤ 0 → Declares d s t₀ x₀ o from t (record { tally = x; read = Err (Syntax, at) })
    unfolding D.declare_from read_for
    items_none k = let z : turns ≡ 0 = omega arith in declares from (D.undeclared Syntax at h.done) t (record { tally = x; read = Err (Syntax, at) }) (rw z at h.left) h.entered refl

    module _ (k : 0 < turns) (i : Item) (hi : i ≡ item_in s at) (y : Part Meaning) (hy : y ≡ itemized s i.to (is_inside o)) (m : Meaning) (hm : m ≡ meaning_in y)
        (u : List ℕ) (z : Tally) (size : length u ≡ length t) (b : Entered d t x (book_all x.member (D.means (scope_of o) (meaning_of m) (names_read s i.most i.names))) u z) where
      turned : stepped o s h.done (D.declare_next mixed s (D.declare_from mixed (scope_of o) s (turns - 1))) y (names_read s i.most i.names) ≡ D.declare_from mixed (scope_of o) s (length s) [] from
      turned = rw (hy, hi) (sym (declare_turn o s turns h.done at k) ∙ h.left)

      more : Entered d t₀ x₀ (book_all x₀.member (h.done ++ D.means (scope_of o) (meaning_of m) (names_read s i.most i.names))) u z
      more = entered_more d t₀ t u x₀ x z h.done (D.means (scope_of o) (meaning_of m) (names_read s i.most i.names)) h.entered b

      pub items_refused : (w : Why) (p : ℕ) → y ≡ Err (w, p) → Declares d s t₀ x₀ o from u (record { tally = z; read = Err (w, p) })
      unfolding read_for
      items_refused w p e = declares from (D.undeclared w p (h.done ++ D.means (scope_of o) (P.variable FixedType) (names_read s i.most i.names))) u (record { tally = z; read = Err (w, p) }) (rw e at turned) (rw (hm, e) at more) refl

      module _ (g : Meaning) (e : ℕ) (j : y ≡ Ok (g, e)) (l : Lexeme) (lex : Lexed s e l) (v : Bool) (c : v ≡ is_sign_in s l (44 ∷ [])) where
        both : Entered d t₀ x₀ (book_all x₀.member (h.done ++ D.means (scope_of o) (meaning_of g) (names_read s i.most i.names))) u z
        both = rw (hm, j) at more

        next : when v (λ _. D.declare_from mixed (scope_of o) s (turns - 1) (h.done ++ D.means (scope_of o) (meaning_of g) (names_read s i.most i.names)) l.to) (λ _. D.then_declare (h.done ++ D.means (scope_of o) (meaning_of g) (names_read s i.most i.names)) (expect_sign mixed ";" s e) λ q. D.declared (D.clause (P.declare (D.spellings (h.done ++ D.means (scope_of o) (meaning_of g) (names_read s i.most i.names)))) D.opens_nothing q) (h.done ++ D.means (scope_of o) (meaning_of g) (names_read s i.most i.names))) ≡ D.declare_from mixed (scope_of o) s (length s) [] from
        unfolding D.declare_next
        next = rw (c, sign_in_lem s e l lex (44 ∷ []), sign_spelled "," (44 ∷ []) refl (token_at mixed s e).token, lex.to) (rw j at turned)

        pub items_more : v ≡ true → Itemizing d s t₀ o x₀ from u z l.to (turns - 1)
        items_more f = record { done = (h.done ++ D.means (scope_of o) (meaning_of g) (names_read s i.most i.names)); entered = both; left = rw f at next; size = size ∙ h.size }

        last_by_lem : (Q : Reading ℕ) → (q : Read) → q ≡ read_for S.Declare from FixedType (then Q λ a. read (D.clause (P.declare (D.spellings (h.done ++ D.means (scope_of o) (meaning_of g) (names_read s i.most i.names)))) D.opens_nothing a))
            → D.then_declare (h.done ++ D.means (scope_of o) (meaning_of g) (names_read s i.most i.names)) Q (λ a. D.declared (D.clause (P.declare (D.spellings (h.done ++ D.means (scope_of o) (meaning_of g) (names_read s i.most i.names)))) D.opens_nothing a) (h.done ++ D.means (scope_of o) (meaning_of g) (names_read s i.most i.names))) ≡ D.declare_from mixed (scope_of o) s (length s) [] from → Declares d s t₀ x₀ o from u (record { tally = z; read = q })
        last_by_lem (read a) q f n = declares from (D.declared (D.clause (P.declare (D.spellings (h.done ++ D.means (scope_of o) (meaning_of g) (names_read s i.most i.names)))) D.opens_nothing a) (h.done ++ D.means (scope_of o) (meaning_of g) (names_read s i.most i.names))) u (record { tally = z; read = q }) n both f
        last_by_lem (refused w p) q f n = declares from (D.undeclared w p (h.done ++ D.means (scope_of o) (meaning_of g) (names_read s i.most i.names))) u (record { tally = z; read = q }) n both f

        pub items_done : v ≡ false → (a : Expected) (q : Read) → a ≡ expected (59 ∷ []) s e → q ≡ read_up_to S.Declare O.Nothing from a → Declares d s t₀ x₀ o from u (record { tally = z; read = q })
        unfolding D.ended
        items_done f a q n p = last_by_lem (expect_sign mixed ";" s e) q (rw n at p ∙ ended_is S.Declare from s (P.declare (D.spellings (h.done ++ D.means (scope_of o) (meaning_of g) (names_read s i.most i.names)))) e) (rw f at next)

-- ---- the same, where all is in its place
pub record ItemizingIf (d s t₀ : List ℕ) (o : Owner) (x₀ : Tally) (from : ℕ) (t : List ℕ) (x : Tally) (at turns : ℕ) : Type 0 where
  pub is : Ready d s t₀ x₀ o → Itemizing d s t₀ o x₀ from t x at turns
  pub size : length t ≡ length t₀

module _ (d s t₀ : List ℕ) (o : Owner) (x₀ : Tally) where
  pub if_start : (from : ℕ) → ItemizingIf d s t₀ o x₀ from t₀ x₀ from (length s)
  if_start from = record { is = λ r. items_start d s t₀ o x₀ r from; size = refl }

  module _ (from : ℕ) (t : List ℕ) (x : Tally) (at turns : ℕ) (h : ItemizingIf d s t₀ o x₀ from t x at turns) where
    pub if_none : turns ≤ 0 → DeclaresIf d s t₀ x₀ o from t (record { tally = x; read = Err (Syntax, at) })
    if_none k = record { is = λ r. items_none d s t₀ o x₀ r from t x at turns (h.is r) k }

    module _ (k : 0 < turns) (i : Item) (hi : i ≡ item_in s at) (y : Part Meaning) (hy : y ≡ itemized s i.to (is_inside o)) (m : Meaning) (hm : m ≡ meaning_in y)
        (u : List ℕ) (z : Tally) (size : length u ≡ length t) (b : NamedIf d s t x o (book_all x.member (D.means (scope_of o) (meaning_of m) (names_read s i.most i.names))) u z) where
      pub if_refused : (w : Why) (p : ℕ) → y ≡ Err (w, p) → DeclaresIf d s t₀ x₀ o from u (record { tally = z; read = Err (w, p) })
      if_refused w p e = record { is = λ r. items_refused d s t₀ o x₀ r from t x at turns (h.is r) k i hi y hy m hm u z size (b.is (items_ready d s t₀ o x₀ r from t x at turns (h.is r))) w p e }

      module _ (g : Meaning) (e : ℕ) (j : y ≡ Ok (g, e)) (l : Lexeme) (lex : Lexed s e l) (v : Bool) (c : v ≡ is_sign_in s l (44 ∷ [])) where
        pub if_more : v ≡ true → ItemizingIf d s t₀ o x₀ from u z l.to (turns - 1)
        if_more f = record { is = λ r. items_more d s t₀ o x₀ r from t x at turns (h.is r) k i hi y hy m hm u z size (b.is (items_ready d s t₀ o x₀ r from t x at turns (h.is r))) g e j l lex v c f; size = size ∙ h.size }

        pub if_done : v ≡ false → (a : Expected) (q : Read) → a ≡ expected (59 ∷ []) s e → q ≡ read_up_to S.Declare O.Nothing from a → DeclaresIf d s t₀ x₀ o from u (record { tally = z; read = q })
        if_done f a q n p = record { is = λ r. items_done d s t₀ o x₀ r from t x at turns (h.is r) k i hi y hy m hm u z size (b.is (items_ready d s t₀ o x₀ r from t x at turns (h.is r))) g e j l lex v c f a q n p }
