-- A statement that is read again at its place stands there: the readers behind `statementAt`, one token after the other.
-- Assumes nothing.
use mathlib.Core.Path.{◌≡◌, refl, sym, ap, subst}
use mathlib.Core.Bool.{Bool, true, false, cond, false≢true}
use mathlib.Core.List.{List, [], ◌∷◌, ◌++◌, append_assoc}
use Prim.Native.Nat.{ℕ, zero, suc, ◌≤◌}
use Prim.Native.String.{String}
use native.Mathlib.Omega.{arith}
use lib.ListN.{length}
use Rattle.definition.specs.Bytes.{mixed}
use Rattle.definition.specs.Text.{bytes_of}
use Rattle.definition.specs.Lists.{same}
use Rattle.definition.specs.Tokens as Tk
use Rattle.definition.specs.Tokens.{Token, is_word, is_sign, token_at}
use Rattle.definition.specs.Expressions.{Reading, read, refused, then, Tree, Parsed, Named, name_at, expect_sign, expect_word, whole_expression}
use Rattle.definition.specs.Program as P
use Rattle.definition.specs.Statements as D
use Rattle.definition.specs.Reading.{spelled}
use Rattle.definition.specs.declared.ValueType.{ValueType}
use Rattle.definition.specs.declared.ValueType.TheVariants.{FixedType, CharacterType}
use Rattle.definition.proofs.Choices.{when_has}
use Rattle.definition.proofs.Ends.{Real}
use Rattle.rows.specs.declared.Statement.{Statement}
use Rattle.rows.specs.declared.Statement.TheVariants as S
use Rattle.rows.specs.Tabled.{kind_of}
use Rattle.statements.specs.Clauses.{clause_in}
use Rattle.statements.specs.Again.{statement_in, assign_again, condition_again, statement_at}
use Rattle.callees.specs.Answer.{Listed, Headed, HeadedBy}
use Rattle.reading.proofs.Places.{token_on, sign_real}
use Rattle.operands.specs.Shown.{Stated, Bounded}
use Rattle.showing.proofs.Spellings.{same_is}
use Rattle.showing.proofs.Meanings.{spelled_means}

-- ---- tokens
word_real : (w : String) (t : Token) → is_word w t ≡ true → Real t
word_real w (Tk.word x) e = tt
word_real w (Tk.integer x) e = tt
word_real w (Tk.string x) e = tt
word_real w (Tk.bits x) e = tt
word_real w (Tk.sign x) e = tt
word_real w Tk.nothing e = absurd (false≢true e)
word_real w Tk.wrong e = absurd (false≢true e)

-- where a token with bytes is read behind a place, the place is within the body
within : (s : List ℕ) (c : ℕ) → Real (token_at mixed s c).token → c ≤ length s
within s c r = omega (arith, (token_on s c).low, ((token_on s c).some r).0, ((token_on s c).some r).1)

sign_plain : (w x : String) (t : Token) → is_sign w t ≡ true → is_word x t ≡ false
sign_plain w x (Tk.word y) e = absurd (false≢true e)
sign_plain w x (Tk.integer y) e = refl
sign_plain w x (Tk.string y) e = refl
sign_plain w x (Tk.bits y) e = refl
sign_plain w x (Tk.sign y) e = refl
sign_plain w x Tk.nothing e = refl
sign_plain w x Tk.wrong e = refl

expected_sign : (w : String) (s : List ℕ) (at q : ℕ) → expect_sign mixed w s at ≡ read q → is_sign w (token_at mixed s at).token ≡ true
unfolding expect_sign
expected_sign w s at q h = by (is_sign w (token_at mixed s at).token) h
  where
    by : (b : Bool) → cond b (read (token_at mixed s at).to) (refused Rattle.definition.specs.declared.Why.TheVariants.Syntax (token_at mixed s at).from) ≡ read q → b ≡ true
    by true h = refl
    by false h = let z : ◌≡◌ {A = ℕ} 0 1 = cc in absurd (omega arith)

expected_word_lem : (w : String) (s : List ℕ) (at q : ℕ) → expect_word mixed w s at ≡ read q → is_word w (token_at mixed s at).token ≡ true
unfolding expect_word
expected_word_lem w s at q h = by (is_word w (token_at mixed s at).token) h
  where
    by : (b : Bool) → cond b (read (token_at mixed s at).to) (refused Rattle.definition.specs.declared.Why.TheVariants.Syntax (token_at mixed s at).from) ≡ read q → b ≡ true
    by true h = refl
    by false h = let z : ◌≡◌ {A = ℕ} 0 1 = cc in absurd (omega arith)

-- TO is not BY
to_plain : (t : Token) → is_word "TO" t ≡ true → is_word "BY" t ≡ false
to_plain (Tk.word x) e = ap (λ (y : List ℕ). same y (bytes_of "BY")) (same_is x (bytes_of "TO") e)
to_plain (Tk.integer x) e = refl
to_plain (Tk.string x) e = refl
to_plain (Tk.bits x) e = refl
to_plain (Tk.sign x) e = refl
to_plain Tk.nothing e = refl
to_plain Tk.wrong e = refl

-- ---- what a reading says of its statement, which is read at c
module _ (s : List ℕ) (c : ℕ) where
  abbrev So : Reading D.Clause → Type 0
  So R = Stated s c (statement_in R)

  after : {A : Type 0} (R : Reading A) (F : A → Reading D.Clause) → ((a : A) → R ≡ read a → So (F a)) → So (then R F)
  after (read a) F h = h a refl
  after (refused w p) F h = tt

  ended_so : (x : P.Statement) (at : ℕ) → Stated s c x → So (D.ended mixed s x at)
  unfolding D.ended
  ended_so x at h = after (expect_sign mixed ";" s at) (λ e. read (D.clause x D.opens_nothing e)) λ e f. h

  goto_so : So (D.goto_clause mixed s c)
  unfolding D.goto_clause
  goto_so = after (name_at mixed s c) (λ n. D.ended mixed s (P.goto n.spelling) n.to) λ n e. ended_so (P.goto n.spelling) n.to (n, e, refl)

  condition_so : So (condition_again s c)
  unfolding condition_again
  condition_so = after (whole_expression mixed s c) (λ r. read (D.clause (P.conditional r.tree) D.opens_then r.to)) λ r g. (r.to, g)

  assign_so : So (assign_again s c)
  unfolding assign_again D.assignment
  assign_so =
      after (name_at mixed s c) (λ n. then (expect_sign mixed "=" s n.to) λ q. D.assignment mixed s n.spelling q) λ n e.
      after (expect_sign mixed "=" s n.to) (λ q. D.assignment mixed s n.spelling q) λ q f.
      after (whole_expression mixed s q) (λ r. D.ended mixed s (P.assign n.spelling r.tree) r.to) λ r g.
      ended_so (P.assign n.spelling r.tree) r.to (n, e, refl, (q, r.to, f, g))

  return_so : So (D.return_clause mixed s c)
  unfolding D.return_clause
  return_so =
      after (expect_sign mixed "(" s c) _ λ q f.
      after (whole_expression mixed s q) (λ r. then (expect_sign mixed ")" s r.to) λ z. D.ended mixed s (P.return r.tree) z) λ r g.
      after (expect_sign mixed ")" s r.to) (λ z. D.ended mixed s (P.return r.tree) z) λ z i.
      ended_so (P.return r.tree) z (q, r.to, f, g)

  -- ---- DO
  module _ (n : Named) (q : ℕ) (r : Parsed) (e : name_at mixed s c ≡ read n) (f : expect_sign mixed "=" s n.to ≡ read q) (g : whole_expression mixed s q ≡ read r) where
    abbrev end_for : List P.Bound → ℕ → Reading D.Clause
    end_for bs at = then (expect_sign mixed ";" s at) λ z. read (D.clause (P.iterated n.spelling r.tree bs) D.opens_group z)

    -- the semicolon is neither BY nor TO
    last_so : (bs : List P.Bound) (at : ℕ) → length bs ≤ 2 → (is_word "BY" (token_at mixed s at).token ≡ false → is_word "TO" (token_at mixed s at).token ≡ false → Bounded s bs r.to) → So (end_for bs at)
    last_so bs at l h = after (expect_sign mixed ";" s at) (λ z. read (D.clause (P.iterated n.spelling r.tree bs) D.opens_group z)) λ z k.
        let plain : (x : String) → is_word x (token_at mixed s at).token ≡ false = λ x. sign_plain ";" x (token_at mixed s at).token (expected_sign ";" s at z k) in
        (n, e, refl, (q, r.to, f, g, l, h (plain "BY") (plain "TO")))

    bound_so : (w : String) (make : Tree → P.Bound) (bs : List P.Bound) (at : ℕ) (found : List P.Bound → ℕ → Reading D.Clause) (absent : Unit {0} → Reading D.Clause)
        → ((x : Parsed) → is_word w (token_at mixed s at).token ≡ true → whole_expression mixed s (token_at mixed s at).to ≡ read x → So (found (bs ++ make x.tree ∷ []) x.to))
        → (is_word w (token_at mixed s at).token ≡ false → So (absent tt)) → So (D.bound_at mixed w make s bs at found absent)
    unfolding D.bound_at
    bound_so w make bs at found absent h i =
        when_has So (is_word w (token_at mixed s at).token) (λ _. then (whole_expression mixed s (token_at mixed s at).to) λ x. found (bs ++ make x.tree ∷ []) x.to) absent
        (λ j. after (whole_expression mixed s (token_at mixed s at).to) (λ x. found (bs ++ make x.tree ∷ []) x.to) λ x k. h x j k) i

    bounds_so : So (D.do_bounds mixed s (P.iterated n.spelling r.tree) r.to)
    unfolding D.do_bounds
    bounds_so =
        bound_so "BY" P.by [] r.to (λ bs at. D.bound_at mixed "TO" P.upto s bs at end_for (λ _. end_for bs at)) _
        (λ x i j. bound_so "TO" P.upto (P.by x.tree ∷ []) x.to end_for (λ _. end_for (P.by x.tree ∷ []) x.to)
        (λ y k l. last_so (P.by x.tree ∷ P.upto y.tree ∷ []) y.to (omega arith) λ b t. (x.to, i, j, (y.to, to_plain (token_at mixed s x.to).token k, k, l, (b, t))))
        (λ k. last_so (P.by x.tree ∷ []) x.to (omega arith) λ b t. (x.to, i, j, (b, t))))
        (λ i. bound_so "TO" P.upto [] r.to (λ bs at. D.bound_at mixed "BY" P.by s bs at end_for (λ _. end_for bs at)) (λ _. end_for [] r.to)
        (λ x j k. bound_so "BY" P.by (P.upto x.tree ∷ []) x.to end_for (λ _. end_for (P.upto x.tree ∷ []) x.to)
        (λ y l m. last_so (P.upto x.tree ∷ P.by y.tree ∷ []) y.to (omega arith) λ b t. (x.to, i, j, k, (y.to, l, m, (b, t))))
        (λ l. last_so (P.upto x.tree ∷ []) x.to (omega arith) λ b t. (x.to, i, j, k, (b, t))))
        (λ j. last_so [] r.to (omega arith) λ b t. (b, t)))

  do_so : So (D.do_clause mixed s c)
  unfolding D.do_clause
  do_so =
      when_has So (is_sign ";" (token_at mixed s c).token) (λ _. read (D.clause P.group D.opens_group (token_at mixed s c).to)) _ (λ _. tt) λ _.
      after (name_at mixed s c) _ λ n e. after (expect_sign mixed "=" s n.to) _ λ q f.
      after (whole_expression mixed s q) (λ r. D.do_bounds mixed s (P.iterated n.spelling r.tree) r.to) λ r g. bounds_so n q r e f g

  -- ---- PROCEDURE
  abbrev SoDeclared : D.Declaring → Type 0
  SoDeclared R = So (clause_in R)

  after_declared : {A : Type 0} (ds : List P.Declared) (R : Reading A) (F : A → D.Declaring) → ((a : A) → R ≡ read a → SoDeclared (F a)) → SoDeclared (D.then_declare ds R F)
  after_declared ds (read a) F h = h a refl
  after_declared ds (refused w p) F h = tt

  names_so : (k : P.Scope) (m : P.Meaning) (f : ℕ) (ns : List Named) (at : ℕ) (K : List Named → ℕ → D.Declaring)
      → ((y : Named) (ms : List Named) (e : ℕ) → Listed s (y.spelling ∷ spelled ms) at → SoDeclared (K (ns ++ y ∷ ms) e)) → SoDeclared (D.names_at mixed k m s [] f ns at K)
  unfolding D.names_at
  names_so k m zero ns at K h = tt
  names_so k m (suc f) ns at K h =
      after_declared ([] ++ D.means k m ns) (name_at mixed s at) _ λ x i.
      when_has SoDeclared (is_sign "," (token_at mixed s x.to).token) (λ _. D.names_at mixed k m s [] f (ns ++ x ∷ []) (token_at mixed s x.to).to K) _
      (λ j. names_so k m f (ns ++ x ∷ []) (token_at mixed s x.to).to K λ y ms e l. subst (λ (zs : List Named). SoDeclared (K zs e)) (sym (append_assoc ns (x ∷ []) (y ∷ ms))) (h x (y ∷ ms) e (x, i, refl, j, l))) λ j.
      after_declared ([] ++ D.means k m (ns ++ x ∷ [])) (expect_sign mixed ")" s x.to) (λ e. K (ns ++ x ∷ []) e) λ e l. h x [] e (x, i, refl, j)

  head_so : (k : P.Scope) (ns : List Named) (at : ℕ) → ((e : ℕ) → expect_word mixed "RETURNS" s at ≡ read e → (c ≤ length s) × ((list : ℕ) × Headed s c list (spelled ns))) → SoDeclared (D.procedure_head mixed k s ns at)
  unfolding D.procedure_head D.returns_type
  head_so k ns at h =
      let ds : List P.Declared = D.means k P.parameter ns in
      after_declared ds (expect_word mixed "RETURNS" s at) _ λ e i.
      let last : (v : ValueType) (z : ℕ) → SoDeclared (D.then_declare ds (expect_sign mixed ")" s z) λ q. D.then_declare ds (expect_sign mixed ";" s q) λ y. D.declared (D.clause (P.procedure (D.spellings ds) v) D.opens_body y) ds) = λ v z.
      after_declared ds (expect_sign mixed ")" s z) _ λ q j. after_declared ds (expect_sign mixed ";" s q) (λ y. D.declared (D.clause (P.procedure (D.spellings ds) v) D.opens_body y) ds) λ y l.
      subst (λ (xs : List (List ℕ)). Stated s c (P.procedure xs v)) (sym (spelled_means k P.parameter ns)) (h e i) in
      after_declared ds (expect_sign mixed "(" s e) _ λ q j.
      when_has SoDeclared (D.is_character (token_at mixed s q).token) _ _ (λ _. last CharacterType (token_at mixed s q).to) λ _.
      after_declared ds (expect_word mixed "FIXED" s q) _ λ z l. last FixedType z

  procedure_so : (k : P.Scope) → SoDeclared (D.procedure_clause mixed k s c)
  unfolding D.procedure_clause
  procedure_so k =
      when_has SoDeclared (is_sign "(" (token_at mixed s c).token) _ _
      (λ i. names_so k P.parameter (length s) [] (token_at mixed s c).to (D.procedure_head mixed k s) λ y ms e l.
      head_so k (y ∷ ms) e λ z j. (
        within s c (sign_real "(" (token_at mixed s c).token i),
        ((token_at mixed s c).to, record { place = rw i refl; names = subst (λ (b : Bool). HeadedBy b s (y.spelling ∷ spelled ms) (token_at mixed s c).to) (sym i) l }),
      ))
      (λ i. head_so k [] c λ z j. (
        within s c (word_real "RETURNS" (token_at mixed s c).token (expected_word_lem "RETURNS" s c z j)),
        ((token_at mixed s c).from, record { place = rw i refl; names = subst (λ (b : Bool). HeadedBy b s [] (token_at mixed s c).from) (sym i) refl }),
      ))

-- ---- the kinds of which nothing is read again
abbrev Unread : Statement → Type 0
Unread S.Null = Unit {0}
Unread S.Declare = Unit {0}
Unread S.Procedure = ⊥
Unread S.Assign = ⊥
Unread S.Conditional = ⊥
Unread S.Group = Unit {0}
Unread S.Iterated = ⊥
Unread S.Goto = ⊥
Unread S.Include = Unit {0}
Unread S.Activate = Unit {0}
Unread S.Deactivate = Unit {0}
Unread S.Return = ⊥

unread_stated : (s : List ℕ) (c : ℕ) (st : P.Statement) → Unread (kind_of st) → Stated s c st
unread_stated s c P.null h = tt
unread_stated s c (P.declare ns) h = tt
unread_stated s c (P.procedure ns v) h = absurd h
unread_stated s c (P.assign n x) h = absurd h
unread_stated s c (P.conditional x) h = absurd h
unread_stated s c P.group h = tt
unread_stated s c (P.iterated n x bs) h = absurd h
unread_stated s c (P.goto n) h = absurd h
unread_stated s c (P.include ns) h = tt
unread_stated s c (P.activate xs) h = tt
unread_stated s c (P.deactivate ns) h = tt
unread_stated s c (P.return x) h = absurd h

-- THE STATEMENT of a kind that is read again at a place
pub stated_again : (s : List ℕ) (k : Statement) (c : ℕ) (st : P.Statement) → statement_at s k c ≡ st → k ≡ kind_of st → Stated s c st
unfolding statement_at
stated_again s S.Null c st e f = unread_stated s c st (subst (λ (k : Statement). Unread k) f tt)
stated_again s S.Declare c st e f = unread_stated s c st (subst (λ (k : Statement). Unread k) f tt)
stated_again s S.Procedure c st e f = subst (λ (x : P.Statement). Stated s c x) e (procedure_so s c (P.inside 0))
stated_again s S.Assign c st e f = subst (λ (x : P.Statement). Stated s c x) e (assign_so s c)
stated_again s S.Conditional c st e f = subst (λ (x : P.Statement). Stated s c x) e (condition_so s c)
stated_again s S.Group c st e f = unread_stated s c st (subst (λ (k : Statement). Unread k) f tt)
stated_again s S.Iterated c st e f = subst (λ (x : P.Statement). Stated s c x) e (do_so s c)
stated_again s S.Goto c st e f = subst (λ (x : P.Statement). Stated s c x) e (goto_so s c)
stated_again s S.Include c st e f = unread_stated s c st (subst (λ (k : Statement). Unread k) f tt)
stated_again s S.Activate c st e f = unread_stated s c st (subst (λ (k : Statement). Unread k) f tt)
stated_again s S.Deactivate c st e f = unread_stated s c st (subst (λ (k : Statement). Unread k) f tt)
stated_again s S.Return c st e f = subst (λ (x : P.Statement). Stated s c x) e (return_so s c)
