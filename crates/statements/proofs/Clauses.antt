-- The clauses that declare nothing: what the answers say, one after the other, is the clause that the definition reads.
-- Assumes nothing.
use Rattle.statements.specs.Types.{Read}
use Rattle.expressions.specs.Types.{Expected}
use mathlib.Core.Path.{◌≡◌, refl, sym, ◌∙◌}
use mathlib.Core.Bool.{Bool, true, false, cond, ◌||◌}
use mathlib.Core.Logic.{◌⊎◌, inl, inr}
use mathlib.Core.List.{List, [], ◌∷◌, ◌++◌}
use Prim.Native.Nat.{ℕ, zero, suc}
use Prim.Native.String as Str
use native.Mathlib.Omega.{arith}
use lib.ListN.{length}
use Rattle.definition.specs.Bytes.{mixed}
use Rattle.definition.specs.Choice.{when}
use Rattle.definition.specs.Text.{bytes_of}
use Rattle.definition.specs.Tokens.{is_sign, is_word, token_at}
use Rattle.definition.specs.Expressions.{Reading, read, refused, then, Tree, Parsed, expect_sign, expect_word, Named, name_at, whole_expression}
use Rattle.definition.specs.Deck.{Sought, bare, in_library}
use Rattle.definition.specs.Program as P
use Rattle.definition.specs.Statements as D
use Rattle.definition.specs.declared.ValueType.{ValueType}
use Rattle.definition.specs.declared.ValueType.TheVariants.{FixedType, CharacterType}
use Rattle.definition.specs.declared.Why.{Why}
use Rattle.definition.specs.declared.Why.TheVariants.{Syntax}
use Rattle.tokens.specs.declared.Lexeme.{Lexeme}
use Rattle.tokens.specs.Answer.{Lexed, is_sign_in, is_word_in}
use Rattle.expressions.specs.Check.{expect_for, expected, is_worded, expected_word, end_for}
use Rattle.expressions.proofs.Laws.{told}
use Rattle.expressions.proofs.Reading.{expected_is, expected_word_is}
use Rattle.rows.specs.declared.Statement.{Statement}
use Rattle.rows.specs.declared.Statement.TheVariants as S
use Rattle.entering.specs.declared.Meaning.{Meaning}
use Rattle.statements.specs.declared.Each.TheVariants as Ea
use Rattle.statements.specs.declared.Opens.TheVariants as O
use Rattle.statements.specs.declared.Keyword.{Keyword}
use Rattle.statements.specs.declared.Keyword.TheVariants as K
use Rattle.std.specs.Prelude.{Some, None, Ok, Err}
use Rattle.std.specs.declared.option.Option.{Option}
use Rattle.statements.specs.Clauses.{opens_for, clause_of, read_for, read_up_to, then_sign, then_word, then_expression, bound_past, bounds_past, name_end, rescan_past, rescanned, member_past, item_past, list_next, list_end, names_end, go_clause, do_kind, plain_for, item_of, item_in, attribute_by, worded, Part, itemized, type_from, head_up_to, head_from}
use Rattle.statements.proofs.Laws.{up_refused, sign_refused, word_refused, word_in, sign_in_lem, sign_spelled, word_spelled}

-- ---- the end of a clause
up_to_is : (k : Statement) (o : D.Opens) (c : ℕ) (x : P.Statement) (Q : Reading ℕ) → read_up_to k (opens_for o) c (expect_for Q) ≡ read_for k c FixedType (then Q λ e. read (D.clause x o e))
unfolding read_up_to read_for
up_to_is k o c x (read e) = refl
up_to_is k o c x (refused w p) = refl

module _ (k : Statement) (c : ℕ) (s : List ℕ) where
  pub ended_is : (x : P.Statement) (at : ℕ) → read_up_to k O.Nothing c (expected (59 ∷ []) s at) ≡ read_for k c FixedType (D.ended mixed s x at)
  unfolding D.ended
  ended_is x at = rw (expected_is ";" (59 ∷ []) refl s at) (up_to_is k D.opens_nothing c x (expect_sign mixed ";" s at))

  -- ---- assignment
  assign_by : (w : List ℕ) (R : Reading Parsed) → read_up_to k O.Nothing c (then_sign (59 ∷ []) s (end_for R)) ≡ read_for k c FixedType (then R λ r. D.ended mixed s (P.assign w r.tree) r.to)
  unfolding then_sign end_for read_up_to read_for
  assign_by w (read r) = ended_is (P.assign w r.tree) r.to
  assign_by w (refused v p) = refl

pub assigns : (s : List ℕ) (c at : ℕ) (x y : Expected) (r : Read) → x ≡ end_for (whole_expression mixed s at) → y ≡ then_sign (59 ∷ []) s x → r ≡ read_up_to S.Assign O.Nothing c y → r ≡ read_for S.Assign c FixedType (D.assignment mixed s [] at)
unfolding D.assignment
assigns s c at x y r e f g = rw (g, f, e) (assign_by S.Assign c s [] (whole_expression mixed s at))

-- ---- IF
module _ (s : List ℕ) (c : ℕ) where
  then_by : (x : P.Statement) (at : ℕ) → read_up_to S.Conditional O.Then c (expected_word (84 ∷ 72 ∷ 69 ∷ 78 ∷ []) s at) ≡ read_for S.Conditional c FixedType (then (expect_word mixed "THEN" s at) λ e. read (D.clause x D.opens_then e))
  then_by x at = rw (expected_word_is "THEN" (84 ∷ 72 ∷ 69 ∷ 78 ∷ []) refl s at) (up_to_is S.Conditional D.opens_then c x (expect_word mixed "THEN" s at))

  percent_by : (x : P.Statement) (Q : Reading ℕ) → read_up_to S.Conditional O.Then c (then_word (84 ∷ 72 ∷ 69 ∷ 78 ∷ []) s (expect_for Q)) ≡ read_for S.Conditional c FixedType (then (then Q λ e. expect_word mixed "THEN" s e) λ e. read (D.clause x D.opens_then e))
  unfolding then_word read_up_to read_for
  percent_by x (read e) = then_by x e
  percent_by x (refused w p) = refl

  if_body : (R : Reading Parsed) → read_up_to S.Conditional O.Then c (then_word (84 ∷ 72 ∷ 69 ∷ 78 ∷ []) s (end_for R)) ≡ read_for S.Conditional c FixedType (then R λ r. then (D.then_word mixed true s r.to) λ e. read (D.clause (P.conditional r.tree) D.opens_then e))
  unfolding then_word end_for read_up_to read_for D.then_word
  if_body (read r) = then_by (P.conditional r.tree) r.to
  if_body (refused w p) = refl

  percent_at_lem : (x : P.Statement) (at : ℕ) → read_up_to S.Conditional O.Then c (then_word (84 ∷ 72 ∷ 69 ∷ 78 ∷ []) s (expected (37 ∷ []) s at)) ≡ read_for S.Conditional c FixedType (then (D.then_word mixed false s at) λ e. read (D.clause x D.opens_then e))
  unfolding D.then_word
  percent_at_lem x at = rw (expected_is "%" (37 ∷ []) refl s at) (percent_by x (expect_sign mixed "%" s at))

  if_outside : (R : Reading Parsed) → read_up_to S.Conditional O.Then c (then_word (84 ∷ 72 ∷ 69 ∷ 78 ∷ []) s (then_sign (37 ∷ []) s (end_for R))) ≡ read_for S.Conditional c FixedType (then R λ r. then (D.then_word mixed false s r.to) λ e. read (D.clause (P.conditional r.tree) D.opens_then e))
  unfolding then_word then_sign end_for read_up_to read_for
  if_outside (read r) = percent_at_lem (P.conditional r.tree) r.to
  if_outside (refused w p) = refl

  pub if_inside : (b : Bool) (x y : Expected) (r : Read) → b ≡ true → x ≡ end_for (whole_expression mixed s c) → y ≡ then_word (84 ∷ 72 ∷ 69 ∷ 78 ∷ []) s x → r ≡ read_up_to S.Conditional O.Then c y → r ≡ read_for S.Conditional c FixedType (D.if_clause mixed b s c)
  unfolding D.if_clause
  if_inside b x y r d e f g = rw (g, f, e, d) (if_body (whole_expression mixed s c))

  pub if_out : (b : Bool) (x z y : Expected) (r : Read) → b ≡ false → x ≡ end_for (whole_expression mixed s c) → z ≡ then_sign (37 ∷ []) s x → y ≡ then_word (84 ∷ 72 ∷ 69 ∷ 78 ∷ []) s z → r ≡ read_up_to S.Conditional O.Then c y → r ≡ read_for S.Conditional c FixedType (D.if_clause mixed b s c)
  unfolding D.if_clause
  if_out b x z y r d e f h g = rw (g, h, f, e, d) (if_outside (whole_expression mixed s c))

  pub if_wrong : (b : Bool) (d : Why × ℕ) → Err d ≡ end_for (whole_expression mixed s c) → Err d ≡ read_for S.Conditional c FixedType (D.if_clause mixed b s c)
  if_wrong true d h = if_inside true (Err d) (Err d) (Err d) refl h (word_refused s (Err d) _ d refl) (up_refused _ _ _ (Err d) d refl)
  if_wrong false d h = if_out false (Err d) (Err d) (Err d) (Err d) refl h (sign_refused s (Err d) _ d refl) (word_refused s (Err d) _ d refl) (up_refused _ _ _ (Err d) d refl)

-- ---- GOTO
module _ (s : List ℕ) (c : ℕ) where
  goto_by : (N : Reading Named) → read_up_to S.Goto O.Nothing c (then_sign (59 ∷ []) s (name_end N)) ≡ read_for S.Goto c FixedType (then N λ n. D.ended mixed s (P.goto n.spelling) n.to)
  unfolding then_sign name_end read_up_to read_for
  goto_by (read n) = ended_is S.Goto c s (P.goto n.spelling) n.to
  goto_by (refused w p) = refl

  pub goes : (x y : Expected) (r : Read) → x ≡ name_end (name_at mixed s c) → y ≡ then_sign (59 ∷ []) s x → r ≡ read_up_to S.Goto O.Nothing c y → r ≡ read_for S.Goto c FixedType (D.goto_clause mixed s c)
  unfolding D.goto_clause
  goes x y r e f g = rw (g, f, e) (goto_by (name_at mixed s c))

  go_past : (b : Bool) (to from q : ℕ) (r : Read) → cond {A = Expected} b (Ok to) (Err (Syntax, from)) ≡ Ok q → r ≡ read_for S.Goto q FixedType (D.goto_clause mixed s q) → r ≡ read_for S.Goto to FixedType (then (cond b (read to) (refused Syntax from)) (D.goto_clause mixed s))
  go_past true to from q r e f = let z : to ≡ q = cc in rw z f
  go_past false to from q r e f = let z : ◌≡◌ {A = ℕ} 0 1 = cc in absurd (omega arith)

  go_none : (b : Bool) (to from : ℕ) (d : Why × ℕ) → cond {A = Expected} b (Ok to) (Err (Syntax, from)) ≡ Err d → Err d ≡ read_for S.Goto to FixedType (then (cond b (read to) (refused Syntax from)) (D.goto_clause mixed s))
  unfolding read_for
  go_none true to from d e = let z : ◌≡◌ {A = ℕ} 0 1 = cc in absurd (omega arith)
  go_none false to from d e = cc

  module _ (x : Expected) (h : x ≡ expected_word (84 ∷ 79 ∷ []) s c) where
    to_is : x ≡ cond (is_word "TO" (token_at mixed s c).token) (Ok (token_at mixed s c).to) (Err (Syntax, (token_at mixed s c).from))
    unfolding expected_word
    to_is = rw (word_spelled "TO" (84 ∷ 79 ∷ []) refl (token_at mixed s c).token) at h

    pub go_to : (q : ℕ) (r : Read) → x ≡ Ok q → r ≡ read_for S.Goto q FixedType (D.goto_clause mixed s q) → r ≡ read_for S.Goto (token_at mixed s c).to FixedType (go_clause s c)
    unfolding go_clause expect_word
    go_to q r e f = go_past (is_word "TO" (token_at mixed s c).token) (token_at mixed s c).to (token_at mixed s c).from q r (sym to_is ∙ e) f

    pub go_refused : (d : Why × ℕ) → x ≡ Err d → Err d ≡ read_for S.Goto (token_at mixed s c).to FixedType (go_clause s c)
    unfolding go_clause expect_word
    go_refused d e = go_none (is_word "TO" (token_at mixed s c).token) (token_at mixed s c).to (token_at mixed s c).from d (sym to_is ∙ e)

-- ---- RETURN
module _ (s : List ℕ) (c : ℕ) where
  close_by : (t : Tree) (Q : Reading ℕ) → read_up_to S.Return O.Nothing c (then_sign (59 ∷ []) s (expect_for Q)) ≡ read_for S.Return c FixedType (then Q λ q. D.ended mixed s (P.return t) q)
  unfolding then_sign read_up_to read_for
  close_by t (read e) = ended_is S.Return c s (P.return t) e
  close_by t (refused w p) = refl

  close_at : (t : Tree) (at : ℕ) → read_up_to S.Return O.Nothing c (then_sign (59 ∷ []) s (expected (41 ∷ []) s at)) ≡ read_for S.Return c FixedType (then (expect_sign mixed ")" s at) λ q. D.ended mixed s (P.return t) q)
  close_at t at = rw (expected_is ")" (41 ∷ []) refl s at) (close_by t (expect_sign mixed ")" s at))

  value_by : (R : Reading Parsed) → read_up_to S.Return O.Nothing c (then_sign (59 ∷ []) s (then_sign (41 ∷ []) s (end_for R))) ≡ read_for S.Return c FixedType (then R λ r. then (expect_sign mixed ")" s r.to) λ q. D.ended mixed s (P.return r.tree) q)
  unfolding then_sign end_for read_up_to read_for
  value_by (read r) = close_at r.tree r.to
  value_by (refused w p) = refl

  open_by : (Q : Reading ℕ) → read_up_to S.Return O.Nothing c (then_sign (59 ∷ []) s (then_sign (41 ∷ []) s (then_expression s (expect_for Q)))) ≡ read_for S.Return c FixedType (then Q λ e. then (whole_expression mixed s e) λ r. then (expect_sign mixed ")" s r.to) λ q. D.ended mixed s (P.return r.tree) q)
  unfolding then_sign then_expression read_up_to read_for
  open_by (read e) = value_by (whole_expression mixed s e)
  open_by (refused w p) = refl

  pub returns_value : (x y z u : Expected) (r : Read) → x ≡ expected (40 ∷ []) s c → y ≡ then_expression s x → z ≡ then_sign (41 ∷ []) s y → u ≡ then_sign (59 ∷ []) s z → r ≡ read_up_to S.Return O.Nothing c u → r ≡ read_for S.Return c FixedType (D.return_clause mixed s c)
  unfolding D.return_clause
  returns_value x y z u r e f g h i = rw (i, h, g, f, e, expected_is "(" (40 ∷ []) refl s c) (open_by (expect_sign mixed "(" s c))

-- ---- DO
module _ (s : List ℕ) (c : ℕ) where
  group_by : (x : P.Statement) (at : ℕ) → read_up_to S.Iterated O.Group c (expected (59 ∷ []) s at) ≡ read_for S.Iterated c FixedType (then (expect_sign mixed ";" s at) λ q. read (D.clause x D.opens_group q))
  group_by x at = rw (expected_is ";" (59 ∷ []) refl s at) (up_to_is S.Iterated D.opens_group c x (expect_sign mixed ";" s at))

  -- what stands behind a bound that is there, or that is not
  module _ (h : Expected → Read) (strict : (w : Why) (p : ℕ) → h (Err (w, p)) ≡ Err (w, p)) where
    tree_by : (F : Parsed → Reading D.Clause) → ((r : Parsed) → h (Ok r.to) ≡ read_for S.Iterated c FixedType (F r)) → (R : Reading Parsed) → h (end_for R) ≡ read_for S.Iterated c FixedType (then R F)
    unfolding end_for read_for
    tree_by F k (read r) = k r
    tree_by F k (refused w p) = strict w p

    bound_by : (mk : Tree → P.Bound) (bs : List P.Bound) (q : ℕ) (found : List P.Bound → ℕ → Reading D.Clause) (absent : Unit {0} → Reading D.Clause) (b : Bool)
        → ((cs : List P.Bound) (e : ℕ) → h (Ok e) ≡ read_for S.Iterated c FixedType (found cs e))
        → (b ≡ false → h (Ok q) ≡ read_for S.Iterated c FixedType (absent tt))
        → h (cond b (end_for (whole_expression mixed s (token_at mixed s q).to)) (Ok q)) ≡ read_for S.Iterated c FixedType (when b (λ _. then (whole_expression mixed s (token_at mixed s q).to) λ r. found (bs ++ mk r.tree ∷ []) r.to) absent)
    bound_by mk bs q found absent true k l = tree_by (λ r. found (bs ++ mk r.tree ∷ []) r.to) (λ r. k (bs ++ mk r.tree ∷ []) r.to) (whole_expression mixed s (token_at mixed s q).to)
    bound_by mk bs q found absent false k l = l refl

    bound_is : (W : Str.String) (w : List ℕ) → bytes_of W ≡ w → (mk : Tree → P.Bound) (bs : List P.Bound) (q : ℕ) (found : List P.Bound → ℕ → Reading D.Clause) (absent : Unit {0} → Reading D.Clause)
        → ((cs : List P.Bound) (e : ℕ) → h (Ok e) ≡ read_for S.Iterated c FixedType (found cs e))
        → (is_word W (token_at mixed s q).token ≡ false → h (Ok q) ≡ read_for S.Iterated c FixedType (absent tt))
        → h (bound_past w s (Ok q)) ≡ read_for S.Iterated c FixedType (D.bound_at mixed W mk s bs q found absent)
    unfolding bound_past D.bound_at
    bound_is W w e mk bs q found absent k l = rw (word_spelled W w e (token_at mixed s q).token) (bound_by mk bs q found absent (is_word W (token_at mixed s q).token) k l)

  module _ (make : List P.Bound → P.Statement) where
    abbrev finish : List P.Bound → ℕ → Reading D.Clause
    finish bs e = then (expect_sign mixed ";" s e) λ q. read (D.clause (make bs) D.opens_group q)

    abbrev last : Expected → Read
    last e = read_up_to S.Iterated O.Group c (then_sign (59 ∷ []) s e)

    last_strict : (w : Why) (p : ℕ) → last (Err (w, p)) ≡ Err (w, p)
    unfolding read_up_to then_sign
    last_strict w p = refl

    last_finish : (bs : List P.Bound) (e : ℕ) → last (Ok e) ≡ read_for S.Iterated c FixedType (finish bs e)
    unfolding then_sign
    last_finish bs e = group_by (make bs) e

    to_last : (bs : List P.Bound) (e : ℕ) → last (bound_past (84 ∷ 79 ∷ []) s (Ok e)) ≡ read_for S.Iterated c FixedType (D.bound_at mixed "TO" P.upto s bs e finish (λ _. finish bs e))
    to_last bs e = bound_is last last_strict "TO" (84 ∷ 79 ∷ []) refl P.upto bs e finish (λ _. finish bs e) last_finish (λ _. last_finish bs e)

    by_last : (bs : List P.Bound) (e : ℕ) → last (bound_past (66 ∷ 89 ∷ []) s (Ok e)) ≡ read_for S.Iterated c FixedType (D.bound_at mixed "BY" P.by s bs e finish (λ _. finish bs e))
    by_last bs e = bound_is last last_strict "BY" (66 ∷ 89 ∷ []) refl P.by bs e finish (λ _. finish bs e) last_finish (λ _. last_finish bs e)

    abbrev then_by_word : Expected → Read
    then_by_word e = last (bound_past (66 ∷ 89 ∷ []) s e)

    by_strict : (w : Why) (p : ℕ) → then_by_word (Err (w, p)) ≡ Err (w, p)
    unfolding read_up_to then_sign bound_past
    by_strict w p = refl

    no_by : (q : ℕ) → is_word "BY" (token_at mixed s q).token ≡ false → then_by_word (Ok q) ≡ read_for S.Iterated c FixedType (finish [] q)
    unfolding bound_past
    no_by q e = rw (word_spelled "BY" (66 ∷ 89 ∷ []) refl (token_at mixed s q).token, e) (last_finish [] q)

    to_strict : (w : Why) (p : ℕ) → last (bound_past (84 ∷ 79 ∷ []) s (Err (w, p))) ≡ Err (w, p)
    unfolding read_up_to then_sign bound_past
    to_strict w p = refl

    bounds_cases : (q : ℕ) (b : Bool) → is_word "BY" (token_at mixed s q).token ≡ b
        → last (cond b (bound_past (84 ∷ 79 ∷ []) s (end_for (whole_expression mixed s (token_at mixed s q).to))) (bound_past (66 ∷ 89 ∷ []) s (bound_past (84 ∷ 79 ∷ []) s (Ok q))))
        ≡ read_for S.Iterated c FixedType (when b (λ _. then (whole_expression mixed s (token_at mixed s q).to) λ r. D.bound_at mixed "TO" P.upto s ([] ++ P.by r.tree ∷ []) r.to finish (λ _. finish ([] ++ P.by r.tree ∷ []) r.to))
        (λ _. D.bound_at mixed "TO" P.upto s [] q (λ bs e. D.bound_at mixed "BY" P.by s bs e finish (λ _. finish bs e)) (λ _. finish [] q)))
    bounds_cases q true e = tree_by (λ x. last (bound_past (84 ∷ 79 ∷ []) s x)) to_strict (λ r. D.bound_at mixed "TO" P.upto s ([] ++ P.by r.tree ∷ []) r.to finish (λ _. finish ([] ++ P.by r.tree ∷ []) r.to)) (λ r. to_last ([] ++ P.by r.tree ∷ []) r.to) (whole_expression mixed s (token_at mixed s q).to)
    bounds_cases q false e = bound_is then_by_word by_strict "TO" (84 ∷ 79 ∷ []) refl P.upto [] q (λ bs e. D.bound_at mixed "BY" P.by s bs e finish (λ _. finish bs e)) (λ _. finish [] q) by_last (λ _. no_by q e)

    bounds_is : (q : ℕ) → last (bounds_past s (Ok q)) ≡ read_for S.Iterated c FixedType (D.do_bounds mixed s make q)
    unfolding bounds_past D.do_bounds D.bound_at
    bounds_is q = rw (word_spelled "BY" (66 ∷ 89 ∷ []) refl (token_at mixed s q).token) (bounds_cases q (is_word "BY" (token_at mixed s q).token) refl)

  abbrev behind_all : Expected → Read
  behind_all e = read_up_to S.Iterated O.Group c (then_sign (59 ∷ []) s (bounds_past s e))

  all_strict : (y : Why) (p : ℕ) → behind_all (Err (y, p)) ≡ Err (y, p)
  unfolding read_up_to then_sign bounds_past
  all_strict y p = refl

  value_bounds : (w : List ℕ) (R : Reading Parsed) → behind_all (end_for R) ≡ read_for S.Iterated c FixedType (then R λ r. D.do_bounds mixed s (P.iterated w r.tree) r.to)
  unfolding end_for read_for
  value_bounds w (read r) = bounds_is (P.iterated w r.tree) r.to
  value_bounds w (refused y p) = all_strict y p

  sign_bounds : (w : List ℕ) (Q : Reading ℕ) → behind_all (then_expression s (expect_for Q)) ≡ read_for S.Iterated c FixedType (then Q λ e. then (whole_expression mixed s e) λ r. D.do_bounds mixed s (P.iterated w r.tree) r.to)
  unfolding then_expression read_for
  sign_bounds w (read e) = value_bounds w (whole_expression mixed s e)
  sign_bounds w (refused y p) = all_strict y p

  equals_bounds : (w : List ℕ) (at : ℕ) → behind_all (then_expression s (expected (61 ∷ []) s at)) ≡ read_for S.Iterated c FixedType (then (expect_sign mixed "=" s at) λ e. then (whole_expression mixed s e) λ r. D.do_bounds mixed s (P.iterated w r.tree) r.to)
  equals_bounds w at = rw (expected_is "=" (61 ∷ []) refl s at) (sign_bounds w (expect_sign mixed "=" s at))

  name_bounds : (N : Reading Named) → behind_all (then_expression s (then_sign (61 ∷ []) s (name_end N))) ≡ read_for S.Iterated c FixedType (then N λ n. then (expect_sign mixed "=" s n.to) λ e. then (whole_expression mixed s e) λ r. D.do_bounds mixed s (P.iterated n.spelling r.tree) r.to)
  unfolding then_sign name_end then_expression read_for
  name_bounds (read n) = equals_bounds n.spelling n.to
  name_bounds (refused y p) = all_strict y p

  pub do_iterated : (l : Lexeme) → Lexed s c l → (v : Bool) → v ≡ is_sign_in s l (59 ∷ []) → v ≡ false → (x y z u t : Expected) (r : Read)
      → x ≡ name_end (name_at mixed s c) → y ≡ then_sign (61 ∷ []) s x → z ≡ then_expression s y → u ≡ bounds_past s z → t ≡ then_sign (59 ∷ []) s u → r ≡ read_up_to S.Iterated O.Group c t → r ≡ read_for (do_kind s c) c FixedType (D.do_clause mixed s c)
  unfolding D.do_clause do_kind
  do_iterated l lex v a b x y z u t r e f g h i j = rw (told s c l lex ";" (59 ∷ []) v false refl a b, j, i, h, g, f, e) (name_bounds (name_at mixed s c))

  pub do_group : (l : Lexeme) → Lexed s c l → (v : Bool) → v ≡ is_sign_in s l (59 ∷ []) → v ≡ true → (r : Read) → r ≡ read_up_to S.Group O.Group c (Ok l.to) → r ≡ read_for (do_kind s c) c FixedType (D.do_clause mixed s c)
  unfolding D.do_clause do_kind read_up_to read_for
  do_group l lex v a b r e = rw (told s c l lex ";" (59 ∷ []) v true refl a b, ← lex.to) e

-- ---- lists of names
module _ (k : Statement) (c : ℕ) (s : List ℕ) where
  comma_by : (more : ℕ → Reading D.Clause) (again : ℕ → Expected) (x : P.Statement) (e : ℕ) (b : Bool)
      → ((q : ℕ) → read_up_to k O.Nothing c (again q) ≡ read_for k c FixedType (more q))
      → read_up_to k O.Nothing c (when b (λ _. again (token_at mixed s e).to) (λ _. expected (59 ∷ []) s e)) ≡ read_for k c FixedType (when b (λ _. more (token_at mixed s e).to) (λ _. D.ended mixed s x e))
  comma_by more again x e true h = h (token_at mixed s e).to
  comma_by more again x e false h = ended_is k c s x e

  next_by : (more : ℕ → Reading D.Clause) (again : ℕ → Expected) (x : P.Statement) (e : ℕ)
      → ((q : ℕ) → read_up_to k O.Nothing c (again q) ≡ read_for k c FixedType (more q))
      → read_up_to k O.Nothing c (list_next (59 ∷ []) s (Ok e) again) ≡ read_for k c FixedType (when (is_sign "," (token_at mixed s e).token) (λ _. more (token_at mixed s e).to) (λ _. D.ended mixed s x e))
  next_by more again x e h = rw (sign_spelled "," (44 ∷ []) refl (token_at mixed s e).token) (comma_by more again x e (is_sign "," (token_at mixed s e).token) h)

-- behind an item x of a list
abbrev after : {A : Type 0} → List ℕ → (List A → P.Statement) → List A → (List A → ℕ → Reading D.Clause) → A → ℕ → Reading D.Clause
after s make xs more x e = when (is_sign "," (token_at mixed s e).token) (λ _. more (xs ++ x ∷ []) (token_at mixed s e).to) (λ _. D.ended mixed s (make (xs ++ x ∷ [])) e)

module _ {A : Type 0} (k : Statement) (c : ℕ) (s : List ℕ) (make : List A → P.Statement) (xs : List A) (again : ℕ → Expected) (more : List A → ℕ → Reading D.Clause) (h : (ys : List A) (q : ℕ) → read_up_to k O.Nothing c (again q) ≡ read_for k c FixedType (more ys q)) where
  after_is : (x : A) (e : ℕ) → read_up_to k O.Nothing c (list_next (59 ∷ []) s (Ok e) again) ≡ read_for k c FixedType (after s make xs more x e)
  after_is x e = next_by k c s (more (xs ++ x ∷ [])) again (make (xs ++ x ∷ [])) e (h (xs ++ x ∷ []))

-- DEACTIVATE
module _ (k : Statement) (c : ℕ) (s : List ℕ) (make : List (List ℕ) → P.Statement) where
  name_next : (xs : List (List ℕ)) (again : ℕ → Expected) (more : List (List ℕ) → ℕ → Reading D.Clause) → ((ys : List (List ℕ)) (q : ℕ) → read_up_to k O.Nothing c (again q) ≡ read_for k c FixedType (more ys q)) → (N : Reading Named)
      → read_up_to k O.Nothing c (list_next (59 ∷ []) s (name_end N) again) ≡ read_for k c FixedType (then N λ n. after s make xs more n.spelling n.to)
  unfolding name_end read_up_to read_for
  name_next xs again more h (read n) = after_is k c s make xs again more h n.spelling n.to
  name_next xs again more h (refused w p) = refl

  pub list_is : (f : ℕ) (xs : List (List ℕ)) (at : ℕ) → read_up_to k O.Nothing c (names_end (59 ∷ []) s f at) ≡ read_for k c FixedType (D.list_of mixed (D.each_name mixed) make s f xs at)
  unfolding list_end D.list_of item_past read_up_to read_for
  list_is zero xs at = refl
  list_is (suc f) xs at = name_next xs (names_end (59 ∷ []) s f) (λ ys q. D.list_of mixed (D.each_name mixed) make s f ys q) (λ ys q. list_is f ys q) (name_at mixed s at)

-- ACTIVATE
module _ (c : ℕ) (s : List ℕ) (xs : List P.Activation) (again : ℕ → Expected) (more : List P.Activation → ℕ → Reading D.Clause) (h : (ys : List P.Activation) (q : ℕ) → read_up_to S.Activate O.Nothing c (again q) ≡ read_for S.Activate c FixedType (more ys q)) where
  abbrev activated : List ℕ → Bool → ℕ → Reading D.Clause
  activated w b e = after s P.activate xs more (record { spelling = w; is_copied = b }) e

  activated_is : (w : List ℕ) (b : Bool) (e : ℕ) → read_up_to S.Activate O.Nothing c (list_next (59 ∷ []) s (Ok e) again) ≡ read_for S.Activate c FixedType (activated w b e)
  activated_is w b e = after_is S.Activate c s P.activate xs again more h (record { spelling = w; is_copied = b }) e

  rescan_by : (w : List ℕ) (e : ℕ) (a b : Bool)
      → read_up_to S.Activate O.Nothing c (list_next (59 ∷ []) s (Ok (cond (a || b) (token_at mixed s e).to e)) again)
      ≡ read_for S.Activate c FixedType (when a (λ _. activated w true (token_at mixed s e).to) (λ _. when b (λ _. activated w false (token_at mixed s e).to) (λ _. activated w false e)))
  rescan_by w e true b = activated_is w true (token_at mixed s e).to
  rescan_by w e false true = activated_is w false (token_at mixed s e).to
  rescan_by w e false false = activated_is w false e

  activation_next : (N : Reading Named)
      → read_up_to S.Activate O.Nothing c (list_next (59 ∷ []) s (rescanned s (name_end N)) again)
      ≡ read_for S.Activate c FixedType (then N λ n. when (is_word "NORESCAN" (token_at mixed s n.to).token) (λ _. activated n.spelling true (token_at mixed s n.to).to) (λ _. when (is_word "RESCAN" (token_at mixed s n.to).token) (λ _. activated n.spelling false (token_at mixed s n.to).to) (λ _. activated n.spelling false n.to)))
  unfolding name_end read_up_to read_for rescan_past
  activation_next (read n) = rw (word_spelled "NORESCAN" (78 ∷ 79 ∷ 82 ∷ 69 ∷ 83 ∷ 67 ∷ 65 ∷ 78 ∷ []) refl (token_at mixed s n.to).token, word_spelled "RESCAN" (82 ∷ 69 ∷ 83 ∷ 67 ∷ 65 ∷ 78 ∷ []) refl (token_at mixed s n.to).token) (rescan_by n.spelling n.to (is_word "NORESCAN" (token_at mixed s n.to).token) (is_word "RESCAN" (token_at mixed s n.to).token))
  activation_next (refused w p) = refl

pub activations_are : (c : ℕ) (s : List ℕ) (f : ℕ) (xs : List P.Activation) (at : ℕ) → read_up_to S.Activate O.Nothing c (list_end (59 ∷ []) Ea.Activation s f at) ≡ read_for S.Activate c FixedType (D.list_of mixed (D.each_activation mixed) P.activate s f xs at)
unfolding list_end D.list_of item_past read_up_to read_for
activations_are c s zero xs at = refl
activations_are c s (suc f) xs at = activation_next c s xs (list_end (59 ∷ []) Ea.Activation s f) (λ ys q. D.list_of mixed (D.each_activation mixed) P.activate s f ys q) (λ ys q. activations_are c s f ys q) (name_at mixed s at)

-- INCLUDE
module _ (c : ℕ) (s : List ℕ) (xs : List Sought) (again : ℕ → Expected) (more : List Sought → ℕ → Reading D.Clause) (h : (ys : List Sought) (q : ℕ) → read_up_to S.Include O.Nothing c (again q) ≡ read_for S.Include c FixedType (more ys q)) where
  abbrev included : Sought → ℕ → Reading D.Clause
  included x e = after s P.include xs more x e

  included_is : (x : Sought) (e : ℕ) → read_up_to S.Include O.Nothing c (list_next (59 ∷ []) s (Ok e) again) ≡ read_for S.Include c FixedType (included x e)
  included_is x e = after_is S.Include c s P.include xs again more h x e

  close_member : (x : Sought) (Q : Reading ℕ) → read_up_to S.Include O.Nothing c (list_next (59 ∷ []) s (expect_for Q) again) ≡ read_for S.Include c FixedType (then Q λ e. included x e)
  unfolding read_up_to read_for
  close_member x (read e) = included_is x e
  close_member x (refused w p) = refl

  close_member_at : (x : Sought) (at : ℕ) → read_up_to S.Include O.Nothing c (list_next (59 ∷ []) s (expected (41 ∷ []) s at) again) ≡ read_for S.Include c FixedType (then (expect_sign mixed ")" s at) λ e. included x e)
  close_member_at x at = rw (expected_is ")" (41 ∷ []) refl s at) (close_member x (expect_sign mixed ")" s at))

  open_member : (l : List ℕ) (M : Reading Named) → read_up_to S.Include O.Nothing c (list_next (59 ∷ []) s (then_sign (41 ∷ []) s (name_end M)) again)
      ≡ read_for S.Include c FixedType (then M λ m. then (expect_sign mixed ")" s m.to) λ e. included (in_library l m.spelling) e)
  unfolding then_sign name_end read_up_to read_for
  open_member l (read m) = close_member_at (in_library l m.spelling) m.to
  open_member l (refused w p) = refl

  library_by : (w : List ℕ) (e : ℕ) (b : Bool)
      → read_up_to S.Include O.Nothing c (list_next (59 ∷ []) s (cond b (then_sign (41 ∷ []) s (name_end (name_at mixed s (token_at mixed s e).to))) (Ok e)) again)
      ≡ read_for S.Include c FixedType (when b (λ _. then (name_at mixed s (token_at mixed s e).to) λ m. then (expect_sign mixed ")" s m.to) λ q. included (in_library w m.spelling) q) (λ _. included (bare w) e))
  library_by w e true = open_member w (name_at mixed s (token_at mixed s e).to)
  library_by w e false = included_is (bare w) e

  member_next : (N : Reading Named)
      → read_up_to S.Include O.Nothing c (list_next (59 ∷ []) s (member_past s (name_end N)) again)
      ≡ read_for S.Include c FixedType (then N λ n. when (is_sign "(" (token_at mixed s n.to).token) (λ _. then (name_at mixed s (token_at mixed s n.to).to) λ m. then (expect_sign mixed ")" s m.to) λ e. included (in_library n.spelling m.spelling) e) (λ _. included (bare n.spelling) n.to))
  unfolding name_end member_past read_up_to read_for
  member_next (read n) = rw (sign_spelled "(" (40 ∷ []) refl (token_at mixed s n.to).token) (library_by n.spelling n.to (is_sign "(" (token_at mixed s n.to).token))
  member_next (refused w p) = refl

pub members_are : (c : ℕ) (s : List ℕ) (f : ℕ) (xs : List Sought) (at : ℕ) → read_up_to S.Include O.Nothing c (list_end (59 ∷ []) Ea.Member s f at) ≡ read_for S.Include c FixedType (D.list_of mixed (D.each_member mixed) P.include s f xs at)
unfolding list_end D.list_of item_past read_up_to read_for
members_are c s zero xs at = refl
members_are c s (suc f) xs at = member_next c s xs (list_end (59 ∷ []) Ea.Member s f) (λ ys q. D.list_of mixed (D.each_member mixed) P.include s f ys q) (λ ys q. members_are c s f ys q) (name_at mixed s at)

-- ---- by the word
module _ (s : List ℕ) (k : Keyword) (b : Bool) (from at : ℕ) where
  module _ (r : Read) where
    pub plain_if : k ≡ K.If → r ≡ read_for S.Conditional at FixedType (D.if_clause mixed b s at) → r ≡ plain_for k b s from at
    unfolding plain_for
    plain_if e h = rw e h

    pub plain_do : k ≡ K.Do → r ≡ read_for (do_kind s at) at FixedType (D.do_clause mixed s at) → r ≡ plain_for k b s from at
    unfolding plain_for
    plain_do e h = rw e h

    pub plain_goto : k ≡ K.Goto → r ≡ read_for S.Goto at FixedType (D.goto_clause mixed s at) → r ≡ plain_for k b s from at
    unfolding plain_for
    plain_goto e h = rw e h

    pub plain_go : k ≡ K.Go → r ≡ read_for S.Goto (token_at mixed s at).to FixedType (go_clause s at) → r ≡ plain_for k b s from at
    unfolding plain_for
    plain_go e h = rw e h

    pub plain_return : k ≡ K.Return → r ≡ read_for S.Return at FixedType (D.return_clause mixed s at) → r ≡ plain_for k b s from at
    unfolding plain_for
    plain_return e h = rw e h

    pub plain_include : k ≡ K.Include → (x : Expected) → x ≡ list_end (59 ∷ []) Ea.Member s (length s) at → r ≡ read_up_to S.Include O.Nothing at x → r ≡ plain_for k b s from at
    unfolding plain_for D.include_clause
    plain_include e x h i = rw (e, i, h) (members_are at s (length s) [] at)

    pub plain_deactivate : k ≡ K.Deactivate → (x : Expected) → x ≡ names_end (59 ∷ []) s (length s) at → r ≡ read_up_to S.Deactivate O.Nothing at x → r ≡ plain_for k b s from at
    unfolding plain_for D.deactivate_clause
    plain_deactivate e x h i = rw (e, i, h) (list_is S.Deactivate at s P.deactivate (length s) [] at)

    pub plain_activate : k ≡ K.Activate → (x : Expected) → x ≡ list_end (59 ∷ []) Ea.Activation s (length s) at → r ≡ read_up_to S.Activate O.Nothing at x → r ≡ plain_for k b s from at
    unfolding plain_for D.activate_clause
    plain_activate e x h i = rw (e, i, h) (activations_are at s (length s) [] at)

  pub plain_none : (k ≡ K.Declare) ⊎ ((k ≡ K.Procedure) ⊎ (k ≡ K.Other)) → Err (Syntax, from) ≡ plain_for k b s from at
  unfolding plain_for
  plain_none (inl e) = rw e
  plain_none (inr (inl e)) = rw e
  plain_none (inr (inr e)) = rw e

-- ---- the items of a declaration, and a procedure's type
module _ (s : List ℕ) (at : ℕ) (l : Lexeme) (lex : Lexed s at l) (v : Bool) (c : v ≡ is_sign_in s l (40 ∷ [])) where
  pub item_list : v ≡ true → (x : Expected) → x ≡ names_end (41 ∷ []) s (length s) l.to → item_of l.to (length s) x ≡ item_in s at
  unfolding item_in
  item_list d x h = rw (h, ← sign_in_lem s at l lex (40 ∷ []), ← c, d, lex.to)

  pub item_one : v ≡ false → (x : Expected) → x ≡ name_end (name_at mixed s at) → item_of at 1 x ≡ item_in s at
  unfolding item_in
  item_one d x h = rw (h, ← sign_in_lem s at l lex (40 ∷ []), ← c, d)

-- the same tests on the definition's token
attribute_same : (i : Bool) (is js : List ℕ → Bool) → ((w : List ℕ) → is w ≡ js w) → attribute_by i is ≡ attribute_by i js
unfolding attribute_by
attribute_same i is js h = rw (h (67 ∷ 72 ∷ 65 ∷ 82 ∷ 65 ∷ 67 ∷ 84 ∷ 69 ∷ 82 ∷ []), h (67 ∷ 72 ∷ 65 ∷ 82 ∷ []), h (70 ∷ 73 ∷ 88 ∷ 69 ∷ 68 ∷ []), h (66 ∷ 85 ∷ 73 ∷ 76 ∷ 84 ∷ 73 ∷ 78 ∷ []), h (69 ∷ 78 ∷ 84 ∷ 82 ∷ 89 ∷ []))

module _ (s : List ℕ) (x : Expected) (i : Bool) where
  pub itemized_refused : (d : Why × ℕ) → x ≡ Err d → Err d ≡ itemized s x i
  unfolding itemized
  itemized_refused d e = rw e

  module _ (q : ℕ) (e : x ≡ Ok q) (l : Lexeme) (lex : Lexed s q l) (a : Option Meaning) (h : a ≡ attribute_by i (is_word_in s l)) where
    attribute_there : attribute_by i (worded (token_at mixed s q).token) ≡ a
    attribute_there = sym (h ∙ attribute_same i (is_word_in s l) (worded (token_at mixed s q).token) (word_in s q l lex))

    pub itemized_means : (m : Meaning) → a ≡ Some m → Ok (m, l.to) ≡ itemized s x i
    unfolding itemized
    itemized_means m f = rw (e, attribute_there, f, lex.to)

    pub itemized_missing : a ≡ None → Err (Syntax, l.from) ≡ itemized s x i
    unfolding itemized
    itemized_missing f = rw (e, attribute_there, f, lex.from)

module _ (s : List ℕ) (e x y : Expected) (f : x ≡ then_word (82 ∷ 69 ∷ 84 ∷ 85 ∷ 82 ∷ 78 ∷ 83 ∷ []) s e) (g : y ≡ then_sign (40 ∷ []) s x) where
  abbrev wide : Expected
  wide = then_sign (40 ∷ []) s (then_word (82 ∷ 69 ∷ 84 ∷ 85 ∷ 82 ∷ 78 ∷ 83 ∷ []) s e)

  opened : y ≡ wide
  opened = rw f at g

  pub type_refused : (d : Why × ℕ) → y ≡ Err d → Err d ≡ type_from s (then_sign (40 ∷ []) s (then_word (82 ∷ 69 ∷ 84 ∷ 85 ∷ 82 ∷ 78 ∷ 83 ∷ []) s e))
  unfolding type_from
  type_refused d h = rw (← opened, h)

  module _ (q : ℕ) (h : y ≡ Ok q) (l : Lexeme) (lex : Lexed s q l) (a : Bool) (ha : a ≡ (is_word_in s l (67 ∷ 72 ∷ 65 ∷ 82 ∷ 65 ∷ 67 ∷ 84 ∷ 69 ∷ 82 ∷ []) || is_word_in s l (67 ∷ 72 ∷ 65 ∷ 82 ∷ []))) where
    characters : (is_worded (67 ∷ 72 ∷ 65 ∷ 82 ∷ 65 ∷ 67 ∷ 84 ∷ 69 ∷ 82 ∷ []) (token_at mixed s q).token || is_worded (67 ∷ 72 ∷ 65 ∷ 82 ∷ []) (token_at mixed s q).token) ≡ a
    characters = sym (rw (word_in s q l lex (67 ∷ 72 ∷ 65 ∷ 82 ∷ 65 ∷ 67 ∷ 84 ∷ 69 ∷ 82 ∷ []), word_in s q l lex (67 ∷ 72 ∷ 65 ∷ 82 ∷ [])) at ha)

    pub type_character : a ≡ true → Ok (CharacterType, l.to) ≡ type_from s (then_sign (40 ∷ []) s (then_word (82 ∷ 69 ∷ 84 ∷ 85 ∷ 82 ∷ 78 ∷ 83 ∷ []) s e))
    unfolding type_from
    type_character d = rw (← opened, h, characters, d, lex.to)

    module _ (na : a ≡ false) (b : Bool) (hb : b ≡ is_word_in s l (70 ∷ 73 ∷ 88 ∷ 69 ∷ 68 ∷ [])) where
      pub type_fixed : b ≡ true → Ok (FixedType, l.to) ≡ type_from s (then_sign (40 ∷ []) s (then_word (82 ∷ 69 ∷ 84 ∷ 85 ∷ 82 ∷ 78 ∷ 83 ∷ []) s e))
      unfolding type_from
      type_fixed d = rw (← opened, h, characters, na, ← word_in s q l lex (70 ∷ 73 ∷ 88 ∷ 69 ∷ 68 ∷ []), ← hb, d, lex.to)

      pub type_missing : b ≡ false → Err (Syntax, l.from) ≡ type_from s (then_sign (40 ∷ []) s (then_word (82 ∷ 69 ∷ 84 ∷ 85 ∷ 82 ∷ 78 ∷ 83 ∷ []) s e))
      unfolding type_from
      type_missing d = rw (← opened, h, characters, na, ← word_in s q l lex (70 ∷ 73 ∷ 88 ∷ 69 ∷ 68 ∷ []), ← hb, d, lex.from)

module _ (s : List ℕ) (c : ℕ) (X t : Part ValueType) (h : t ≡ X) where
  pub head_refused : (d : Why × ℕ) → t ≡ Err d → Err d ≡ head_from s c X
  unfolding head_from
  head_refused d e = rw (← h, e)

  module _ (v : ValueType) (q : ℕ) (e : t ≡ Ok (v, q)) (x y : Expected) (f : x ≡ expected (41 ∷ []) s q) (g : y ≡ then_sign (59 ∷ []) s x) where
    pub head_there : (to : ℕ) → y ≡ Ok to → Ok (clause_of S.Procedure O.Body c to v) ≡ head_from s c X
    unfolding head_from head_up_to
    head_there to i = rw (← h, e, ← f, ← g, i)

    pub head_stopped : (d : Why × ℕ) → y ≡ Err d → Err d ≡ head_from s c X
    unfolding head_from head_up_to
    head_stopped d i = rw (← h, e, ← f, ← g, i)
