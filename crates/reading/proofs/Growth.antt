-- Places grow: what is read behind a place lies behind it. So no fault and no name behind the sentence that is one too many is sooner.
-- Assumes nothing.
use Prim.Native.Nat.{ℕ, zero, suc, ◌+◌, ◌≤◌, ◌<◌}
use Prim.Native.Char.{code}
use Prim.Native.String.{String}
use native.Mathlib.Omega.{arith}
use mathlib.Core.Bool.{Bool, true, false, not, ◌&&◌, ◌||◌, false≢true}
use mathlib.Core.List.{List, [], ◌∷◌, ◌++◌}
use mathlib.Core.Path.{◌≡◌, refl, sym, ap, ◌∙◌}
use lib.Dec.{leb, ltb, eqb}
use lib.ListN.{length, get_or}
use borrow.Author.Tests.{leb-false}
use Rattle.definition.specs.Bytes.{mixed}
use Rattle.definition.specs.Choice.{when}
use Rattle.definition.specs.Limits.{open_groups}
use Rattle.definition.specs.declared.Why.{Why}
use Rattle.definition.specs.declared.Why.TheVariants.{Syntax, OverLimit}
use Rattle.definition.specs.Tokens as Tokens
use Rattle.definition.specs.Tokens.{Token, word, integer, string, bits, sign, nothing, wrong, Lexeme, is_word, is_sign, token_at, Piece, name, plain, unclosed, piece_at, TextEnd, percent_at, at_end, open_at, text_end}
use Rattle.definition.specs.Expressions.{Reading, read, refused, then, Tree, binary, Maybe, is, no_operator, infix_of, prefix_of, Parsed, expect_sign, expect_word, Named, name_of, name_at, Reader, arguments, reference_at, primitive, prefixed, operand, chained, chain, levels, expression, whole_expression}
use Rattle.definition.specs.declared.Operator.{Operator}
use Rattle.definition.specs.declared.Prefix.{Prefix}
use Rattle.definition.specs.declared.ValueType.{ValueType}
use Rattle.definition.specs.Deck.{Sought}
use Rattle.definition.specs.Program.{Bound, by, upto, Activation, Statement, null, Link, nowhere, row, listed, then_part, else_part, Row, Scope, global, inside, Meaning, parameter, label, end_label, Declared, Fault, sound, faulty, Source}
use Rattle.definition.specs.Statements as S
use Rattle.definition.specs.Statements.{Opens, opens_nothing, opens_group, opens_body, opens_then, Clause, clause, ended, assignment, then_word, if_clause, bound_at, do_bounds, do_clause, goto_clause, list_of, each_name, each_member, each_activation, include_clause, activate_clause, deactivate_clause, return_clause, Declaring, declared, undeclared, then_declare, means, names_at, attribute, declare_names, declare_next, declare_from, returns_type, procedure_head, procedure_clause}
use Rattle.definition.specs.Reading as R
use Rattle.definition.specs.Reading.{Where, in_program, in_group, in_body, in_then, in_else, Open, State, change, new_row, set_next, set_child, set_other, set_lead, set_text, linked, add_in, add_to, add_row, with_names, Mode, Turn, go, stop, finish, Else, else_to, no_else, else_word, else_at, elsed, complete_in, complete, Labelled, is_name, add_label, labels_from, labels, opened, taken, untaken, take_read, take_declared, label_meaning, is_declare, is_procedure, is_none, is_inside, is_list, kind_of, do_at, common, in_list, outer, by_word, by_name, by_token, end_name, may_name, end_read, end_at, is_in_group, is_in_body, is_full, is_end, long_label, clause_from, clause_at, texted, lead_in, not_end, procedure_end, begins, inner_at, depth, deep_enough, alternative_at, leading_text, text_behind, alternative, inner, turn, places, read_on}
use Rattle.definition.proofs.Choices.{when_has, cond_has}
use Rattle.definition.proofs.Keeping.{and_left}
use Rattle.definition.proofs.Ends.{piece_at_past}
use Rattle.reading.specs.State.{Starts, behind, opens}
use Rattle.reading.proofs.Places.{token_on, begins_real}

-- the one list begins the other
abbrev pub Begins : List ℕ → List ℕ → Type 0
Begins [] xs = Unit {0}
Begins (q ∷ qs) [] = ⊥
Begins (q ∷ qs) (x ∷ xs) = (q ≡ x) × Begins qs xs

begins_self : (qs : List ℕ) → Begins qs qs
begins_self [] = tt
begins_self (q ∷ qs) = (refl, begins_self qs)

begins_more : (qs xs ys : List ℕ) → Begins qs xs → Begins qs (xs ++ ys)
begins_more [] xs ys h = tt
begins_more (q ∷ qs) [] ys h = absurd h
begins_more (q ∷ qs) (x ∷ xs) ys h = (h.0, begins_more qs xs ys h.1)

module _ (s : List ℕ) (p : ℕ) where
  -- ---- refusals: behind p, or a limit passed at p
  pub data Stops : Why → ℕ → Type 0 where
    further : {w : Why} {q : ℕ} → p < q → Stops w q
    there : {q : ℕ} → p ≤ q → Stops OverLimit q

  data Far {A : Type 0} (P : A → Type 0) : Reading A → Type 0 where
    far : {a : A} → P a → Far P (read a)
    stopped : {w : Why} {q : ℕ} → Stops w q → Far P (refused w q)

  then_far : {A B : Type 0} {P : A → Type 0} {Q : B → Type 0} {r : Reading A} (f : A → Reading B) → Far P r → ((a : A) → P a → Far Q (f a)) → Far Q (then r f)
  then_far f (far {a} h) k = k a h
  then_far f (stopped h) k = stopped h

  -- ---- tokens and names
  token_from : (e : ℕ) → p < e → p < (token_at mixed s e).from
  token_from e h = omega (arith, (token_on s e).low)

  token_to : (e : ℕ) → p < e → p < (token_at mixed s e).to
  token_to e h = omega (arith, (token_on s e).low, (token_on s e).order)

  abbrev Ahead : ℕ → Type 0
  Ahead e = p < e

  sign_far : (w : String) (e : ℕ) → p < e → Far Ahead (expect_sign mixed w s e)
  unfolding expect_sign
  sign_far w e h = cond_has (Far Ahead) (is_sign w (token_at mixed s e).token) _ _ (λ _. far (token_to e h)) λ _. stopped (further (token_from e h))

  word_far : (w : String) (e : ℕ) → p < e → Far Ahead (expect_word mixed w s e)
  unfolding expect_word
  word_far w e h = cond_has (Far Ahead) (is_word w (token_at mixed s e).token) _ _ (λ _. far (token_to e h)) λ _. stopped (further (token_from e h))

  record NameFar (n : Named) : Type 0 where
    place : p ≤ n.place
    to : p < n.to

  name_of_lem : (t : Token) (a b : ℕ) → p < a → p < b → Far NameFar (name_of t a b)
  name_of_lem (word w) a b h k = cond_has (Far NameFar) (leb (length w) 31) _ _ (λ _. far (record { place = omega arith; to = k })) λ _. stopped (further h)
  name_of_lem (integer w) a b h k = stopped (further h)
  name_of_lem (string w) a b h k = stopped (further h)
  name_of_lem (bits w) a b h k = stopped (further h)
  name_of_lem (sign w) a b h k = stopped (further h)
  name_of_lem nothing a b h k = stopped (further h)
  name_of_lem wrong a b h k = stopped (further h)

  name_far : (e : ℕ) → p < e → Far NameFar (name_at mixed s e)
  unfolding name_at
  name_far e h = name_of_lem (token_at mixed s e).token (token_at mixed s e).from (token_at mixed s e).to (token_from e h) (token_to e h)

  -- ---- expressions
  abbrev Ends : Parsed → Type 0
  Ends r = p < r.to

  abbrev Reaches : Reader → Type 0
  Reaches rd = (e : ℕ) → p < e → Far Ends (rd e)

  arguments_far : (rd : Reader) → Reaches rd → (f : ℕ) → Reaches (arguments mixed rd s f)
  unfolding arguments
  arguments_far rd h zero e k = stopped (further k)
  arguments_far rd h (suc f) e k =
      then_far _ (h e k) λ a i.
      when_has (Far Ends) (is_sign "," (token_at mixed s a.to).token) _ _
      (λ _. then_far _ (arguments_far rd h f (token_at mixed s a.to).to (token_to a.to i)) λ r j. far j)
      λ _. then_far _ (sign_far ")" a.to i) λ q j. far j

  module _ (rd : ℕ → Reader) (h : (q : ℕ) → p < q → Reaches (rd q)) where
    reference_far : (n : Named) (u : Lexeme) → p < n.to → p < u.from → p < u.to → Far Ends (reference_at mixed rd s n u)
    unfolding reference_at
    reference_far n u k l m =
        when_has (Far Ends) (is_sign "(" u.token) _ _
        (λ _. then_far _ (arguments_far (rd u.from) (h u.from l) (length s) u.to m) λ r j. far j)
        λ _. far k

    primitive_far : (t : Token) (a b : ℕ) → p < a → p < b → Far Ends (primitive mixed rd s t a b)
    unfolding primitive
    primitive_far (word w) a b k l = then_far _ (name_of_lem (word w) a b k l) λ n i. reference_far n (token_at mixed s b) i.to (token_from b l) (token_to b l)
    primitive_far (integer w) a b k l = far l
    primitive_far (string w) a b k l = far l
    primitive_far (bits w) a b k l = far l
    primitive_far (sign w) a b k l =
        when_has (Far Ends) (is_sign "(" (sign w)) _ _
        (λ _. then_far _ (h a k b l) λ r i. then_far _ (sign_far ")" r.to i) λ q j. far j)
        λ _. stopped (further k)
    primitive_far nothing a b k l = stopped (further k)
    primitive_far wrong a b k l = stopped (further k)

    prefixed_far : (o : Maybe Prefix) (f g : Unit {0} → Reading Parsed) → Far Ends (f tt) → Far Ends (g tt) → Far Ends (prefixed o f g)
    prefixed_far (is o) f g k l = then_far _ k λ r i. far i
    prefixed_far no_operator f g k l = l

    operand_far : (f : ℕ) → Reaches (operand mixed rd s f)
    unfolding operand
    operand_far zero e k = stopped (further k)
    operand_far (suc f) e k =
        prefixed_far (prefix_of (token_at mixed s e).token) _ _ (operand_far f (token_at mixed s e).to (token_to e k))
        (primitive_far (token_at mixed s e).token (token_at mixed s e).from (token_at mixed s e).to (token_from e k) (token_to e k))

  chained_far : (o : Maybe Operator) (f : Operator → Reading Parsed) (g : Reading Parsed) → ((o : Operator) → Far Ends (f o)) → Far Ends g → Far Ends (chained o f g)
  chained_far (is o) f g h k = h o
  chained_far no_operator f g h k = k

  chain_far : (l : ℕ) (next : Reader) → Reaches next → (f : ℕ) (t : Tree) → Reaches (chain mixed l next s f t)
  unfolding chain
  chain_far l next h zero t e k = stopped (further k)
  chain_far l next h (suc f) t e k =
      chained_far (infix_of l (token_at mixed s e).token) _ _
      (λ o. then_far _ (h (token_at mixed s e).to (token_to e k)) λ r i. chain_far l next h f (binary o t r.tree) r.to i)
      (far k)

  levels_far : (rd : Reader) → Reaches rd → (l : ℕ) → Reaches (levels mixed rd s l)
  unfolding levels
  levels_far rd h zero e k = h e k
  levels_far rd h (suc l) e k = then_far _ (levels_far rd h l e k) λ r i. chain_far l (levels mixed rd s l) (levels_far rd h l) (suc (length s)) r.tree r.to i

  expression_far : (d : ℕ) → Reaches (expression mixed d s)
  unfolding expression
  expression_far zero e k = levels_far _ (operand_far (λ q _. refused OverLimit q) (λ q h _ _. stopped (further h)) (suc (length s))) 6 e k
  expression_far (suc d) e k = levels_far _ (operand_far (λ _ q. expression mixed d s q) (λ _ _. expression_far d) (suc (length s))) 6 e k

  whole_far : Reaches (whole_expression mixed s)
  whole_far e k = expression_far 16 e k

  -- ---- statements that declare nothing
  abbrev Closes : Clause → Type 0
  Closes c = p < c.to

  ended_far : (x : Statement) (e : ℕ) → p < e → Far Closes (ended mixed s x e)
  unfolding ended
  ended_far x e k = then_far _ (sign_far ";" e k) λ q i. far i

  assignment_far : (w : List ℕ) (e : ℕ) → p < e → Far Closes (assignment mixed s w e)
  unfolding assignment
  assignment_far w e k = then_far _ (whole_far e k) λ r i. ended_far _ r.to i

  then_word_lem : (b : Bool) (e : ℕ) → p < e → Far Ahead (then_word mixed b s e)
  unfolding then_word
  then_word_lem true e k = word_far "THEN" e k
  then_word_lem false e k = then_far _ (sign_far "%" e k) λ q i. word_far "THEN" q i

  if_far : (b : Bool) (e : ℕ) → p < e → Far Closes (if_clause mixed b s e)
  unfolding if_clause
  if_far b e k = then_far _ (whole_far e k) λ r i. then_far _ (then_word_lem b r.to i) λ q j. far j

  bound_far : (w : String) (make : Tree → Bound) (bs : List Bound) (e : ℕ) (f : List Bound → ℕ → Reading Clause) (g : Unit {0} → Reading Clause)
      → p < e → ((cs : List Bound) (q : ℕ) → p < q → Far Closes (f cs q)) → Far Closes (g tt) → Far Closes (bound_at mixed w make s bs e f g)
  unfolding bound_at
  bound_far w make bs e f g k h l = when_has (Far Closes) (is_word w (token_at mixed s e).token) _ _ (λ _. then_far _ (whole_far (token_at mixed s e).to (token_to e k)) λ r i. h _ r.to i) λ _. l

  do_end : (make : List Bound → Statement) (bs : List Bound) (e : ℕ) → p < e → Far Closes (then (expect_sign mixed ";" s e) λ q. read (clause (make bs) opens_group q))
  do_end make bs e k = then_far _ (sign_far ";" e k) λ q i. far i

  bounds_far : (make : List Bound → Statement) (e : ℕ) → p < e → Far Closes (do_bounds mixed s make e)
  unfolding do_bounds
  bounds_far make e k =
      bound_far "BY" by [] e _ _ k (λ bs q i. bound_far "TO" upto bs q _ _ i (λ cs z j. do_end make cs z j) (do_end make bs q i))
      (bound_far "TO" upto [] e _ _ k (λ bs q i. bound_far "BY" by bs q _ _ i (λ cs z j. do_end make cs z j) (do_end make bs q i)) (do_end make [] e k))

  do_far : (e : ℕ) → p < e → Far Closes (do_clause mixed s e)
  unfolding do_clause
  do_far e k =
      when_has (Far Closes) (is_sign ";" (token_at mixed s e).token) _ _ (λ _. far (token_to e k)) λ _.
      then_far _ (name_far e k) λ n i. then_far _ (sign_far "=" n.to i.to) λ q j. then_far _ (whole_far q j) λ r l. bounds_far _ r.to l

  goto_far : (e : ℕ) → p < e → Far Closes (goto_clause mixed s e)
  unfolding goto_clause
  goto_far e k = then_far _ (name_far e k) λ n i. ended_far _ n.to i.to

  list_of_lem : {A : Type 0} (each : List ℕ → ℕ → (A → ℕ → Reading Clause) → Reading Clause) (make : List A → Statement)
      → ((e : ℕ) (f : A → ℕ → Reading Clause) → p < e → ((x : A) (q : ℕ) → p < q → Far Closes (f x q)) → Far Closes (each s e f))
      → (f : ℕ) (xs : List A) (e : ℕ) → p < e → Far Closes (list_of mixed each make s f xs e)
  unfolding list_of
  list_of_lem each make h zero xs e k = stopped (further k)
  list_of_lem each make h (suc f) xs e k =
      h e _ k λ x q i. when_has (Far Closes) (is_sign "," (token_at mixed s q).token) _ _ (λ _. list_of_lem each make h f _ (token_at mixed s q).to (token_to q i)) λ _. ended_far _ q i

  each_name_lem : (e : ℕ) (f : List ℕ → ℕ → Reading Clause) → p < e → ((x : List ℕ) (q : ℕ) → p < q → Far Closes (f x q)) → Far Closes (each_name mixed s e f)
  each_name_lem e f k h = then_far _ (name_far e k) λ n i. h n.spelling n.to i.to

  each_activation_lem : (e : ℕ) (f : Activation → ℕ → Reading Clause) → p < e → ((x : Activation) (q : ℕ) → p < q → Far Closes (f x q)) → Far Closes (each_activation mixed s e f)
  each_activation_lem e f k h =
      then_far _ (name_far e k) λ n i.
      when_has (Far Closes) (is_word "NORESCAN" (token_at mixed s n.to).token) _ _ (λ _. h _ _ (token_to n.to i.to)) λ _.
      when_has (Far Closes) (is_word "RESCAN" (token_at mixed s n.to).token) _ _ (λ _. h _ _ (token_to n.to i.to)) λ _. h _ _ i.to

  each_member_lem : (e : ℕ) (f : Sought → ℕ → Reading Clause) → p < e → ((x : Sought) (q : ℕ) → p < q → Far Closes (f x q)) → Far Closes (each_member mixed s e f)
  each_member_lem e f k h =
      then_far _ (name_far e k) λ n i.
      when_has (Far Closes) (is_sign "(" (token_at mixed s n.to).token) _ _
      (λ _. then_far _ (name_far (token_at mixed s n.to).to (token_to n.to i.to)) λ m j. then_far _ (sign_far ")" m.to j.to) λ q l. h _ q l) λ _. h _ _ i.to

  include_far : (e : ℕ) → p < e → Far Closes (include_clause mixed s e)
  unfolding include_clause
  include_far e k = list_of_lem (each_member mixed) _ each_member_lem (length s) [] e k

  deactivate_far : (e : ℕ) → p < e → Far Closes (deactivate_clause mixed s e)
  unfolding deactivate_clause
  deactivate_far e k = list_of_lem (each_name mixed) _ each_name_lem (length s) [] e k

  activate_far : (e : ℕ) → p < e → Far Closes (activate_clause mixed s e)
  unfolding activate_clause
  activate_far e k = list_of_lem (each_activation mixed) _ each_activation_lem (length s) [] e k

  return_far : (e : ℕ) → p < e → Far Closes (return_clause mixed s e)
  unfolding return_clause
  return_far e k = then_far _ (sign_far "(" e k) λ q i. then_far _ (whole_far q i) λ r j. then_far _ (sign_far ")" r.to j) λ z l. ended_far _ z l

  -- ---- names, and the statements that declare them
  abbrev pub FarNames : List Declared → Type 0
  FarNames [] = Unit {0}
  FarNames (d ∷ ds) = (p ≤ d.place) × FarNames ds

  abbrev FarLabels : List Named → Type 0
  FarLabels [] = Unit {0}
  FarLabels (n ∷ ns) = (p ≤ n.place) × FarLabels ns

  names_more : (ds es : List Declared) → FarNames ds → FarNames es → FarNames (ds ++ es)
  names_more [] es h k = k
  names_more (d ∷ ds) es h k = (h.0, names_more ds es h.1 k)

  labels_more : (ns : List Named) (n : Named) → FarLabels ns → p ≤ n.place → FarLabels (ns ++ n ∷ [])
  labels_more [] n h k = (k, tt)
  labels_more (m ∷ ns) n h k = (h.0, labels_more ns n h.1 k)

  means_far : (k : Scope) (m : Meaning) (ns : List Named) → FarLabels ns → FarNames (means k m ns)
  means_far k m [] h = tt
  means_far k m (n ∷ ns) h = (h.0, means_far k m ns h.1)

  data FarDeclaring : Declaring → Type 0 where
    declares : {c : Clause} {ds : List Declared} → p < c.to → FarNames ds → FarDeclaring (declared c ds)
    fails : {w : Why} {q : ℕ} {ds : List Declared} → Stops w q → FarNames ds → FarDeclaring (undeclared w q ds)

  then_declare_lem : {A : Type 0} {P : A → Type 0} {r : Reading A} (ds : List Declared) (f : A → Declaring) → FarNames ds → Far P r → ((a : A) → P a → FarDeclaring (f a)) → FarDeclaring (then_declare ds r f)
  then_declare_lem ds f h (far {a} i) k = k a i
  then_declare_lem ds f h (stopped i) k = fails i h

  names_at_lem : (k : Scope) (m : Meaning) (ds : List Declared) → FarNames ds → (f : ℕ) (ns : List Named) (e : ℕ) (g : List Named → ℕ → Declaring)
      → FarLabels ns → p < e → ((ms : List Named) (q : ℕ) → FarLabels ms → p < q → FarDeclaring (g ms q)) → FarDeclaring (names_at mixed k m s ds f ns e g)
  unfolding names_at
  names_at_lem k m ds h zero ns e g l i j = fails (further i) h
  names_at_lem k m ds h (suc f) ns e g l i j =
      then_declare_lem (ds ++ means k m ns) _ (names_more ds _ h (means_far k m ns l)) (name_far e i) λ x z.
      let more : FarLabels (ns ++ x ∷ []) = labels_more ns x l z.place in
      when_has FarDeclaring (is_sign "," (token_at mixed s x.to).token) _ _ (λ _. names_at_lem k m ds h f (ns ++ x ∷ []) (token_at mixed s x.to).to g more (token_to x.to z.to) j) λ _.
      then_declare_lem (ds ++ means k m (ns ++ x ∷ [])) _ (names_more ds _ h (means_far k m (ns ++ x ∷ []) more)) (sign_far ")" x.to z.to) λ q y. j _ q more y

  attribute_far : (k : Scope) (t : Token) (a b : ℕ) (f : Meaning → ℕ → Declaring) (g : Unit {0} → Declaring) → ((m : Meaning) → FarDeclaring (f m b)) → FarDeclaring (g tt) → FarDeclaring (attribute k t a b f g)
  unfolding attribute
  attribute_far global t a b f g h i =
      when_has FarDeclaring (S.is_character t) _ _ (λ _. h _) λ _. when_has FarDeclaring (is_word "FIXED" t) _ _ (λ _. h _) λ _. when_has FarDeclaring (is_word "ENTRY" t) _ _ (λ _. h _) λ _. i
  attribute_far (inside r) t a b f g h i =
      when_has FarDeclaring (S.is_character t) _ _ (λ _. h _) λ _. when_has FarDeclaring (is_word "FIXED" t) _ _ (λ _. h _) λ _. when_has FarDeclaring (is_word "BUILTIN" t) _ _ (λ _. h _) λ _. i

  declare_names_lem : (k : Scope) (ds : List Declared) (ns : List Named) (e : ℕ) (g : List Declared → ℕ → Declaring) → FarNames ds → FarLabels ns → p < e
      → ((es : List Declared) (q : ℕ) → FarNames es → p < q → FarDeclaring (g es q)) → FarDeclaring (declare_names mixed k s ds ns e g)
  unfolding declare_names
  declare_names_lem k ds ns e g h l i j =
      attribute_far k (token_at mixed s e).token (token_at mixed s e).from (token_at mixed s e).to _ _
      (λ m. j _ _ (names_more ds _ h (means_far k m ns l)) (token_to e i)) (fails (further (token_from e i)) (names_more ds _ h (means_far k _ ns l)))

  declare_next_lem : (g : List Declared → ℕ → Declaring) → ((es : List Declared) (q : ℕ) → FarNames es → p < q → FarDeclaring (g es q)) → (ds : List Declared) (e : ℕ) → FarNames ds → p < e → FarDeclaring (declare_next mixed s g ds e)
  unfolding declare_next
  declare_next_lem g j ds e h i =
      when_has FarDeclaring (is_sign "," (token_at mixed s e).token) _ _ (λ _. j ds _ h (token_to e i)) λ _. then_declare_lem ds _ h (sign_far ";" e i) λ q z. declares z h

  declare_far : (k : Scope) (f : ℕ) (ds : List Declared) (e : ℕ) → FarNames ds → p < e → FarDeclaring (declare_from mixed k s f ds e)
  unfolding declare_from
  declare_far k zero ds e h i = fails (further i) h
  declare_far k (suc f) ds e h i =
      when_has FarDeclaring (is_sign "(" (token_at mixed s e).token) _ _
      (λ _. names_at_lem k _ ds h (length s) [] (token_at mixed s e).to _ tt (token_to e i) λ ns q l j. declare_names_lem k ds ns q _ h l j (declare_next_lem _ (λ es z. declare_far k f es z))) λ _.
      then_declare_lem ds _ h (name_far e i) λ n j. declare_names_lem k ds (n ∷ []) n.to _ h (j.place, tt) j.to (declare_next_lem _ (λ es z. declare_far k f es z))

  returns_far : (e : ℕ) (g : ValueType → ℕ → Declaring) (ds : List Declared) → FarNames ds → p < e → ((t : ValueType) (q : ℕ) → p < q → FarDeclaring (g t q)) → FarDeclaring (returns_type mixed s e g ds)
  unfolding returns_type
  returns_far e g ds h i j =
      then_declare_lem ds _ h (word_far "RETURNS" e i) λ q k. then_declare_lem ds _ h (sign_far "(" q k) λ z l.
      when_has FarDeclaring (S.is_character (token_at mixed s z).token) _ _ (λ _. j _ _ (token_to z l)) λ _. then_declare_lem ds _ h (word_far "FIXED" z l) λ y m. j _ y m

  head_far : (k : Scope) (ns : List Named) (e : ℕ) → FarLabels ns → p < e → FarDeclaring (procedure_head mixed k s ns e)
  unfolding procedure_head
  head_far k ns e l i =
      let h : FarNames (means k parameter ns) = means_far k parameter ns l in
      returns_far e _ (means k parameter ns) h i λ t q j.
      then_declare_lem (means k parameter ns) _ h (sign_far ")" q j) λ z m. then_declare_lem (means k parameter ns) _ h (sign_far ";" z m) λ y n. declares n h

  procedure_far : (k : Scope) (e : ℕ) → p < e → FarDeclaring (procedure_clause mixed k s e)
  unfolding procedure_clause
  procedure_far k e i =
      when_has FarDeclaring (is_sign "(" (token_at mixed s e).token) _ _
      (λ _. names_at_lem k parameter [] tt (length s) [] (token_at mixed s e).to _ tt (token_to e i) λ ns q l j. head_far k ns q l j) λ _. head_far k [] e tt i

  -- ---- labels, and the token behind them: behind p, or at p and one that can begin a statement
  abbrev FarPlaces : List ℕ → Type 0
  FarPlaces [] = Unit {0}
  FarPlaces (q ∷ qs) = (p ≤ q) × FarPlaces qs

  places_more : (qs : List ℕ) (q : ℕ) → FarPlaces qs → p ≤ q → FarPlaces (qs ++ q ∷ [])
  places_more [] q h k = (k, tt)
  places_more (r ∷ qs) q h k = (h.0, places_more qs q h.1 k)

  data First (t : Token) (q : ℕ) : Type 0 where
    later : p < q → First t q
    now : p ≤ q → begins t ≡ true → First t q

  first_low : {t : Token} {q : ℕ} → First t q → p ≤ q
  first_low (later h) = omega arith
  first_low (now h e) = h

  first_not : {t : Token} {q : ℕ} → First t q → begins t ≡ false → p < q
  first_not (later h) k = h
  first_not (now h e) k = absurd (false≢true (sym k ∙ e))

  record Labels (L : Labelled) : Type 0 where
    named : FarLabels L.labels
    long : FarPlaces L.long
    first : First L.behind.token L.behind.from
    end : p < L.behind.to

  record LaterLabels (L : Labelled) : Type 0 where
    is : Labels L
    from : p < L.behind.from

  stops_low : {w : Why} {q : ℕ} → Stops w q → p ≤ q
  stops_low (further h) = omega arith
  stops_low (there h) = h

  add_label_lem : {r : Reading Named} (Q : Labelled → Type 0) (ns : List Named) (long : List ℕ) (f : List Named → List ℕ → Labelled) → Far NameFar r → FarLabels ns → FarPlaces long
      → ((ms : List Named) (qs : List ℕ) → FarLabels ms → FarPlaces qs → Q (f ms qs)) → Q (add_label r ns long f)
  add_label_lem Q ns long f (far {a = n} i) h k g = g (ns ++ n ∷ []) long (labels_more ns n h i.place) k
  add_label_lem Q ns long f (stopped {w} {q} i) h k g = g ns (long ++ q ∷ []) h (places_more long q k (stops_low i))

  labels_end : (ns : List Named) (long : List ℕ) (e : ℕ) → FarLabels ns → FarPlaces long → p < e → LaterLabels (record { labels = ns; long = long; behind = token_at mixed s e })
  labels_end ns long e h k i = record { is = record { named = h; long = k; first = later (token_from e i); end = token_to e i }; from = token_from e i }

  labels_far : (f : ℕ) (ns : List Named) (long : List ℕ) (e : ℕ) → FarLabels ns → FarPlaces long → p < e → LaterLabels (labels_from mixed s f ns long e)
  unfolding labels_from
  labels_far zero ns long e h k i = labels_end ns long e h k i
  labels_far (suc f) ns long e h k i =
      when_has LaterLabels (is_name (token_at mixed s e).token && is_sign ":" (token_at mixed s (token_at mixed s e).to).token) _ _
      (λ _. add_label_lem LaterLabels ns long _ (name_of_lem (token_at mixed s e).token (token_at mixed s e).from (token_at mixed s e).to (token_from e i) (token_to e i)) h k
      λ ms qs m l. labels_far f ms qs _ m l (token_to (token_at mixed s e).to (token_to e i))) λ _. labels_end ns long e h k i

  name_low : (t : Token) (a b : ℕ) → is_name t ≡ true → p ≤ a → p < b → Far NameFar (name_of t a b)
  name_low (word w) a b z h k = cond_has (Far NameFar) (leb (length w) 31) _ _ (λ _. far (record { place = h; to = k })) λ _. stopped (there h)
  name_low (integer w) a b z h k = absurd (false≢true z)
  name_low (string w) a b z h k = absurd (false≢true z)
  name_low (bits w) a b z h k = absurd (false≢true z)
  name_low (sign w) a b z h k = absurd (false≢true z)
  name_low nothing a b z h k = absurd (false≢true z)
  name_low wrong a b z h k = absurd (false≢true z)

  labels_now : (f e : ℕ) → p ≤ (token_at mixed s e).from → begins (token_at mixed s e).token ≡ true → Labels (labels_from mixed s f [] [] e)
  unfolding labels_from
  labels_now zero e h k =
      let t : p < (token_at mixed s e).to = omega (arith, ((token_on s e).some (begins_real (token_at mixed s e).token k)).0) in
      record { named = tt; long = tt; first = now h k; end = t }
  labels_now (suc f) e h k =
      let t : p < (token_at mixed s e).to = omega (arith, ((token_on s e).some (begins_real (token_at mixed s e).token k)).0) in
      when_has Labels (is_name (token_at mixed s e).token && is_sign ":" (token_at mixed s (token_at mixed s e).to).token) _ _
      (λ z. add_label_lem Labels [] [] _ (name_low (token_at mixed s e).token (token_at mixed s e).from (token_at mixed s e).to (and_left (is_name (token_at mixed s e).token) _ z) h t) tt tt
      λ ms qs m l. (labels_far f ms qs _ m l (token_to (token_at mixed s e).to t)).is) λ _. record { named = tt; long = tt; first = now h k; end = t }

  starts_labels : (e : ℕ) → Starts s p e → Labels (labels mixed s e)
  starts_labels e (behind h) = (labels_far (length s) [] [] e tt tt h).is
  starts_labels e (opens h k) = labels_now (length s) e (omega arith) k

  -- ---- ELSE
  abbrev FarElse : Else → Type 0
  FarElse (else_to q) = p < q
  FarElse no_else = Unit {0}

  else_word_lem : (t : Lexeme) → p < t.to → FarElse (else_word mixed s t)
  unfolding else_word
  else_word_lem t h = cond_has FarElse (is_word "ELSE" t.token && R.is_decided (token_at mixed s t.to).token) _ _ (λ _. h) λ _. tt

  else_far : (b : Bool) (e : ℕ) → p < e → FarElse (else_at mixed b s e)
  unfolding else_at
  else_far true e h = else_word_lem (token_at mixed s e) (token_to e h)
  else_far false e h = when_has FarElse (is_sign "%" (token_at mixed s e).token) _ _ (λ _. else_word_lem (token_at mixed s (token_at mixed s e).to) (token_to (token_at mixed s e).to (token_to e h))) λ _. tt

  -- ---- rows keep their places
  change_places : (n : ℕ) (f : Row → Row) → ((r : Row) → (f r).place ≡ r.place) → (rs : List Row) → places (change n f rs) ≡ places rs
  unfolding change
  change_places n f k [] = refl
  change_places zero f k (r ∷ rs) = ap (λ (z : ℕ). z ∷ places rs) (k r)
  change_places (suc n) f k (r ∷ rs) = ap (λ (z : List ℕ). r.place ∷ z) (change_places n f k rs)

  linked_places : (n : ℕ) (l : Link) (f : List Row → List Row) → ((rs : List Row) → places (f rs) ≡ places rs) → (rs : List Row) → places (linked n l f rs) ≡ places rs
  linked_places n nowhere f k rs = k rs
  linked_places n (row l) f k rs = change_places l (set_next n) (λ r. refl) rs

  more_places : (rs : List Row) (r : Row) → places (rs ++ r ∷ []) ≡ places rs ++ r.place ∷ []
  more_places [] r = refl
  more_places (q ∷ rs) r = ap (λ (z : List ℕ). q.place ∷ z) (more_places rs r)

  put_places : (rs qs : List Row) (r : Row) → places qs ≡ places rs → places (qs ++ r ∷ []) ≡ places rs ++ r.place ∷ []
  put_places rs qs r h = more_places qs r ∙ ap (λ (z : List ℕ). z ++ r.place ∷ []) h

  listed_places_lem : (o : Open) (x : Statement) (c : ℕ) (st : State)
      → places (linked (length st.rows) o.last (change o.row (set_child (length st.rows))) st.rows ++ new_row x c (row o.row) listed ∷ []) ≡ places st.rows ++ c ∷ []
  listed_places_lem o x c st =
      let n : ℕ = length st.rows in
      put_places st.rows (linked n o.last (change o.row (set_child n)) st.rows) (new_row x c (row o.row) listed) (linked_places n o.last (change o.row (set_child n)) (change_places o.row (set_child n) (λ r. refl)) st.rows)

  add_places : (k : Where) (o : Open) (os : List Open) (x : Statement) (c : ℕ) (st : State) → places (add_in k o os x c st).rows ≡ places st.rows ++ c ∷ []
  add_places in_program o os x c st =
      let n : ℕ = length st.rows in
      put_places st.rows (linked n o.last (λ rs. rs) st.rows) (new_row x c nowhere listed) (linked_places n o.last (λ rs. rs) (λ rs. refl) st.rows)
  add_places in_group o os x c st = listed_places_lem o x c st
  add_places in_body o os x c st = listed_places_lem o x c st
  add_places in_then o os x c st =
      let n : ℕ = length st.rows in
      put_places st.rows (change o.row (set_child n) st.rows) (new_row x c (row o.row) then_part) (change_places o.row (set_child n) (λ r. refl) st.rows)
  add_places in_else o os x c st =
      let n : ℕ = length st.rows in
      put_places st.rows (change o.row (set_other n) st.rows) (new_row x c (row o.row) else_part) (change_places o.row (set_other n) (λ r. refl) st.rows)

  add_names : (k : Where) (o : Open) (os : List Open) (x : Statement) (c : ℕ) (st : State) → (add_in k o os x c st).declared ≡ st.declared
  add_names in_program o os x c st = refl
  add_names in_group o os x c st = refl
  add_names in_body o os x c st = refl
  add_names in_then o os x c st = refl
  add_names in_else o os x c st = refl

  row_places : (os : List Open) (x : Statement) (c : ℕ) (st : State) → 0 < length os → places (add_to os x c st).rows ≡ places st.rows ++ c ∷ []
  row_places [] x c st h = absurd (omega arith)
  row_places (o ∷ os) x c st h = add_places o.kind o os x c st

  row_names : (os : List Open) (x : Statement) (c : ℕ) (st : State) → (add_to os x c st).declared ≡ st.declared
  row_names [] x c st = refl
  row_names (o ∷ os) x c st = add_names o.kind o os x c st

  -- ---- turns, where the sentences that were begun begin with ps
  module _ (ps : List ℕ) where
    record Fine (st : State) : Type 0 where
      names : FarNames st.declared
      rows : Begins ps (places st.rows)

    data FineTurn : Turn → Type 0 where
      going : {m : Mode} {q : ℕ} {st : State} → p < q → 0 < length st.opened → Fine st → FineTurn (go m q st)
      stopping : {w : Why} {q : ℕ} {begun : List ℕ} {st : State} → Stops w q → FarNames st.declared → Begins ps (places st.rows ++ begun) → FineTurn (stop w q begun st)
      finishing : {st : State} → Fine st → FineTurn (finish st)

    some_open : (o : Open) (os : List Open) → 0 < length (o ∷ os)
    some_open o os = omega arith

    -- a state with the same names and rows
    like : {st : State} (other : State) → other.declared ≡ st.declared → other.rows ≡ st.rows → Fine st → Fine other
    like other a b h = record { names = rw a h.names; rows = rw b h.rows }

    halting : {w : Why} {q : ℕ} {st : State} → Stops w q → Fine st → FineTurn (stop w q [] st)
    halting {st = st} k h = stopping k h.names (begins_more ps (places st.rows) [] h.rows)

    opens_on : {m : Mode} {q : ℕ} (o : Open) (os : List Open) (x : Scope) (st : State) → p < q → Fine st → FineTurn (go m q (R.with_opened (o ∷ os) x st))
    opens_on o os x st k h = going {st = R.with_opened (o ∷ os) x st} k (some_open o os) (like _ refl refl h)

    elsed_fine : (x : Else) (i : ℕ) (os : List Open) (st : State) (f : Unit {0} → Turn) → FarElse x → Fine st → FineTurn (f tt) → FineTurn (elsed x i os st f)
    elsed_fine (else_to q) i os st f k h g = opens_on (R.opening in_else i []) os st.scope st k h
    elsed_fine no_else i os st f k h g = g

    complete_in_lem : (k : Where) (i : ℕ) (os : List Open) (n e : ℕ) (st : State) (f : ℕ → Turn) → p < e → 0 < length st.opened → Fine st → FineTurn (f i) → FineTurn (complete_in mixed k s i os n e st f)
    complete_in_lem in_program i os n e st f k l h g = going k l h
    complete_in_lem in_group i os n e st f k l h g = going k l h
    complete_in_lem in_body i os n e st f k l h g = going k l h
    complete_in_lem in_then i os n e st f k l h g = elsed_fine (else_at mixed (is_inside st.scope) s e) i os st _ (else_far (is_inside st.scope) e k) h g
    complete_in_lem in_else i os n e st f k l h g = g

    complete_fine : (os : List Open) (n e : ℕ) (st : State) → p < e → Fine st → FineTurn (complete mixed s os n e st)
    unfolding complete
    complete_fine [] n e st k h = finishing h
    complete_fine (o ∷ os) n e st k h = complete_in_lem o.kind o.row os n e _ _ k (some_open o os) (like _ refl refl h) (complete_fine os o.row e st k h)

    opened_fine : (o : Opens) (n : ℕ) (ns : List Named) (e : ℕ) (st : State) → p < e → Fine st → FineTurn (opened mixed o s n ns e st)
    opened_fine opens_nothing n ns e st k h = complete_fine st.opened n e st k h
    opened_fine opens_group n ns e st k h = opens_on (R.opening in_group n (R.spelled ns)) st.opened st.scope st k h
    opened_fine opens_body n ns e st k h = opens_on (R.opening in_body n (R.spelled ns)) st.opened (inside n) st k h
    opened_fine opens_then n ns e st k h = opens_on (R.opening in_then n []) st.opened st.scope st k h

    -- ---- a sentence that begins at c
    record Begun (c : ℕ) (ns : List Named) (st : State) : Type 0 where
      names : FarNames st.declared
      named : FarLabels ns
      rows : Begins ps (places st.rows ++ c ∷ [])
      some : 0 < length st.opened

    module _ (c : ℕ) (ns : List Named) (st : State) (h : Begun c ns st) where
      named_fine : (m : Meaning) (es : List Declared) → FarNames es → FarNames (st.declared ++ (means st.scope m ns ++ es))
      named_fine m es k = names_more st.declared _ h.names (names_more (means st.scope m ns) es (means_far st.scope m ns h.named) k)

      taken_fine : (x : Clause) (es : List Declared) → p < x.to → FarNames es → FineTurn (taken mixed s c ns st x es)
      unfolding taken add_row
      taken_fine x es k l =
          opened_fine x.opens (length st.rows) ns x.to _ k
          (record { names = rw (row_names st.opened x.statement c st) (named_fine (label_meaning x.opens (length st.rows)) es l); rows = rw (row_places st.opened x.statement c st h.some) h.rows })

      untaken_fine : (w : Why) (q : ℕ) (es : List Declared) → Stops w q → FarNames es → FineTurn (untaken c ns st w q es)
      untaken_fine w q es k l = stopping k (named_fine (label 0) es l) h.rows

      take_read_lem : {r : Reading Clause} → Far Closes r → FineTurn (take_read mixed s c ns st r)
      take_read_lem (far {a = x} k) = taken_fine x [] k tt
      take_read_lem (stopped {w} {q} k) = untaken_fine w q [] k tt

      take_declared_lem : {r : Declaring} → FarDeclaring r → FineTurn (take_declared mixed s c ns st r)
      take_declared_lem (declares {c = x} {ds = es} k l) = taken_fine x es k l
      take_declared_lem (fails {w} {q} {ds = es} k l) = untaken_fine w q es k l

      do_fine : (a b : ℕ) → p ≤ a → p < b → Far Closes (do_at mixed s a b st)
      unfolding do_at
      do_fine a b i j = when_has (Far Closes) (ltb (depth st.opened) open_groups) _ _ (λ _. do_far b j) λ _. stopped (there i)

      common_fine : (t : Lexeme) (g : Unit {0} → Turn) → p ≤ t.from → p < t.to → FineTurn (g tt) → FineTurn (common mixed s t st (take_read mixed s c ns st) g)
      unfolding common
      common_fine t g i j k =
          when_has FineTurn (is_word "IF" t.token) _ _ (λ _. take_read_lem (if_far (is_inside st.scope) t.to j)) λ _.
          when_has FineTurn (is_word "DO" t.token) _ _ (λ _. take_read_lem (do_fine t.from t.to i j)) λ _.
          when_has FineTurn (is_word "GOTO" t.token) _ _ (λ _. take_read_lem (goto_far t.to j)) λ _.
          when_has FineTurn (is_word "GO" t.token) _ _ (λ _. take_read_lem (then_far _ (word_far "TO" t.to j) λ q l. goto_far q l)) λ _. k

      list_fine : (t : Lexeme) (g : Unit {0} → Turn) → p < t.to → FineTurn (g tt) → FineTurn (in_list mixed s c ns t st g)
      unfolding in_list
      list_fine t g j k =
          when_has FineTurn (is_list (kind_of st.opened) && is_declare t.token) _ _ (λ _. take_declared_lem (declare_far st.scope (length s) [] t.to tt j)) λ _.
          when_has FineTurn (is_list (kind_of st.opened) && not (is_inside st.scope) && not (is_none ns) && is_procedure t.token) _ _ (λ _. take_declared_lem (procedure_far (inside (length st.rows)) t.to j)) λ _. k

      outer_fine : (k : Scope) (t : Lexeme) (g : Unit {0} → Turn) → p < t.to → FineTurn (g tt) → FineTurn (outer mixed k s t (take_read mixed s c ns st) g)
      outer_fine global t g j k =
          when_has FineTurn (is_word "INCLUDE" t.token) _ _ (λ _. take_read_lem (include_far t.to j)) λ _.
          when_has FineTurn (is_word "ACTIVATE" t.token || is_word "ACT" t.token) _ _ (λ _. take_read_lem (activate_far t.to j)) λ _.
          when_has FineTurn (is_word "DEACTIVATE" t.token || is_word "DEACT" t.token) _ _ (λ _. take_read_lem (deactivate_far t.to j)) λ _. k
      outer_fine (inside r) t g j k = when_has FineTurn (is_word "RETURN" t.token) _ _ (λ _. take_read_lem (return_far t.to j)) λ _. k

      by_word_lem : (w : List ℕ) (t u : Lexeme) → p ≤ t.from → p < t.to → p < u.from → p < u.to → FineTurn (by_word mixed s c ns w t u st)
      unfolding by_word
      by_word_lem w t u i j k l =
          when_has FineTurn (is_sign "=" u.token) _ _ (λ _. take_read_lem (assignment_far w u.to l)) λ _.
          common_fine t _ i j (outer_fine st.scope t _ j (list_fine t _ j (untaken_fine Syntax u.from [] (further k) tt)))

      by_name_lem : {n : Reading Named} (t : Lexeme) → p ≤ t.from → p < t.to → Far NameFar n → FineTurn (by_name mixed n s c ns t st)
      by_name_lem t i j (far {a = n} k) = by_word_lem n.spelling t (token_at mixed s t.to) i j (token_from t.to j) (token_to t.to j)
      by_name_lem t i j (stopped {w} {q} k) = untaken_fine w q [] k tt

      by_token_lem : (x : Token) (t : Lexeme) → First x t.from → p < t.to → FineTurn (by_token mixed x s c ns t st)
      by_token_lem (word w) t i j = by_name_lem t (first_low i) j (name_low (word w) t.from t.to refl (first_low i) j)
      by_token_lem (integer w) t i j = untaken_fine Syntax t.from [] (further (first_not i refl)) tt
      by_token_lem (string w) t i j = untaken_fine Syntax t.from [] (further (first_not i refl)) tt
      by_token_lem (bits w) t i j = untaken_fine Syntax t.from [] (further (first_not i refl)) tt
      by_token_lem (sign w) t i j =
          when_has FineTurn (is_sign ";" (sign w)) _ _ (λ _. taken_fine (clause null opens_nothing t.to) [] j tt) λ z. untaken_fine Syntax t.from [] (further (first_not i z)) tt
      by_token_lem nothing t i j = untaken_fine Syntax t.from [] (further (first_not i refl)) tt
      by_token_lem wrong t i j = untaken_fine Syntax t.from [] (further (first_not i refl)) tt

    too_long_lem : (qs : List ℕ) (f : ℕ → Turn) (g : Unit {0} → Turn) → FarPlaces qs → ((q : ℕ) → p ≤ q → FineTurn (f q)) → FineTurn (g tt) → FineTurn (long_label qs f g)
    too_long_lem [] f g i j k = k
    too_long_lem (q ∷ qs) f g i j k = j q i.0

    sentence_fine : (c : ℕ) (L : Labelled) (st : State) → Begun c L.labels st → Labels L → p ≤ c
        → FineTurn (when (is_full st) (λ _. stop OverLimit c (c ∷ []) st) (λ _. long_label L.long (λ q. untaken c L.labels st OverLimit q []) (λ _. by_token mixed L.behind.token s c L.labels L.behind st)))
    sentence_fine c L st h k i =
        when_has FineTurn (is_full st) _ _ (λ _. stopping (there i) h.names h.rows) λ _.
        too_long_lem L.long _ _ k.long (λ q j. untaken_fine c L.labels st h OverLimit q [] (there j) tt) (by_token_lem c L.labels st h L.behind.token L.behind k.first k.end)

    -- ---- END
    end_name_lem : (ls : List (List ℕ)) (e : ℕ) → p < e → Far Ahead (end_name mixed s ls e)
    unfolding end_name
    end_name_lem ls e k =
        when_has (Far Ahead) (is_sign ";" (token_at mixed s e).token) _ _ (λ _. far (token_to e k)) λ _.
        when_has (Far Ahead) (may_name (token_at mixed s e).token ls) _ _
        (λ _. when_has (Far Ahead) (is_sign ";" (token_at mixed s (token_at mixed s e).to).token) _ _ (λ _. far (token_to (token_at mixed s e).to (token_to e k))) λ _. stopped (further (token_from (token_at mixed s e).to (token_to e k))))
        λ _. stopped (further (token_from e k))

    more_fine : (st : State) (ns : List Named) (m : Meaning) → FarLabels ns → Fine st → Fine (with_names (means st.scope m ns) st)
    more_fine st ns m k h = record { names = names_more st.declared _ h.names (means_far st.scope m ns k); rows = h.rows }

    end_read_lem : (ns : List Named) (o : Open) (os : List Open) (st : State) {r : Reading ℕ} → FarLabels ns → Fine st → Far Ahead r → FineTurn (end_read mixed s ns o os st r)
    end_read_lem ns o os st l h (far {a = e} k) = complete_fine os o.row e _ k (like _ refl refl (more_fine st ns (end_label o.row) l h))
    end_read_lem ns o os st l h (stopped k) = halting k (more_fine st ns (end_label o.row) l h)

    end_at_lem : (ns : List Named) (e : ℕ) (os : List Open) (st : State) → FarLabels ns → p < e → Fine st → FineTurn (end_at mixed s ns e os st)
    end_at_lem ns e [] st l k h = halting (further k) h
    end_at_lem ns e (o ∷ os) st l k h = end_read_lem ns o os st l h (end_name_lem o.labels e k)

    clause_fine : (c : ℕ) (L : Labelled) (st : State) → p ≤ c → Labels L → 0 < length st.opened → Fine st → FineTurn (clause_from mixed s c L st)
    unfolding clause_from
    clause_fine c L st i l k h =
        when_has FineTurn (is_in_group (kind_of st.opened) && is_end mixed s L.behind) _ _
        (λ _. too_long_lem L.long _ _ l.long (λ q j. halting (there j) (more_fine st L.labels (label 0) l.named h)) (end_at_lem L.labels L.behind.to st.opened st l.named l.end h)) λ _.
        sentence_fine c L st (record { names = h.names; named = l.named; rows = begins_more ps (places st.rows) (c ∷ []) h.rows; some = k }) l i

    -- ---- texts and procedures
    data EndsIn : TextEnd → Type 0 where
      at_percent : {q : ℕ} → p < q → EndsIn (percent_at q)
      at_end_lem : EndsIn at_end
      at_open : {q : ℕ} → p < q → EndsIn (open_at q)

    text_on_lem : (x : Piece) (q r : ℕ) (f : ℕ → TextEnd) → p < q → EndsIn (f r) → EndsIn (Tokens.text_on x q r f)
    text_on_lem (name w) q r f h k = k
    text_on_lem plain q r f h k = k
    text_on_lem unclosed q r f h k = at_open h

    text_ends : (f q : ℕ) → p < q → EndsIn (text_end mixed f s q)
    unfolding text_end
    text_ends zero q h = at_end_lem
    text_ends (suc f) q h =
        when_has EndsIn (leb (length s) q) _ _ (λ _. at_end_lem) λ e.
        when_has EndsIn (eqb (get_or s q 0) (code "%")) _ _ (λ _. at_percent h) λ _.
        text_on_lem (piece_at mixed s q).piece q (piece_at mixed s q).to (text_end mixed f s) h (text_ends f (piece_at mixed s q).to (omega (arith, (piece_at_past s q (leb-false (length s) q e)).above)))

    module _ (low : p < length s) where
      texted_fine : {e : TextEnd} → EndsIn e → (f : ℕ → State) → ((q : ℕ) → 0 < length (f q).opened) → ((q : ℕ) → Fine (f q)) → FineTurn (texted mixed e s f)
      texted_fine (at_percent {q} h) f k l = clause_fine q (labels mixed s (q + 1)) (f q) (omega arith) (labels_far (length s) [] [] (q + 1) tt tt (omega arith)).is (k q) (l q)
      texted_fine at_end_lem f k l = cond_has FineTurn (leb (length (f 0).opened) 1) _ _ (λ _. finishing (l (length s))) λ _. halting (further low) (l (length s))
      texted_fine (at_open {q} h) f k l = halting (further h) (l q)

      lead_in_lem : (os : List Open) (from q : ℕ) (st : State) → 0 < length st.opened → Fine st → (0 < length (lead_in os from q st).opened) × Fine (lead_in os from q st)
      lead_in_lem [] from q st h k = (h, k)
      lead_in_lem (o ∷ os) from q st h k = at_kind o.kind
        where
          at_kind : (x : Where) → (0 < length ((elim x as (λ _. ℕ → State) [ in_program ↦ λ n. R.with_lead (R.stretch from q) st | in_group ↦ λ n. R.with_rows (change n (set_lead (R.stretch from q)) st.rows) st | in_body ↦ λ n. st | in_then ↦ λ n. st | in_else ↦ λ n. st ]) o.row).opened)
              × Fine ((elim x as (λ _. ℕ → State) [ in_program ↦ λ n. R.with_lead (R.stretch from q) st | in_group ↦ λ n. R.with_rows (change n (set_lead (R.stretch from q)) st.rows) st | in_body ↦ λ n. st | in_then ↦ λ n. st | in_else ↦ λ n. st ]) o.row)
          at_kind in_program = (h, record { names = k.names; rows = k.rows })
          at_kind in_group = (h, record { names = k.names; rows = rw (change_places o.row (set_lead (R.stretch from q)) (λ r. refl) st.rows) k.rows })
          at_kind in_body = (h, k)
          at_kind in_then = (h, k)
          at_kind in_else = (h, k)

      not_end_lem : {n : Reading Named} (st : State) → Far NameFar n → Fine st → FineTurn (not_end mixed n s st)
      not_end_lem st (far {a = n} k) h = halting (further (token_from n.to k.to)) h
      not_end_lem st (stopped k) h = halting k h

      procedure_end_lem : (L : Labelled) (st : State) → LaterLabels L → Fine st → FineTurn (procedure_end mixed s L st)
      procedure_end_lem L st l h =
          too_long_lem L.long _ _ l.is.long (λ q j. halting (there j) (more_fine st L.labels (label 0) l.is.named h))
          (when_has FineTurn (is_word "END" L.behind.token) _ _ (λ _. end_at_lem L.labels L.behind.to st.opened st l.is.named l.is.end h) λ _.
          not_end_lem _ (name_of_lem L.behind.token L.behind.from L.behind.to l.from l.is.end) (more_fine st L.labels (label 0) l.is.named h))

      inner_fine : (e : ℕ) (t : Lexeme) (st : State) → p < e → p < t.from → p < t.to → 0 < length st.opened → Fine st → FineTurn (inner_at mixed s e t st)
      unfolding inner_at
      inner_fine e t st i j k l h =
          when_has FineTurn (is_in_body (kind_of st.opened) && is_sign "%" t.token) _ _ (λ _. procedure_end_lem (labels mixed s t.to) st (labels_far (length s) [] [] t.to tt tt k) h) λ _.
          when_has FineTurn (begins t.token) _ _ (λ _. clause_fine t.from _ st (omega arith) (labels_far (length s) [] [] e tt tt i).is l h) λ _. halting (further j) h

      deep_fine : (c : ℕ) (st : State) (f : Unit {0} → Turn) → p < c → Fine st → FineTurn (f tt) → FineTurn (deep_enough c st f)
      unfolding deep_enough
      deep_fine c st f i h k = when_has FineTurn (leb (depth st.opened) open_groups) _ _ (λ _. k) λ _. stopping (further i) h.names (begins_more ps (places st.rows) (c ∷ []) h.rows)

      alternative_fine : (k : Scope) (e : ℕ) (t : Lexeme) (st : State) → p < e → p < t.from → p < t.to → 0 < length st.opened → Fine st → FineTurn (alternative_at mixed k s e t st)
      alternative_fine global e t st i j k l h =
          when_has FineTurn (is_sign "%" t.token) _ _ (λ _. deep_fine t.from st _ j h (clause_fine t.from _ st (omega arith) (labels_far (length s) [] [] t.to tt tt k).is l h)) λ _. halting (further j) h
      alternative_fine (inside r) e t st i j k l h =
          when_has FineTurn (begins t.token) _ _ (λ _. deep_fine t.from st _ j h (clause_fine t.from _ st (omega arith) (labels_far (length s) [] [] e tt tt i).is l h)) λ _. halting (further j) h

      turn_fine : (m : Mode) (e : ℕ) (st : State) → p < e → 0 < length st.opened → Fine st → FineTurn (turn mixed s m e st)
      unfolding turn
      turn_fine leading_text e st i l h = texted_fine (text_ends (suc (length s)) e i) _ (λ q. (lead_in_lem st.opened e q st l h).0) (λ q. (lead_in_lem st.opened e q st l h).1)
      turn_fine (text_behind n) e st i l h = texted_fine (text_ends (suc (length s)) e i) _ (λ q. l) (λ q. record { names = h.names; rows = rw (change_places n (set_text (R.stretch e q)) (λ r. refl) st.rows) h.rows })
      turn_fine alternative e st i l h = alternative_fine st.scope e (token_at mixed s e) st i (token_from e i) (token_to e i) l h
      turn_fine inner e st i l h = inner_fine e (token_at mixed s e) st i (token_from e i) (token_to e i) l h

    -- ---- the member
    abbrev pub FarFault : Fault → Type 0
    FarFault sound = Unit {0}
    FarFault (faulty w q) = Stops w q

    pub record Grown (x : Source) : Type 0 where
      pub names : FarNames x.declared
      pub begun : Begins ps x.begun
      pub fault : FarFault x.fault

    source_fine : (st : State) (begun : List ℕ) (f : Fault) → FarNames st.declared → Begins ps (places st.rows ++ begun) → FarFault f → Grown (R.source st begun f)
    source_fine st begun f h k l = record { names = h; begun = k; fault = l }

    read_fine : p < length s → (f : ℕ) {t : Turn} → FineTurn t → Grown (read_on mixed s f t)
    unfolding read_on
    read_fine low zero (going {m} {q} {st} k l h) = source_fine st [] (faulty Syntax q) h.names (begins_more ps (places st.rows) [] h.rows) (further k)
    read_fine low zero (stopping {w} {q} {begun = b} {st} k l h) = source_fine st b (faulty w q) l h k
    read_fine low zero (finishing {st} h) = source_fine st [] sound h.names (begins_more ps (places st.rows) [] h.rows) tt
    read_fine low (suc f) (going {m} {q} {st} k l h) = read_fine low f (turn_fine low m q st k l h)
    read_fine low (suc f) (stopping {w} {q} {begun = b} {st} k l h) = source_fine st b (faulty w q) l h k
    read_fine low (suc f) (finishing {st} h) = source_fine st [] sound h.names (begins_more ps (places st.rows) [] h.rows) tt

-- ---- a sentence begins at p: the clause there, from e on, is no END
pub record Sentence (s : List ℕ) (p e : ℕ) (st : State) : Type 0 where
  pub low : p < length s
  pub starts : Starts s p e
  pub some : 0 < length st.opened
  pub sentence : (is_in_group (kind_of st.opened) && is_end mixed s (labels mixed s e).behind) ≡ false

-- ---- WHAT IS READ FROM THERE has p as the next of its sentences, its fault is not sooner, and its names are not before p
pub sentence_grows : (s : List ℕ) (p e : ℕ) (st : State) → Sentence s p e st → FarNames s p st.declared → (f : ℕ) → Grown s p (places st.rows ++ p ∷ []) (read_on mixed s f (clause_at mixed s p e st))
unfolding clause_from
sentence_grows s p e st h k f =
    let ps : List ℕ = places st.rows ++ p ∷ [] in
    let l : Labels s p (labels mixed s e) = starts_labels s p e h.starts in
    let b : Begun s p ps p (labels mixed s e).labels st = record { names = k; named = l.named; rows = begins_self ps; some = h.some } in
    read_fine s p ps h.low f
    (when_has (FineTurn s p ps) (is_in_group (kind_of st.opened) && is_end mixed s (labels mixed s e).behind) _ _ (λ z. absurd (false≢true (sym h.sentence ∙ z))) λ _. sentence_fine s p ps p (labels mixed s e) st b l (omega arith))
