-- Where a turn of the definition goes on, its place lies within the body.
-- Assumes nothing.
use Prim.Native.Nat.{ℕ, zero, suc, ◌+◌, ◌≤◌}
use Prim.Native.String.{String}
use native.Mathlib.Omega.{arith}
use mathlib.Core.Bool.{Bool, true, false, not, ◌&&◌, ◌||◌}
use mathlib.Core.List.{List, [], ◌∷◌, ◌++◌}
use mathlib.Core.Path.{◌≡◌, refl}
use lib.Dec.{leb, ltb}
use lib.ListN.{length}
use Rattle.definition.specs.Bytes.{mixed}
use Rattle.definition.specs.Limits.{open_groups}
use Rattle.definition.specs.declared.Why.{Why}
use Rattle.definition.specs.declared.ValueType.{ValueType}
use Rattle.definition.specs.Tokens.{Token, word, integer, string, bits, sign, nothing, wrong, Lexeme, is_word, is_sign, token_at, TextEnd, percent_at, at_end, open_at, text_end}
use Rattle.definition.specs.Expressions.{Reading, read, refused, then, Tree, Parsed, expect_sign, expect_word, Named, name_of, name_at, whole_expression}
use Rattle.definition.specs.Deck.{Sought}
use Rattle.definition.specs.Program.{Bound, by, upto, Activation, Statement, null, Scope, global, inside, Meaning, parameter, Declared}
use Rattle.definition.specs.Statements as S
use Rattle.definition.specs.Statements.{Opens, opens_nothing, opens_group, opens_body, opens_then, Clause, clause, ended, assignment, then_word, if_clause, bound_at, do_bounds, do_clause, goto_clause, list_of, each_name, each_member, each_activation, include_clause, activate_clause, deactivate_clause, return_clause, Declaring, declared, undeclared, then_declare, means, names_at, attribute, declare_names, declare_next, declare_from, returns_type, procedure_head, procedure_clause}
use Rattle.definition.specs.Reading as R
use Rattle.definition.specs.Reading.{Where, in_program, in_group, in_body, in_then, in_else, Open, State, Mode, Turn, go, stop, finish, Else, else_to, no_else, else_word, else_at, elsed, complete_in, complete, Labelled, is_name, add_label, labels_from, labels, opened, taken, take_read, take_declared, is_declare, is_procedure, is_none, is_inside, is_list, kind_of, do_at, common, in_list, outer, by_word, by_name, by_token, end_name, may_name, end_read, end_at, is_in_group, is_in_body, is_full, is_end, long_label, clause_from, clause_at, texted, not_end, procedure_end, begins, inner_at, depth, deep_enough, alternative_at, leading_text, text_behind, alternative, inner, turn}
use Rattle.definition.proofs.Choices.{when_has, cond_has}
use Rattle.definition.proofs.Ends.{token_at_lies, Past, Reads, reads, refuses, expression_end}
use Rattle.tokens.proofs.Pieces.{percent_there}

then_in : {A B : Type 0} {P : A → Type 0} {Q : B → Type 0} {r : Reading A} (f : A → Reading B) → Reads P r → ((a : A) → P a → Reads Q (f a)) → Reads Q (then r f)
then_in f (reads {a} h) k = k a h
then_in f refuses k = refuses

module _ (s : List ℕ) where
  abbrev In : ℕ → Type 0
  In e = e ≤ length s

  token_in : (e : ℕ) → In e → In (token_at mixed s e).to
  token_in e h = (token_at_lies s e h).high

  sign_in_lem : (w : String) (e : ℕ) → In e → Reads In (expect_sign mixed w s e)
  unfolding expect_sign
  sign_in_lem w e h = cond_has (Reads In) (is_sign w (token_at mixed s e).token) _ _ (λ _. reads (token_in e h)) λ _. refuses

  word_in : (w : String) (e : ℕ) → In e → Reads In (expect_word mixed w s e)
  unfolding expect_word
  word_in w e h = cond_has (Reads In) (is_word w (token_at mixed s e).token) _ _ (λ _. reads (token_in e h)) λ _. refuses

  abbrev NameIn : Named → Type 0
  NameIn n = In n.to

  name_of_lem : (t : Token) (a b : ℕ) → In b → Reads NameIn (name_of t a b)
  name_of_lem (word w) a b h = cond_has (Reads NameIn) (leb (length w) 31) _ _ (λ _. reads h) λ _. refuses
  name_of_lem (integer w) a b h = refuses
  name_of_lem (string w) a b h = refuses
  name_of_lem (bits w) a b h = refuses
  name_of_lem (sign w) a b h = refuses
  name_of_lem nothing a b h = refuses
  name_of_lem wrong a b h = refuses

  name_in_lem : (e : ℕ) → In e → Reads NameIn (name_at mixed s e)
  unfolding name_at
  name_in_lem e h = name_of_lem (token_at mixed s e).token (token_at mixed s e).from (token_at mixed s e).to (token_in e h)

  abbrev ParsedIn : Parsed → Type 0
  ParsedIn r = In r.to

  past_in : (e : ℕ) {r : Reading Parsed} → Reads (λ (x : Parsed). Past s e x.to) r → Reads ParsedIn r
  past_in e (reads h) = reads h.within
  past_in e refuses = refuses

  whole_in : (e : ℕ) → In e → Reads ParsedIn (whole_expression mixed s e)
  whole_in e h = past_in e (expression_end s 16 e h)

  -- ---- statements that declare nothing
  abbrev Closes : Clause → Type 0
  Closes c = In c.to

  ended_in : (x : Statement) (e : ℕ) → In e → Reads Closes (ended mixed s x e)
  unfolding ended
  ended_in x e k = then_in _ (sign_in_lem ";" e k) λ q i. reads i

  assignment_in : (w : List ℕ) (e : ℕ) → In e → Reads Closes (assignment mixed s w e)
  unfolding assignment
  assignment_in w e k = then_in _ (whole_in e k) λ r i. ended_in _ r.to i

  then_word_lem : (b : Bool) (e : ℕ) → In e → Reads In (then_word mixed b s e)
  unfolding then_word
  then_word_lem true e k = word_in "THEN" e k
  then_word_lem false e k = then_in _ (sign_in_lem "%" e k) λ q i. word_in "THEN" q i

  if_in : (b : Bool) (e : ℕ) → In e → Reads Closes (if_clause mixed b s e)
  unfolding if_clause
  if_in b e k = then_in _ (whole_in e k) λ r i. then_in _ (then_word_lem b r.to i) λ q j. reads j

  bound_in_lem : (w : String) (make : Tree → Bound) (bs : List Bound) (e : ℕ) (f : List Bound → ℕ → Reading Clause) (g : Unit {0} → Reading Clause)
      → In e → ((cs : List Bound) (q : ℕ) → In q → Reads Closes (f cs q)) → Reads Closes (g tt) → Reads Closes (bound_at mixed w make s bs e f g)
  unfolding bound_at
  bound_in_lem w make bs e f g k h l = when_has (Reads Closes) (is_word w (token_at mixed s e).token) _ _ (λ _. then_in _ (whole_in (token_at mixed s e).to (token_in e k)) λ r i. h _ r.to i) λ _. l

  do_end : (make : List Bound → Statement) (bs : List Bound) (e : ℕ) → In e → Reads Closes (then (expect_sign mixed ";" s e) λ q. read (clause (make bs) opens_group q))
  do_end make bs e k = then_in _ (sign_in_lem ";" e k) λ q i. reads i

  bounds_in : (make : List Bound → Statement) (e : ℕ) → In e → Reads Closes (do_bounds mixed s make e)
  unfolding do_bounds
  bounds_in make e k =
      bound_in_lem "BY" by [] e _ _ k (λ bs q i. bound_in_lem "TO" upto bs q _ _ i (λ cs z j. do_end make cs z j) (do_end make bs q i))
      (bound_in_lem "TO" upto [] e _ _ k (λ bs q i. bound_in_lem "BY" by bs q _ _ i (λ cs z j. do_end make cs z j) (do_end make bs q i)) (do_end make [] e k))

  do_in : (e : ℕ) → In e → Reads Closes (do_clause mixed s e)
  unfolding do_clause
  do_in e k =
      when_has (Reads Closes) (is_sign ";" (token_at mixed s e).token) _ _ (λ _. reads (token_in e k)) λ _.
      then_in _ (name_in_lem e k) λ n i. then_in _ (sign_in_lem "=" n.to i) λ q j. then_in _ (whole_in q j) λ r l. bounds_in _ r.to l

  goto_in : (e : ℕ) → In e → Reads Closes (goto_clause mixed s e)
  unfolding goto_clause
  goto_in e k = then_in _ (name_in_lem e k) λ n i. ended_in _ n.to i

  list_of_lem : {A : Type 0} (each : List ℕ → ℕ → (A → ℕ → Reading Clause) → Reading Clause) (make : List A → Statement)
      → ((e : ℕ) (f : A → ℕ → Reading Clause) → In e → ((x : A) (q : ℕ) → In q → Reads Closes (f x q)) → Reads Closes (each s e f))
      → (f : ℕ) (xs : List A) (e : ℕ) → In e → Reads Closes (list_of mixed each make s f xs e)
  unfolding list_of
  list_of_lem each make h zero xs e k = refuses
  list_of_lem each make h (suc f) xs e k =
      h e _ k λ x q i. when_has (Reads Closes) (is_sign "," (token_at mixed s q).token) _ _ (λ _. list_of_lem each make h f _ (token_at mixed s q).to (token_in q i)) λ _. ended_in _ q i

  each_name_lem : (e : ℕ) (f : List ℕ → ℕ → Reading Clause) → In e → ((x : List ℕ) (q : ℕ) → In q → Reads Closes (f x q)) → Reads Closes (each_name mixed s e f)
  each_name_lem e f k h = then_in _ (name_in_lem e k) λ n i. h n.spelling n.to i

  each_activation_lem : (e : ℕ) (f : Activation → ℕ → Reading Clause) → In e → ((x : Activation) (q : ℕ) → In q → Reads Closes (f x q)) → Reads Closes (each_activation mixed s e f)
  each_activation_lem e f k h =
      then_in _ (name_in_lem e k) λ n i.
      when_has (Reads Closes) (is_word "NORESCAN" (token_at mixed s n.to).token) _ _ (λ _. h _ _ (token_in n.to i)) λ _.
      when_has (Reads Closes) (is_word "RESCAN" (token_at mixed s n.to).token) _ _ (λ _. h _ _ (token_in n.to i)) λ _. h _ _ i

  each_member_lem : (e : ℕ) (f : Sought → ℕ → Reading Clause) → In e → ((x : Sought) (q : ℕ) → In q → Reads Closes (f x q)) → Reads Closes (each_member mixed s e f)
  each_member_lem e f k h =
      then_in _ (name_in_lem e k) λ n i.
      when_has (Reads Closes) (is_sign "(" (token_at mixed s n.to).token) _ _
      (λ _. then_in _ (name_in_lem (token_at mixed s n.to).to (token_in n.to i)) λ m j. then_in _ (sign_in_lem ")" m.to j) λ q l. h _ q l) λ _. h _ _ i

  include_in : (e : ℕ) → In e → Reads Closes (include_clause mixed s e)
  unfolding include_clause
  include_in e k = list_of_lem (each_member mixed) _ each_member_lem (length s) [] e k

  deactivate_in : (e : ℕ) → In e → Reads Closes (deactivate_clause mixed s e)
  unfolding deactivate_clause
  deactivate_in e k = list_of_lem (each_name mixed) _ each_name_lem (length s) [] e k

  activate_in : (e : ℕ) → In e → Reads Closes (activate_clause mixed s e)
  unfolding activate_clause
  activate_in e k = list_of_lem (each_activation mixed) _ each_activation_lem (length s) [] e k

  return_in : (e : ℕ) → In e → Reads Closes (return_clause mixed s e)
  unfolding return_clause
  return_in e k = then_in _ (sign_in_lem "(" e k) λ q i. then_in _ (whole_in q i) λ r j. then_in _ (sign_in_lem ")" r.to j) λ z l. ended_in _ z l

  -- ---- and those that declare
  data DeclaresIn : Declaring → Type 0 where
    declares : {c : Clause} {ds : List Declared} → In c.to → DeclaresIn (declared c ds)
    fails : {w : Why} {q : ℕ} {ds : List Declared} → DeclaresIn (undeclared w q ds)

  then_declare_lem : {A : Type 0} {P : A → Type 0} {r : Reading A} (ds : List Declared) (f : A → Declaring) → Reads P r → ((a : A) → P a → DeclaresIn (f a)) → DeclaresIn (then_declare ds r f)
  then_declare_lem ds f (reads {a} i) k = k a i
  then_declare_lem ds f refuses k = fails

  names_at_lem : (k : Scope) (m : Meaning) (ds : List Declared) (f : ℕ) (ns : List Named) (e : ℕ) (g : List Named → ℕ → Declaring) → In e → ((ms : List Named) (q : ℕ) → In q → DeclaresIn (g ms q)) → DeclaresIn (names_at mixed k m s ds f ns e g)
  unfolding names_at
  names_at_lem k m ds zero ns e g i j = fails
  names_at_lem k m ds (suc f) ns e g i j =
      then_declare_lem (ds ++ means k m ns) _ (name_in_lem e i) λ x z.
      when_has DeclaresIn (is_sign "," (token_at mixed s x.to).token) _ _ (λ _. names_at_lem k m ds f (ns ++ x ∷ []) (token_at mixed s x.to).to g (token_in x.to z) j) λ _.
      then_declare_lem (ds ++ means k m (ns ++ x ∷ [])) _ (sign_in_lem ")" x.to z) λ q y. j _ q y

  attribute_in : (k : Scope) (t : Token) (a b : ℕ) (f : Meaning → ℕ → Declaring) (g : Unit {0} → Declaring) → ((m : Meaning) → DeclaresIn (f m b)) → DeclaresIn (g tt) → DeclaresIn (attribute k t a b f g)
  unfolding attribute
  attribute_in global t a b f g h i =
      when_has DeclaresIn (S.is_character t) _ _ (λ _. h _) λ _. when_has DeclaresIn (is_word "FIXED" t) _ _ (λ _. h _) λ _. when_has DeclaresIn (is_word "ENTRY" t) _ _ (λ _. h _) λ _. i
  attribute_in (inside r) t a b f g h i =
      when_has DeclaresIn (S.is_character t) _ _ (λ _. h _) λ _. when_has DeclaresIn (is_word "FIXED" t) _ _ (λ _. h _) λ _. when_has DeclaresIn (is_word "BUILTIN" t) _ _ (λ _. h _) λ _. i

  declare_names_lem : (k : Scope) (ds : List Declared) (ns : List Named) (e : ℕ) (g : List Declared → ℕ → Declaring) → In e → ((es : List Declared) (q : ℕ) → In q → DeclaresIn (g es q)) → DeclaresIn (declare_names mixed k s ds ns e g)
  unfolding declare_names
  declare_names_lem k ds ns e g i j = attribute_in k (token_at mixed s e).token (token_at mixed s e).from (token_at mixed s e).to _ _ (λ m. j _ _ (token_in e i)) fails

  declare_next_lem : (g : List Declared → ℕ → Declaring) → ((es : List Declared) (q : ℕ) → In q → DeclaresIn (g es q)) → (ds : List Declared) (e : ℕ) → In e → DeclaresIn (declare_next mixed s g ds e)
  unfolding declare_next
  declare_next_lem g j ds e i = when_has DeclaresIn (is_sign "," (token_at mixed s e).token) _ _ (λ _. j ds _ (token_in e i)) λ _. then_declare_lem ds _ (sign_in_lem ";" e i) λ q z. declares z

  declare_in : (k : Scope) (f : ℕ) (ds : List Declared) (e : ℕ) → In e → DeclaresIn (declare_from mixed k s f ds e)
  unfolding declare_from
  declare_in k zero ds e i = fails
  declare_in k (suc f) ds e i =
      when_has DeclaresIn (is_sign "(" (token_at mixed s e).token) _ _
      (λ _. names_at_lem k _ ds (length s) [] (token_at mixed s e).to _ (token_in e i) λ ns q j. declare_names_lem k ds ns q _ j (declare_next_lem _ (λ es z. declare_in k f es z))) λ _.
      then_declare_lem ds _ (name_in_lem e i) λ n j. declare_names_lem k ds (n ∷ []) n.to _ j (declare_next_lem _ (λ es z. declare_in k f es z))

  returns_in : (e : ℕ) (g : ValueType → ℕ → Declaring) (ds : List Declared) → In e → ((t : ValueType) (q : ℕ) → In q → DeclaresIn (g t q)) → DeclaresIn (returns_type mixed s e g ds)
  unfolding returns_type
  returns_in e g ds i j =
      then_declare_lem ds _ (word_in "RETURNS" e i) λ q k. then_declare_lem ds _ (sign_in_lem "(" q k) λ z l.
      when_has DeclaresIn (S.is_character (token_at mixed s z).token) _ _ (λ _. j _ _ (token_in z l)) λ _. then_declare_lem ds _ (word_in "FIXED" z l) λ y m. j _ y m

  head_in : (k : Scope) (ns : List Named) (e : ℕ) → In e → DeclaresIn (procedure_head mixed k s ns e)
  unfolding procedure_head
  head_in k ns e i =
      returns_in e _ (means k parameter ns) i λ t q j.
      then_declare_lem (means k parameter ns) _ (sign_in_lem ")" q j) λ z m. then_declare_lem (means k parameter ns) _ (sign_in_lem ";" z m) λ y n. declares n

  procedure_in : (k : Scope) (e : ℕ) → In e → DeclaresIn (procedure_clause mixed k s e)
  unfolding procedure_clause
  procedure_in k e i =
      when_has DeclaresIn (is_sign "(" (token_at mixed s e).token) _ _
      (λ _. names_at_lem k parameter [] (length s) [] (token_at mixed s e).to _ (token_in e i) λ ns q j. head_in k ns q j) λ _. head_in k [] e i

  -- ---- labels
  abbrev LabelsIn : Labelled → Type 0
  LabelsIn L = In L.behind.to

  add_label_lem : (r : Reading Named) (ns : List Named) (long : List ℕ) (f : List Named → List ℕ → Labelled) → ((ms : List Named) (qs : List ℕ) → LabelsIn (f ms qs)) → LabelsIn (add_label r ns long f)
  add_label_lem (read n) ns long f g = g _ _
  add_label_lem (refused w q) ns long f g = g _ _

  labels_in : (f : ℕ) (ns : List Named) (long : List ℕ) (e : ℕ) → In e → LabelsIn (labels_from mixed s f ns long e)
  unfolding labels_from
  labels_in zero ns long e i = token_in e i
  labels_in (suc f) ns long e i =
      when_has LabelsIn (is_name (token_at mixed s e).token && is_sign ":" (token_at mixed s (token_at mixed s e).to).token) _ _
      (λ _. add_label_lem (name_of (token_at mixed s e).token (token_at mixed s e).from (token_at mixed s e).to) ns long _ λ ms qs. labels_in f ms qs _ (token_in (token_at mixed s e).to (token_in e i))) λ _. token_in e i

  -- ---- turns
  abbrev pub InTurn : Turn → Type 0
  InTurn (go m q st) = In q
  InTurn (stop w p begun st) = Unit {0}
  InTurn (finish st) = Unit {0}

  abbrev ElseIn : Else → Type 0
  ElseIn (else_to q) = In q
  ElseIn no_else = Unit {0}

  else_word_lem : (t : Lexeme) → In t.to → ElseIn (else_word mixed s t)
  unfolding else_word
  else_word_lem t h = cond_has ElseIn (is_word "ELSE" t.token && R.is_decided (token_at mixed s t.to).token) _ _ (λ _. h) λ _. tt

  else_in : (b : Bool) (e : ℕ) → In e → ElseIn (else_at mixed b s e)
  unfolding else_at
  else_in true e h = else_word_lem (token_at mixed s e) (token_in e h)
  else_in false e h = when_has ElseIn (is_sign "%" (token_at mixed s e).token) _ _ (λ _. else_word_lem (token_at mixed s (token_at mixed s e).to) (token_in (token_at mixed s e).to (token_in e h))) λ _. tt

  elsed_in : (x : Else) (i : ℕ) (os : List Open) (st : State) (f : Unit {0} → Turn) → ElseIn x → InTurn (f tt) → InTurn (elsed x i os st f)
  elsed_in (else_to q) i os st f k g = k
  elsed_in no_else i os st f k g = g

  complete_by : (k : Where) (i : ℕ) (os : List Open) (n e : ℕ) (st : State) (f : ℕ → Turn) → In e → InTurn (f i) → InTurn (complete_in mixed k s i os n e st f)
  complete_by in_program i os n e st f k g = k
  complete_by in_group i os n e st f k g = k
  complete_by in_body i os n e st f k g = k
  complete_by in_then i os n e st f k g = elsed_in (else_at mixed (is_inside st.scope) s e) i os st _ (else_in (is_inside st.scope) e k) g
  complete_by in_else i os n e st f k g = g

  complete_in_lem : (os : List Open) (n e : ℕ) (st : State) → In e → InTurn (complete mixed s os n e st)
  unfolding complete
  complete_in_lem [] n e st k = tt
  complete_in_lem (o ∷ os) n e st k = complete_by o.kind o.row os n e _ _ k (complete_in_lem os o.row e st k)

  opened_in : (o : Opens) (n : ℕ) (ns : List Named) (e : ℕ) (st : State) → In e → InTurn (opened mixed o s n ns e st)
  opened_in opens_nothing n ns e st k = complete_in_lem st.opened n e st k
  opened_in opens_group n ns e st k = k
  opened_in opens_body n ns e st k = k
  opened_in opens_then n ns e st k = k

  module _ (c : ℕ) (ns : List Named) (st : State) where
    taken_in_lem : (x : Clause) (es : List Declared) → In x.to → InTurn (taken mixed s c ns st x es)
    unfolding taken
    taken_in_lem x es k = opened_in x.opens (length st.rows) ns x.to _ k

    take_read_lem : {r : Reading Clause} → Reads Closes r → InTurn (take_read mixed s c ns st r)
    take_read_lem (reads {a = x} k) = taken_in_lem x [] k
    take_read_lem refuses = tt

    take_declared_lem : {r : Declaring} → DeclaresIn r → InTurn (take_declared mixed s c ns st r)
    take_declared_lem (declares {c = x} {ds = es} k) = taken_in_lem x es k
    take_declared_lem fails = tt

    do_at_lem : (a b : ℕ) → In b → Reads Closes (do_at mixed s a b st)
    unfolding do_at
    do_at_lem a b j = when_has (Reads Closes) (ltb (depth st.opened) open_groups) _ _ (λ _. do_in b j) λ _. refuses

    common_in : (t : Lexeme) (g : Unit {0} → Turn) → In t.to → InTurn (g tt) → InTurn (common mixed s t st (take_read mixed s c ns st) g)
    unfolding common
    common_in t g j k =
        when_has InTurn (is_word "IF" t.token) _ _ (λ _. take_read_lem (if_in (is_inside st.scope) t.to j)) λ _.
        when_has InTurn (is_word "DO" t.token) _ _ (λ _. take_read_lem (do_at_lem t.from t.to j)) λ _.
        when_has InTurn (is_word "GOTO" t.token) _ _ (λ _. take_read_lem (goto_in t.to j)) λ _.
        when_has InTurn (is_word "GO" t.token) _ _ (λ _. take_read_lem (then_in _ (word_in "TO" t.to j) λ q l. goto_in q l)) λ _. k

    list_in : (t : Lexeme) (g : Unit {0} → Turn) → In t.to → InTurn (g tt) → InTurn (in_list mixed s c ns t st g)
    unfolding in_list
    list_in t g j k =
        when_has InTurn (is_list (kind_of st.opened) && is_declare t.token) _ _ (λ _. take_declared_lem (declare_in st.scope (length s) [] t.to j)) λ _.
        when_has InTurn (is_list (kind_of st.opened) && not (is_inside st.scope) && not (is_none ns) && is_procedure t.token) _ _ (λ _. take_declared_lem (procedure_in (inside (length st.rows)) t.to j)) λ _. k

    outer_in : (k : Scope) (t : Lexeme) (g : Unit {0} → Turn) → In t.to → InTurn (g tt) → InTurn (outer mixed k s t (take_read mixed s c ns st) g)
    outer_in global t g j k =
        when_has InTurn (is_word "INCLUDE" t.token) _ _ (λ _. take_read_lem (include_in t.to j)) λ _.
        when_has InTurn (is_word "ACTIVATE" t.token || is_word "ACT" t.token) _ _ (λ _. take_read_lem (activate_in t.to j)) λ _.
        when_has InTurn (is_word "DEACTIVATE" t.token || is_word "DEACT" t.token) _ _ (λ _. take_read_lem (deactivate_in t.to j)) λ _. k
    outer_in (inside r) t g j k = when_has InTurn (is_word "RETURN" t.token) _ _ (λ _. take_read_lem (return_in t.to j)) λ _. k

    by_word_lem : (w : List ℕ) (t u : Lexeme) → In t.to → In u.to → InTurn (by_word mixed s c ns w t u st)
    unfolding by_word
    by_word_lem w t u j l =
        when_has InTurn (is_sign "=" u.token) _ _ (λ _. take_read_lem (assignment_in w u.to l)) λ _.
        common_in t _ j (outer_in st.scope t _ j (list_in t _ j tt))

    by_name_lem : (n : Reading Named) (t : Lexeme) → In t.to → InTurn (by_name mixed n s c ns t st)
    by_name_lem (read n) t j = by_word_lem n.spelling t (token_at mixed s t.to) j (token_in t.to j)
    by_name_lem (refused w q) t j = tt

    by_token_lem : (x : Token) (t : Lexeme) → In t.to → InTurn (by_token mixed x s c ns t st)
    by_token_lem (word w) t j = by_name_lem (name_of (word w) t.from t.to) t j
    by_token_lem (integer w) t j = tt
    by_token_lem (string w) t j = tt
    by_token_lem (bits w) t j = tt
    by_token_lem (sign w) t j = when_has InTurn (is_sign ";" (sign w)) _ _ (λ _. taken_in_lem (clause null opens_nothing t.to) [] j) λ _. tt
    by_token_lem nothing t j = tt
    by_token_lem wrong t j = tt

  -- ---- END
  end_name_lem : (ls : List (List ℕ)) (e : ℕ) → In e → Reads In (end_name mixed s ls e)
  unfolding end_name
  end_name_lem ls e k =
      when_has (Reads In) (is_sign ";" (token_at mixed s e).token) _ _ (λ _. reads (token_in e k)) λ _.
      when_has (Reads In) (may_name (token_at mixed s e).token ls) _ _
      (λ _. when_has (Reads In) (is_sign ";" (token_at mixed s (token_at mixed s e).to).token) _ _ (λ _. reads (token_in (token_at mixed s e).to (token_in e k))) λ _. refuses)
      λ _. refuses

  end_read_lem : (ns : List Named) (o : Open) (os : List Open) (st : State) {r : Reading ℕ} → Reads In r → InTurn (end_read mixed s ns o os st r)
  end_read_lem ns o os st (reads {a = e} k) = complete_in_lem os o.row e _ k
  end_read_lem ns o os st refuses = tt

  end_at_lem : (ns : List Named) (e : ℕ) (os : List Open) (st : State) → In e → InTurn (end_at mixed s ns e os st)
  end_at_lem ns e [] st k = tt
  end_at_lem ns e (o ∷ os) st k = end_read_lem ns o os st (end_name_lem o.labels e k)

  too_long_lem : (qs : List ℕ) (f : ℕ → Turn) (g : Unit {0} → Turn) → ((q : ℕ) → InTurn (f q)) → InTurn (g tt) → InTurn (long_label qs f g)
  too_long_lem [] f g j k = k
  too_long_lem (q ∷ qs) f g j k = j q

  clause_in_lem : (p at : ℕ) (st : State) → In at → InTurn (clause_at mixed s p at st)
  unfolding clause_from
  clause_in_lem p at st i =
      let j : In (labels mixed s at).behind.to = labels_in (length s) [] [] at i in
      when_has InTurn (is_in_group (kind_of st.opened) && is_end mixed s (labels mixed s at).behind) _ _
      (λ _. too_long_lem (labels mixed s at).long _ _ (λ q. tt) (end_at_lem (labels mixed s at).labels (labels mixed s at).behind.to st.opened st j)) λ _.
      when_has InTurn (is_full st) _ _ (λ _. tt) λ _.
      too_long_lem (labels mixed s at).long _ _ (λ q. tt) (by_token_lem p (labels mixed s at).labels st (labels mixed s at).behind.token (labels mixed s at).behind j)

  texted_in : (q : ℕ) (E : TextEnd) → text_end mixed (suc (length s)) s q ≡ E → (f : ℕ → State) → InTurn (texted mixed E s f)
  texted_in q (percent_at p) e f = clause_in_lem p (p + 1) (f p) (omega (arith, (percent_there (suc (length s)) s q p e).inside))
  texted_in q at_end e f = cond_has InTurn (leb (length (f 0).opened) 1) _ _ (λ _. tt) λ _. tt
  texted_in q (open_at p) e f = tt

  not_end_lem : (n : Reading Named) (st : State) → InTurn (not_end mixed n s st)
  not_end_lem (read n) st = tt
  not_end_lem (refused w p) st = tt

  procedure_end_lem : (at : ℕ) (st : State) → In at → InTurn (procedure_end mixed s (labels mixed s at) st)
  procedure_end_lem at st i =
      too_long_lem (labels mixed s at).long _ _ (λ q. tt)
      (when_has InTurn (is_word "END" (labels mixed s at).behind.token) _ _ (λ _. end_at_lem (labels mixed s at).labels (labels mixed s at).behind.to st.opened st (labels_in (length s) [] [] at i)) λ _.
      not_end_lem (name_of (labels mixed s at).behind.token (labels mixed s at).behind.from (labels mixed s at).behind.to) _)

  inner_in : (at : ℕ) (st : State) → In at → InTurn (inner_at mixed s at (token_at mixed s at) st)
  unfolding inner_at
  inner_in at st i =
      when_has InTurn (is_in_body (kind_of st.opened) && is_sign "%" (token_at mixed s at).token) _ _ (λ _. procedure_end_lem (token_at mixed s at).to st (token_in at i)) λ _.
      when_has InTurn (begins (token_at mixed s at).token) _ _ (λ _. clause_in_lem (token_at mixed s at).from at st i) λ _. tt

  deep_in : (p : ℕ) (st : State) (f : Unit {0} → Turn) → InTurn (f tt) → InTurn (deep_enough p st f)
  unfolding deep_enough
  deep_in p st f k = when_has InTurn (leb (depth st.opened) open_groups) _ _ (λ _. k) λ _. tt

  alternative_in : (k : Scope) (at : ℕ) (st : State) → In at → InTurn (alternative_at mixed k s at (token_at mixed s at) st)
  alternative_in global at st i =
      when_has InTurn (is_sign "%" (token_at mixed s at).token) _ _ (λ _. deep_in (token_at mixed s at).from st _ (clause_in_lem (token_at mixed s at).from (token_at mixed s at).to st (token_in at i))) λ _. tt
  alternative_in (inside r) at st i =
      when_has InTurn (begins (token_at mixed s at).token) _ _ (λ _. deep_in (token_at mixed s at).from st _ (clause_in_lem (token_at mixed s at).from at st i)) λ _. tt

  -- EVERY TURN
  pub turn_in : (m : Mode) (at : ℕ) (st : State) → In at → InTurn (turn mixed s m at st)
  unfolding turn
  turn_in leading_text at st i = texted_in at (text_end mixed (suc (length s)) s at) refl _
  turn_in (text_behind n) at st i = texted_in at (text_end mixed (suc (length s)) s at) refl _
  turn_in alternative at st i = alternative_in st.scope at st i
  turn_in inner at st i = inner_in at st i
