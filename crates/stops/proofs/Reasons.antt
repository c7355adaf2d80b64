-- Why a member is not read, and where: for 3, 4 or 5, at a place in its body. Its rows and names have places there too.
-- Assumes nothing.
use Prim.Native.Nat.{ℕ, zero, suc, ◌+◌, ◌≤◌}
use Prim.Native.Char.{code}
use Prim.Native.String.{String}
use native.Mathlib.Omega.{arith}
use mathlib.Core.Bool.{Bool, true, false, not, cond, ◌&&◌, ◌||◌}
use mathlib.Core.List.{List, [], ◌∷◌, ◌++◌}
use lib.Dec.{leb, ltb, eqb}
use lib.ListN.{length, get_or}
use borrow.Author.Tests.{leb-false}
use Rattle.definition.specs.declared.Why.{Why}
use Rattle.definition.specs.declared.Why.TheVariants as Y
use Rattle.definition.specs.declared.Operator.{Operator}
use Rattle.definition.specs.declared.Prefix.{Prefix}
use Rattle.definition.specs.declared.ValueType.{ValueType}
use Rattle.definition.specs.Bytes.{mixed}
use Rattle.definition.specs.Choice.{when}
use Rattle.definition.specs.Limits.{name_length, open_parentheses, open_groups}
use Rattle.definition.specs.Tokens as T
use Rattle.definition.specs.Tokens.{Token, word, integer, string, bits, sign, nothing, wrong, Lexeme, is_word, is_sign, token_at, Piece, piece_at, TextEnd, percent_at, at_end, open_at, text_end}
use Rattle.definition.specs.Expressions.{Reading, read, refused, then, Tree, Parsed, Maybe, is, no_operator, expect_sign, expect_word, Named, name_of, name_at, Reader, arguments, reference_at, primitive, prefixed, prefix_of, operand, infix_of, chained, chain, levels, expression, whole_expression}
use Rattle.definition.specs.Program.{Bound, by, upto, Statement, activate, deactivate, include, Link, nowhere, row, listed, then_part, else_part, Row, Scope, global, inside, Meaning, label, Declared, Fault, sound, faulty, Source}
use Rattle.definition.specs.Statements.{Opens, opens_nothing, opens_group, opens_body, opens_then, Clause, clause, ended, assignment, then_word, if_clause, bound_at, do_bounds, do_clause, goto_clause, list_of, each_name, each_member, include_clause, deactivate_clause, each_activation, activate_clause, return_clause, Declaring, declared, undeclared, then_declare, means, names_at, is_character, attribute, declare_names, declare_next, declare_from, returns_type, procedure_head, procedure_clause}
use Rattle.definition.specs.Reading as R
use Rattle.definition.specs.Reading.{Where, in_program, in_group, in_body, in_then, in_else, Open, kind_of, is_in_group, is_in_body, is_list, State, is_inside, depth, change, set_next, set_child, set_other, set_lead, set_text, new_row, linked, add_in, add_to, add_row, Mode, leading_text, text_behind, alternative, inner, Turn, go, stop, finish, is_decided, Else, else_to, no_else, else_word, else_at, elsed, complete_in, complete, Labelled, label_meaning, is_name, add_label, labels_from, labels, opened, taken, untaken, take_read, take_declared, is_none, is_declare, is_procedure, do_at, common, in_list, outer, by_word, by_name, by_token, may_name, end_name, end_read, end_at, is_full, is_end, long_label, clause_from, texted, lead_in, not_end, procedure_end, begins, inner_at, deep_enough, alternative_at, turn, places, read_on, read_member}
use Rattle.definition.proofs.Choices.{when_has, cond_has}
use Rattle.definition.proofs.Ends.{token_at_lies}

-- 3 to 19
abbrev pub Late : Why → Type 0
Late Y.MalformedDeck = ⊥
Late Y.ShortRoom = ⊥
Late Y.Syntax = Unit {0}
Late Y.OverLimit = Unit {0}
Late Y.DeclaredTwice = Unit {0}
Late Y.WrongName = Unit {0}
Late Y.NoValue = Unit {0}
Late Y.NoConversion = Unit {0}
Late Y.OutOfRange = Unit {0}
Late Y.ZeroDivisor = Unit {0}
Late Y.WrongArguments = Unit {0}
Late Y.WronglyRun = Unit {0}
Late Y.WrongGoto = Unit {0}
Late Y.UnknownMember = Unit {0}
Late Y.TooDeep = Unit {0}
Late Y.TooLong = Unit {0}
Late Y.RoomFull = Unit {0}
Late Y.NoStep = Unit {0}
Late Y.SubstrOutside = Unit {0}
Late Y.UnevenBody = ⊥

pub choice : {A : Type 0} (P : A → Type 0) (t : Bool) (f g : Unit {0} → A) → P (f tt) → P (g tt) → P (when t f g)
choice P t f g h k = when_has P t f g (λ _. h) (λ _. k)

pub pick : {A : Type 0} (P : A → Type 0) (t : Bool) (x y : A) → P x → P y → P (cond t x y)
pick P t x y h k = cond_has P t x y (λ _. h) (λ _. k)

module _ (s : List ℕ) where
  abbrev pub In : ℕ → Type 0
  In p = p ≤ length s

  abbrev pub AllIn : List ℕ → Type 0
  AllIn [] = Unit {0}
  AllIn (p ∷ ps) = In p × AllIn ps

  all_in : (ps qs : List ℕ) → AllIn ps → AllIn qs → AllIn (ps ++ qs)
  all_in [] qs h k = k
  all_in (p ∷ ps) qs h k = (h.0, all_in ps qs h.1 k)

  -- ---- what reading gives, or a late refusal in the body
  data Reads {A : Type 0} (P : A → Type 0) : Reading A → Type 0 where
    there : {a : A} → P a → Reads P (read a)
    late : {e : Why} {p : ℕ} → Late e → In p → Reads P (refused e p)

  then_reads : {A B : Type 0} {P : A → Type 0} {Q : B → Type 0} {r : Reading A} {f : A → Reading B} → Reads P r → ((a : A) → P a → Reads Q (f a)) → Reads Q (then r f)
  then_reads (there {a} h) k = k a h
  then_reads (late h i) k = late h i

  -- ---- tokens
  from_in : (e : ℕ) → In e → In (token_at mixed s e).from
  from_in e h = omega (arith, (token_at_lies s e h).order, (token_at_lies s e h).high)

  to_in : (e : ℕ) → In e → In (token_at mixed s e).to
  to_in e h = (token_at_lies s e h).high

  expect_sign_lem : (w : String) (at : ℕ) → In at → Reads In (expect_sign mixed w s at)
  unfolding expect_sign
  expect_sign_lem w at i = pick (Reads In) (is_sign w (token_at mixed s at).token) _ _ (there (to_in at i)) (late tt (from_in at i))

  expect_word_lem : (w : String) (at : ℕ) → In at → Reads In (expect_word mixed w s at)
  unfolding expect_word
  expect_word_lem w at i = pick (Reads In) (is_word w (token_at mixed s at).token) _ _ (there (to_in at i)) (late tt (from_in at i))

  abbrev NameIn : Named → Type 0
  NameIn n = In n.place × In n.to

  name_of_lem : (t : Token) (from to : ℕ) → In from → In to → Reads NameIn (name_of t from to)
  name_of_lem (word w) from to i j = pick (Reads NameIn) (leb (length w) name_length) _ _ (there (i, j)) (late tt i)
  name_of_lem (integer w) from to i j = late tt i
  name_of_lem (string w) from to i j = late tt i
  name_of_lem (bits w) from to i j = late tt i
  name_of_lem (sign w) from to i j = late tt i
  name_of_lem nothing from to i j = late tt i
  name_of_lem wrong from to i j = late tt i

  name_at_lem : (at : ℕ) → In at → Reads NameIn (name_at mixed s at)
  unfolding name_at
  name_at_lem at i = name_of_lem (token_at mixed s at).token (token_at mixed s at).from (token_at mixed s at).to (from_in at i) (to_in at i)

  -- ---- expressions
  abbrev ParsedIn : Parsed → Type 0
  ParsedIn r = In r.to

  abbrev ReadsIn : Reading Parsed → Type 0
  ReadsIn r = Reads ParsedIn r

  abbrev ReaderIn : Reader → Type 0
  ReaderIn f = (at : ℕ) → In at → ReadsIn (f at)

  arguments_read : (deeper : Reader) → ReaderIn deeper → (f : ℕ) → ReaderIn (arguments mixed deeper s f)
  unfolding arguments
  arguments_read deeper h zero at i = late tt i
  arguments_read deeper h (suc f) at i =
      then_reads (h at i) λ a j. choice ReadsIn (is_sign "," (token_at mixed s a.to).token) _ _
      (then_reads (arguments_read deeper h f (token_at mixed s a.to).to (to_in a.to j)) λ r k. there k)
      (then_reads (expect_sign_lem ")" a.to j) λ e k. there k)

  module _ (deeper : ℕ → Reader) (h : (p : ℕ) → In p → ReaderIn (deeper p)) where
    reference_read : (n : Named) (u : Lexeme) → NameIn n → In u.from → In u.to → ReadsIn (reference_at mixed deeper s n u)
    unfolding reference_at
    reference_read n u i j k = choice ReadsIn (is_sign "(" u.token) _ _ (then_reads (arguments_read (deeper u.from) (h u.from j) (length s) u.to k) λ r l. there l) (there i.1)

    primitive_read : (t : Token) (from to : ℕ) → In from → In to → ReadsIn (primitive mixed deeper s t from to)
    unfolding primitive
    primitive_read (word w) from to i j = then_reads (name_of_lem (word w) from to i j) λ n k. reference_read n (token_at mixed s to) k (from_in to j) (to_in to j)
    primitive_read (integer w) from to i j = there j
    primitive_read (string w) from to i j = there j
    primitive_read (bits w) from to i j = there j
    primitive_read (sign w) from to i j = choice ReadsIn (is_sign "(" (sign w)) _ _ (then_reads (h from i to j) λ r k. then_reads (expect_sign_lem ")" r.to k) λ e l. there l) (late tt i)
    primitive_read nothing from to i j = late tt i
    primitive_read wrong from to i j = late tt i

    prefixed_read : (o : Maybe Prefix) (f g : Unit {0} → Reading Parsed) → ReadsIn (f tt) → ReadsIn (g tt) → ReadsIn (prefixed o f g)
    prefixed_read (is o) f g i j = then_reads i λ r k. there k
    prefixed_read no_operator f g i j = j

    operand_read : (f : ℕ) → ReaderIn (operand mixed deeper s f)
    unfolding operand
    operand_read zero at i = late tt i
    operand_read (suc f) at i = prefixed_read (prefix_of (token_at mixed s at).token) _ _ (operand_read f (token_at mixed s at).to (to_in at i)) (primitive_read (token_at mixed s at).token (token_at mixed s at).from (token_at mixed s at).to (from_in at i) (to_in at i))

  chained_read : (o : Maybe Operator) (f : Operator → Reading Parsed) (r : Reading Parsed) → ((p : Operator) → ReadsIn (f p)) → ReadsIn r → ReadsIn (chained o f r)
  chained_read (is o) f r h k = h o
  chained_read no_operator f r h k = k

  chain_read : (l : ℕ) (next : Reader) → ReaderIn next → (f : ℕ) (t : Tree) → ReaderIn (chain mixed l next s f t)
  unfolding chain
  chain_read l next h zero t at i = late tt i
  chain_read l next h (suc f) t at i = chained_read (infix_of l (token_at mixed s at).token) _ _ (λ o. then_reads (h (token_at mixed s at).to (to_in at i)) λ r k. chain_read l next h f _ r.to k) (there i)

  levels_read : (deeper : Reader) → ReaderIn deeper → (l : ℕ) → ReaderIn (levels mixed deeper s l)
  unfolding levels
  levels_read deeper h zero at i = h at i
  levels_read deeper h (suc l) at i = then_reads (levels_read deeper h l at i) λ r k. chain_read l (levels mixed deeper s l) (levels_read deeper h l) _ r.tree r.to k

  expression_read : (d : ℕ) → ReaderIn (expression mixed d s)
  unfolding expression
  expression_read zero at i = levels_read _ (operand_read (λ p q. refused Y.OverLimit p) (λ p j q k. late tt j) (suc (length s))) 6 at i
  expression_read (suc d) at i = levels_read _ (operand_read (λ p q. expression mixed d s q) (λ p j q k. expression_read d q k) (suc (length s))) 6 at i

  whole_read : ReaderIn (whole_expression mixed s)
  whole_read at i = expression_read open_parentheses at i

  -- ---- statements
  abbrev ClauseIn : Clause → Type 0
  ClauseIn c = In c.to

  abbrev Clauses : Reading Clause → Type 0
  Clauses r = Reads ClauseIn r

  ended_read : (x : Statement) (at : ℕ) → In at → Clauses (ended mixed s x at)
  unfolding ended
  ended_read x at i = then_reads (expect_sign_lem ";" at i) λ e j. there j

  assignment_read : (t : List ℕ) (at : ℕ) → In at → Clauses (assignment mixed s t at)
  unfolding assignment
  assignment_read t at i = then_reads (whole_read at i) λ r j. ended_read _ r.to j

  then_word_lem : (b : Bool) (at : ℕ) → In at → Reads In (then_word mixed b s at)
  unfolding then_word
  then_word_lem true at i = expect_word_lem "THEN" at i
  then_word_lem false at i = then_reads (expect_sign_lem "%" at i) λ e j. expect_word_lem "THEN" e j

  if_read : (b : Bool) (at : ℕ) → In at → Clauses (if_clause mixed b s at)
  unfolding if_clause
  if_read b at i = then_reads (whole_read at i) λ r j. then_reads (then_word_lem b r.to j) λ e k. there k

  bound_read : (w : String) (make : Tree → Bound) (bs : List Bound) (at : ℕ) (f : List Bound → ℕ → Reading Clause) (g : Unit {0} → Reading Clause) → In at → ((cs : List Bound) (e : ℕ) → In e → Clauses (f cs e)) → Clauses (g tt) → Clauses (bound_at mixed w make s bs at f g)
  unfolding bound_at
  bound_read w make bs at f g i h k = choice Clauses (is_word w (token_at mixed s at).token) _ _ (then_reads (whole_read (token_at mixed s at).to (to_in at i)) λ r j. h _ r.to j) k

  bounds_read : (make : List Bound → Statement) (at : ℕ) → In at → Clauses (do_bounds mixed s make at)
  unfolding do_bounds
  bounds_read make at i =
      let end : (bs : List Bound) (e : ℕ) → In e → Clauses (then (expect_sign mixed ";" s e) λ q. read (clause (make bs) opens_group q)) = λ bs e j. then_reads (expect_sign_lem ";" e j) λ q k. there k in
      bound_read "BY" by [] at _ _ i (λ bs e j. bound_read "TO" upto bs e _ _ j end (end bs e j)) (bound_read "TO" upto [] at _ _ i (λ bs e j. bound_read "BY" by bs e _ _ j end (end bs e j)) (end [] at i))

  do_read : (at : ℕ) → In at → Clauses (do_clause mixed s at)
  unfolding do_clause
  do_read at i =
      choice Clauses (is_sign ";" (token_at mixed s at).token) _ _ (there (to_in at i))
      (then_reads (name_at_lem at i) λ n j. then_reads (expect_sign_lem "=" n.to j.1) λ e k. then_reads (whole_read e k) λ r l. bounds_read _ r.to l)

  goto_read : (at : ℕ) → In at → Clauses (goto_clause mixed s at)
  unfolding goto_clause
  goto_read at i = then_reads (name_at_lem at i) λ n j. ended_read _ n.to j.1

  abbrev Each : {A : Type 0} → (List ℕ → ℕ → (A → ℕ → Reading Clause) → Reading Clause) → Type 0
  Each {A} each = (at : ℕ) (f : A → ℕ → Reading Clause) → In at → ((x : A) (e : ℕ) → In e → Clauses (f x e)) → Clauses (each s at f)

  list_read : {A : Type 0} (each : List ℕ → ℕ → (A → ℕ → Reading Clause) → Reading Clause) → Each each → (make : List A → Statement) (f : ℕ) (xs : List A) (at : ℕ) → In at → Clauses (list_of mixed each make s f xs at)
  unfolding list_of
  list_read each h make zero xs at i = late tt i
  list_read each h make (suc f) xs at i = h at _ i λ x e j. choice Clauses (is_sign "," (token_at mixed s e).token) _ _ (list_read each h make f (xs ++ x ∷ []) (token_at mixed s e).to (to_in e j)) (ended_read _ e j)

  each_name_lem : Each (each_name mixed)
  each_name_lem at f i h = then_reads (name_at_lem at i) λ n j. h n.spelling n.to j.1

  each_activation_lem : Each (each_activation mixed)
  each_activation_lem at f i h = then_reads (name_at_lem at i) λ n j.
      choice Clauses (is_word "NORESCAN" (token_at mixed s n.to).token) _ _ (h _ _ (to_in n.to j.1))
      (choice Clauses (is_word "RESCAN" (token_at mixed s n.to).token) _ _ (h _ _ (to_in n.to j.1)) (h _ _ j.1))

  each_member_lem : Each (each_member mixed)
  each_member_lem at f i h = then_reads (name_at_lem at i) λ n j.
      choice Clauses (is_sign "(" (token_at mixed s n.to).token) _ _
      (then_reads (name_at_lem (token_at mixed s n.to).to (to_in n.to j.1)) λ m k. then_reads (expect_sign_lem ")" m.to k.1) λ e l. h _ e l) (h _ _ j.1)

  include_read : (at : ℕ) → In at → Clauses (include_clause mixed s at)
  unfolding include_clause
  include_read at i = list_read (each_member mixed) each_member_lem include (length s) [] at i

  deactivate_read : (at : ℕ) → In at → Clauses (deactivate_clause mixed s at)
  unfolding deactivate_clause
  deactivate_read at i = list_read (each_name mixed) each_name_lem deactivate (length s) [] at i

  activate_read : (at : ℕ) → In at → Clauses (activate_clause mixed s at)
  unfolding activate_clause
  activate_read at i = list_read (each_activation mixed) each_activation_lem activate (length s) [] at i

  return_read : (at : ℕ) → In at → Clauses (return_clause mixed s at)
  unfolding return_clause
  return_read at i = then_reads (expect_sign_lem "(" at i) λ e j. then_reads (whole_read e j) λ r k. then_reads (expect_sign_lem ")" r.to k) λ q l. ended_read _ q l

  -- ---- names that are declared, each at a place of the body
  abbrev pub Declares : List Declared → Type 0
  Declares [] = Unit {0}
  Declares (d ∷ ds) = In d.place × Declares ds

  abbrev NamesIn : List Named → Type 0
  NamesIn [] = Unit {0}
  NamesIn (n ∷ ns) = In n.place × NamesIn ns

  declares_more : (ds es : List Declared) → Declares ds → Declares es → Declares (ds ++ es)
  declares_more [] es h k = k
  declares_more (d ∷ ds) es h k = (h.0, declares_more ds es h.1 k)

  names_more : (ns : List Named) (n : Named) → NamesIn ns → In n.place → NamesIn (ns ++ n ∷ [])
  names_more [] n h k = (k, tt)
  names_more (m ∷ ns) n h k = (h.0, names_more ns n h.1 k)

  means_in : (k : Scope) (m : Meaning) (ns : List Named) → NamesIn ns → Declares (means k m ns)
  means_in k m [] h = tt
  means_in k m (n ∷ ns) h = (h.0, means_in k m ns h.1)

  -- ---- DECLARE and procedures
  data DeclaringIn : Declaring → Type 0 where
    fine : {c : Clause} {ds : List Declared} → ClauseIn c → Declares ds → DeclaringIn (declared c ds)
    late_declared : {e : Why} {p : ℕ} {ds : List Declared} → Late e → In p → Declares ds → DeclaringIn (undeclared e p ds)

  then_declares : {A : Type 0} {P : A → Type 0} (ds : List Declared) {r : Reading A} {f : A → Declaring} → Declares ds → Reads P r → ((a : A) → P a → DeclaringIn (f a)) → DeclaringIn (then_declare ds r f)
  then_declares ds i (there {a} h) k = k a h
  then_declares ds i (late h j) k = late_declared h j i

  names_at_lem : (k : Scope) (m : Meaning) (ds : List Declared) (n : ℕ) (ns : List Named) (at : ℕ) (f : List Named → ℕ → Declaring) → Declares ds → NamesIn ns → In at → ((ms : List Named) (e : ℕ) → NamesIn ms → In e → DeclaringIn (f ms e)) → DeclaringIn (names_at mixed k m s ds n ns at f)
  unfolding names_at
  names_at_lem k m ds zero ns at f d i j h = late_declared tt j d
  names_at_lem k m ds (suc n) ns at f d i j h =
      then_declares _ (declares_more ds _ d (means_in k m ns i)) (name_at_lem at j) λ x l.
      let more : NamesIn (ns ++ x ∷ []) = names_more ns x i l.0 in
      choice DeclaringIn (is_sign "," (token_at mixed s x.to).token) _ _ (names_at_lem k m ds n (ns ++ x ∷ []) (token_at mixed s x.to).to f d more (to_in x.to l.1) h)
      (then_declares _ (declares_more ds _ d (means_in k m (ns ++ x ∷ []) more)) (expect_sign_lem ")" x.to l.1) λ e q. h (ns ++ x ∷ []) e more q)

  attribute_declares : (k : Scope) (t : Token) (from to : ℕ) (f : Meaning → ℕ → Declaring) (g : Unit {0} → Declaring) → ((m : Meaning) → DeclaringIn (f m to)) → DeclaringIn (g tt) → DeclaringIn (attribute k t from to f g)
  unfolding attribute
  attribute_declares global t from to f g h k = choice DeclaringIn (is_character t) _ _ (h _) (choice DeclaringIn (is_word "FIXED" t) _ _ (h _) (choice DeclaringIn (is_word "ENTRY" t) _ _ (h _) k))
  attribute_declares (inside r) t from to f g h k = choice DeclaringIn (is_character t) _ _ (h _) (choice DeclaringIn (is_word "FIXED" t) _ _ (h _) (choice DeclaringIn (is_word "BUILTIN" t) _ _ (h _) k))

  abbrev Next : (List Declared → ℕ → Declaring) → Type 0
  Next f = (es : List Declared) (q : ℕ) → Declares es → In q → DeclaringIn (f es q)

  declare_names_lem : (k : Scope) (ds : List Declared) (ns : List Named) (e : ℕ) (f : List Declared → ℕ → Declaring) → Declares ds → NamesIn ns → In e → Next f → DeclaringIn (declare_names mixed k s ds ns e f)
  unfolding declare_names
  declare_names_lem k ds ns e f d i j h =
      attribute_declares k (token_at mixed s e).token (token_at mixed s e).from (token_at mixed s e).to _ _
      (λ m. h _ _ (declares_more ds _ d (means_in k m ns i)) (to_in e j)) (late_declared tt (from_in e j) (declares_more ds _ d (means_in k _ ns i)))

  declare_next_lem : (f : List Declared → ℕ → Declaring) → Next f → Next (declare_next mixed s f)
  unfolding declare_next
  declare_next_lem f h ds e d i = choice DeclaringIn (is_sign "," (token_at mixed s e).token) _ _ (h ds (token_at mixed s e).to d (to_in e i)) (then_declares ds d (expect_sign_lem ";" e i) λ q j. fine j d)

  declare_from_lem : (k : Scope) (f : ℕ) → Next (declare_from mixed k s f)
  unfolding declare_from
  declare_from_lem k zero ds at d i = late_declared tt i d
  declare_from_lem k (suc f) ds at d i =
      choice DeclaringIn (is_sign "(" (token_at mixed s at).token) _ _
      (names_at_lem k _ ds (length s) [] (token_at mixed s at).to _ d tt (to_in at i) λ ns e j l. declare_names_lem k ds ns e _ d j l (declare_next_lem (declare_from mixed k s f) (declare_from_lem k f)))
      (then_declares ds d (name_at_lem at i) λ n j. declare_names_lem k ds (n ∷ []) n.to _ d (j.0, tt) j.1 (declare_next_lem (declare_from mixed k s f) (declare_from_lem k f)))

  returns_type_lem : (at : ℕ) (f : ValueType → ℕ → Declaring) (ds : List Declared) → In at → ((t : ValueType) (e : ℕ) → In e → DeclaringIn (f t e)) → Declares ds → DeclaringIn (returns_type mixed s at f ds)
  unfolding returns_type
  returns_type_lem at f ds i h d =
      then_declares ds d (expect_word_lem "RETURNS" at i) λ e j. then_declares ds d (expect_sign_lem "(" e j) λ q k.
      choice DeclaringIn (is_character (token_at mixed s q).token) _ _ (h _ (token_at mixed s q).to (to_in q k)) (then_declares ds d (expect_word_lem "FIXED" q k) λ z l. h _ z l)

  procedure_head_lem : (k : Scope) (ns : List Named) (at : ℕ) → NamesIn ns → In at → DeclaringIn (procedure_head mixed k s ns at)
  unfolding procedure_head
  procedure_head_lem k ns at i j =
      let d = means_in k _ ns i in
      returns_type_lem at _ _ j (λ t e l. then_declares _ d (expect_sign_lem ")" e l) λ q o. then_declares _ d (expect_sign_lem ";" q o) λ z u. fine u d) d

  procedure_clause_lem : (k : Scope) (at : ℕ) → In at → DeclaringIn (procedure_clause mixed k s at)
  unfolding procedure_clause
  procedure_clause_lem k at i = choice DeclaringIn (is_sign "(" (token_at mixed s at).token) _ _ (names_at_lem k _ [] (length s) [] (token_at mixed s at).to _ tt tt (to_in at i) λ ns e j l. procedure_head_lem k ns e j l) (procedure_head_lem k [] at tt i)

  -- ---- what has been read: rows and names at places of the body
  pub record Tidy (st : State) : Type 0 where
    pub rows : AllIn (places st.rows)
    pub names : Declares st.declared

  change_in : (n : ℕ) (f : Row → Row) → ((r : Row) → In r.place → In (f r).place) → (rs : List Row) → AllIn (places rs) → AllIn (places (change n f rs))
  unfolding change
  change_in n f k [] h = tt
  change_in zero f k (r ∷ rs) h = (k r h.0, h.1)
  change_in (suc n) f k (r ∷ rs) h = (h.0, change_in n f k rs h.1)

  row_more : (rs : List Row) (r : Row) → AllIn (places rs) → In r.place → AllIn (places (rs ++ r ∷ []))
  row_more [] r h k = (k, tt)
  row_more (q ∷ rs) r h k = (h.0, row_more rs r h.1 k)

  linked_in_lem : (n : ℕ) (l : Link) (f : List Row → List Row) → ((rs : List Row) → AllIn (places rs) → AllIn (places (f rs))) → (rs : List Row) → AllIn (places rs) → AllIn (places (linked n l f rs))
  linked_in_lem n nowhere f k rs h = k rs h
  linked_in_lem n (row l) f k rs h = change_in l (set_next n) (λ r i. i) rs h

  child_in : (i n : ℕ) (rs : List Row) → AllIn (places rs) → AllIn (places (change i (set_child n) rs))
  child_in i n rs h = change_in i (set_child n) (λ r j. j) rs h

  add_in_lem : (k : Where) (o : Open) (os : List Open) (x : Statement) (p : ℕ) (st : State) → In p → Tidy st → Tidy (add_in k o os x p st)
  add_in_lem in_program o os x p st i h =
      let n : ℕ = length st.rows in
      let rs : List Row = linked n o.last (λ qs. qs) st.rows in
      record { rows = row_more rs (new_row x p nowhere listed) (linked_in_lem n o.last (λ qs. qs) (λ qs j. j) st.rows h.rows) i; names = h.names }
  add_in_lem in_group o os x p st i h =
      let n : ℕ = length st.rows in
      let rs : List Row = linked n o.last (change o.row (set_child n)) st.rows in
      record { rows = row_more rs (new_row x p (row o.row) listed) (linked_in_lem n o.last (change o.row (set_child n)) (child_in o.row n) st.rows h.rows) i; names = h.names }
  add_in_lem in_body o os x p st i h =
      let n : ℕ = length st.rows in
      let rs : List Row = linked n o.last (change o.row (set_child n)) st.rows in
      record { rows = row_more rs (new_row x p (row o.row) listed) (linked_in_lem n o.last (change o.row (set_child n)) (child_in o.row n) st.rows h.rows) i; names = h.names }
  add_in_lem in_then o os x p st i h =
      let n : ℕ = length st.rows in
      record { rows = row_more (change o.row (set_child n) st.rows) (new_row x p (row o.row) then_part) (child_in o.row n st.rows h.rows) i; names = h.names }
  add_in_lem in_else o os x p st i h =
      let n : ℕ = length st.rows in
      record { rows = row_more (change o.row (set_other n) st.rows) (new_row x p (row o.row) else_part) (change_in o.row (set_other n) (λ r j. j) st.rows h.rows) i; names = h.names }

  add_to_lem : (os : List Open) (x : Statement) (p : ℕ) (st : State) → In p → Tidy st → Tidy (add_to os x p st)
  add_to_lem [] x p st i h = h
  add_to_lem (o ∷ os) x p st i h = add_in_lem o.kind o os x p st i h

  add_row_lem : (x : Statement) (p : ℕ) (st : State) → In p → Tidy st → Tidy (add_row x p st)
  unfolding add_row
  add_row_lem x p st i h = add_to_lem st.opened x p st i h

  with_names_lem : (ds : List Declared) (st : State) → Declares ds → Tidy st → Tidy (R.with_names ds st)
  with_names_lem ds st d h = record { rows = h.rows; names = declares_more st.declared ds h.names d }

  with_opened_lem : (os : List Open) (k : Scope) (st : State) → Tidy st → Tidy (R.with_opened os k st)
  with_opened_lem os k st h = record { rows = h.rows; names = h.names }

  -- ---- one turn after the other
  data Turns : Turn → Type 0 where
    going : {m : Mode} {at : ℕ} {st : State} → In at → Tidy st → Turns (go m at st)
    stopping : {e : Why} {p : ℕ} {begun : List ℕ} {st : State} → Late e → In p → AllIn begun → Tidy st → Turns (stop e p begun st)
    finishing : {st : State} → Tidy st → Turns (finish st)

  data ElseIn : Else → Type 0 where
    else_to_lem : {q : ℕ} → In q → ElseIn (else_to q)
    no_else_lem : ElseIn no_else

  else_word_lem : (t : Lexeme) → In t.to → ElseIn (else_word mixed s t)
  unfolding else_word
  else_word_lem t i = pick ElseIn (is_word "ELSE" t.token && is_decided (token_at mixed s t.to).token) _ _ (else_to_lem i) no_else_lem

  else_at_lem : (b : Bool) (e : ℕ) → In e → ElseIn (else_at mixed b s e)
  unfolding else_at
  else_at_lem true e i = else_word_lem (token_at mixed s e) (to_in e i)
  else_at_lem false e i = choice ElseIn (is_sign "%" (token_at mixed s e).token) _ _ (else_word_lem (token_at mixed s (token_at mixed s e).to) (to_in (token_at mixed s e).to (to_in e i))) no_else_lem

  elsed_turns : {x : Else} → ElseIn x → (i : ℕ) (os : List Open) (st : State) (f : Unit {0} → Turn) → Tidy st → Turns (f tt) → Turns (elsed x i os st f)
  elsed_turns (else_to_lem j) i os st f h k = going j (with_opened_lem _ _ st h)
  elsed_turns no_else_lem i os st f h k = k

  complete_in_lem : (k : Where) (i : ℕ) (os : List Open) (n e : ℕ) (st : State) (f : ℕ → Turn) → In e → Tidy st → Turns (f i) → Turns (complete_in mixed k s i os n e st f)
  complete_in_lem in_program i os n e st f j h k = going j h
  complete_in_lem in_group i os n e st f j h k = going j h
  complete_in_lem in_body i os n e st f j h k = going j h
  complete_in_lem in_then i os n e st f j h k = elsed_turns (else_at_lem (is_inside st.scope) e j) i os st _ h k
  complete_in_lem in_else i os n e st f j h k = k

  complete_turns : (os : List Open) (n e : ℕ) (st : State) → In e → Tidy st → Turns (complete mixed s os n e st)
  unfolding complete
  complete_turns [] n e st i h = finishing h
  complete_turns (o ∷ os) n e st i h = complete_in_lem o.kind o.row os n e _ _ i (with_opened_lem _ _ st h) (complete_turns os o.row e st i h)

  opened_turns : (o : Opens) (n : ℕ) (ns : List Named) (e : ℕ) (st : State) → In e → Tidy st → Turns (opened mixed o s n ns e st)
  opened_turns opens_nothing n ns e st i h = complete_turns st.opened n e st i h
  opened_turns opens_group n ns e st i h = going i (with_opened_lem _ _ st h)
  opened_turns opens_body n ns e st i h = going i (with_opened_lem _ _ st h)
  opened_turns opens_then n ns e st i h = going i (with_opened_lem _ _ st h)

  taken_turns : (p : ℕ) (ns : List Named) (st : State) (c : Clause) (ds : List Declared) → In p → NamesIn ns → ClauseIn c → Declares ds → Tidy st → Turns (taken mixed s p ns st c ds)
  unfolding taken
  taken_turns p ns st c ds i j k d h =
      let m : Meaning = label_meaning c.opens (length st.rows) in
      opened_turns c.opens _ ns c.to _ k (with_names_lem (means st.scope m ns ++ ds) (add_row c.statement p st) (declares_more (means st.scope m ns) ds (means_in st.scope m ns j) d) (add_row_lem c.statement p st i h))

  untaken_turns : (p : ℕ) (ns : List Named) (st : State) (e : Why) (q : ℕ) (ds : List Declared) → In p → NamesIn ns → Late e → In q → Declares ds → Tidy st → Turns (untaken p ns st e q ds)
  untaken_turns p ns st e q ds i j l k d h = stopping {begun = p ∷ []} l k (i, tt) (with_names_lem (means st.scope (label 0) ns ++ ds) st (declares_more (means st.scope (label 0) ns) ds (means_in st.scope (label 0) ns j) d) h)

  named_tidy : (ns : List Named) (st : State) → NamesIn ns → Tidy st → Tidy (R.named ns st)
  named_tidy ns st j h = with_names_lem _ st (means_in st.scope _ ns j) h

  take_read_lem : (p : ℕ) (ns : List Named) (st : State) → In p → NamesIn ns → Tidy st → {r : Reading Clause} → Clauses r → Turns (take_read mixed s p ns st r)
  take_read_lem p ns st i j h (there {a} k) = taken_turns p ns st a [] i j k tt h
  take_read_lem p ns st i j h (late {e} {p = q} l k) = untaken_turns p ns st e q [] i j l k tt h

  take_declared_lem : (p : ℕ) (ns : List Named) (st : State) → In p → NamesIn ns → Tidy st → {r : Declaring} → DeclaringIn r → Turns (take_declared mixed s p ns st r)
  take_declared_lem p ns st i j h (fine {c} {ds} k d) = taken_turns p ns st c ds i j k d h
  take_declared_lem p ns st i j h (late_declared {e} {p = q} {ds} l k d) = untaken_turns p ns st e q ds i j l k d h

  abbrev TokenIn : Lexeme → Type 0
  TokenIn t = In t.from × In t.to

  token_in : (at : ℕ) → In at → TokenIn (token_at mixed s at)
  token_in at i = (from_in at i, to_in at i)

  do_at_lem : (from to : ℕ) (st : State) → In from → In to → Clauses (do_at mixed s from to st)
  unfolding do_at
  do_at_lem from to st i j = choice Clauses (ltb (depth st.opened) open_groups) _ _ (do_read to j) (late tt i)

  abbrev Takes : (Reading Clause → Turn) → Type 0
  Takes f = (r : Reading Clause) → Clauses r → Turns (f r)

  common_turns : (t : Lexeme) (st : State) (f : Reading Clause → Turn) (g : Unit {0} → Turn) → TokenIn t → Takes f → Turns (g tt) → Turns (common mixed s t st f g)
  unfolding common
  common_turns t st f g i h k =
      choice Turns (is_word "IF" t.token) _ _ (h _ (if_read (is_inside st.scope) t.to i.1))
      (choice Turns (is_word "DO" t.token) _ _ (h _ (do_at_lem t.from t.to st i.0 i.1))
      (choice Turns (is_word "GOTO" t.token) _ _ (h _ (goto_read t.to i.1))
      (choice Turns (is_word "GO" t.token) _ _ (h _ (then_reads (expect_word_lem "TO" t.to i.1) goto_read)) k)))

  list_turns : (p : ℕ) (ns : List Named) (t : Lexeme) (st : State) (g : Unit {0} → Turn) → In p → NamesIn ns → TokenIn t → Tidy st → Turns (g tt) → Turns (in_list mixed s p ns t st g)
  unfolding in_list
  list_turns p ns t st g i j l h k =
      choice Turns (is_list (kind_of st.opened) && is_declare t.token) _ _ (take_declared_lem p ns st i j h (declare_from_lem st.scope (length s) [] t.to tt l.1))
      (choice Turns (is_list (kind_of st.opened) && not (is_inside st.scope) && not (is_none ns) && is_procedure t.token) _ _ (take_declared_lem p ns st i j h (procedure_clause_lem (inside (length st.rows)) t.to l.1)) k)

  outer_turns : (k : Scope) (t : Lexeme) (f : Reading Clause → Turn) (g : Unit {0} → Turn) → TokenIn t → Takes f → Turns (g tt) → Turns (outer mixed k s t f g)
  outer_turns global t f g i h k =
      choice Turns (is_word "INCLUDE" t.token) _ _ (h _ (include_read t.to i.1))
      (choice Turns (is_word "ACTIVATE" t.token || is_word "ACT" t.token) _ _ (h _ (activate_read t.to i.1))
      (choice Turns (is_word "DEACTIVATE" t.token || is_word "DEACT" t.token) _ _ (h _ (deactivate_read t.to i.1)) k))
  outer_turns (inside r) t f g i h k = choice Turns (is_word "RETURN" t.token) _ _ (h _ (return_read t.to i.1)) k

  -- ---- a clause at p with its labels ns
  module _ (p : ℕ) (ns : List Named) (st : State) (i : In p) (j : NamesIn ns) (h : Tidy st) where
    by_word_lem : (w : List ℕ) (t u : Lexeme) → TokenIn t → TokenIn u → Turns (by_word mixed s p ns w t u st)
    unfolding by_word
    by_word_lem w t u k l =
        let takes : Takes (take_read mixed s p ns st) = λ r q. take_read_lem p ns st i j h q in
        choice Turns (is_sign "=" u.token) _ _ (takes _ (assignment_read w u.to l.1))
        (common_turns t st _ _ k takes (outer_turns st.scope t _ _ k takes (list_turns p ns t st _ i j k h (untaken_turns p ns st _ u.from [] i j tt l.0 tt h))))

    by_name_lem : {n : Reading Named} → Reads NameIn n → (t : Lexeme) → TokenIn t → Turns (by_name mixed n s p ns t st)
    by_name_lem (there {a} q) t k = by_word_lem a.spelling t (token_at mixed s t.to) k (token_in t.to k.1)
    by_name_lem (late {e} {p = q} l o) t k = untaken_turns p ns st e q [] i j l o tt h

    wrong_here : (t : Lexeme) → TokenIn t → Turns (untaken p ns st Y.Syntax t.from [])
    wrong_here t k = untaken_turns p ns st Y.Syntax t.from [] i j tt k.0 tt h

    by_token_lem : (x : Token) (t : Lexeme) → TokenIn t → Turns (by_token mixed x s p ns t st)
    by_token_lem (word w) t k = by_name_lem (name_of_lem (word w) t.from t.to k.0 k.1) t k
    by_token_lem (integer w) t k = wrong_here t k
    by_token_lem (string w) t k = wrong_here t k
    by_token_lem (bits w) t k = wrong_here t k
    by_token_lem (sign w) t k = choice Turns (is_sign ";" (sign w)) _ _ (taken_turns p ns st _ [] i j k.1 tt h) (wrong_here t k)
    by_token_lem nothing t k = wrong_here t k
    by_token_lem wrong t k = wrong_here t k

  end_name_lem : (ls : List (List ℕ)) (at : ℕ) → In at → Reads In (end_name mixed s ls at)
  unfolding end_name
  end_name_lem ls at i =
      let j : In (token_at mixed s at).to = to_in at i in
      choice (Reads In) (is_sign ";" (token_at mixed s at).token) _ _ (there j)
      (choice (Reads In) (may_name (token_at mixed s at).token ls) _ _
      (choice (Reads In) (is_sign ";" (token_at mixed s (token_at mixed s at).to).token) _ _ (there (to_in (token_at mixed s at).to j)) (late tt (from_in (token_at mixed s at).to j)))
      (late tt (from_in at i)))

  end_read_lem : (ns : List Named) (o : Open) (os : List Open) (st : State) → NamesIn ns → Tidy st → {r : Reading ℕ} → Reads In r → Turns (end_read mixed s ns o os st r)
  end_read_lem ns o os st j h (there {a} i) = complete_turns os o.row a _ i (with_opened_lem _ _ _ (with_names_lem _ st (means_in st.scope _ ns j) h))
  end_read_lem ns o os st j h (late l i) = stopping l i tt (with_names_lem _ st (means_in st.scope _ ns j) h)

  end_at_lem : (ns : List Named) (p : ℕ) (os : List Open) (st : State) → NamesIn ns → In p → Tidy st → Turns (end_at mixed s ns p os st)
  end_at_lem ns p [] st j i h = stopping tt i tt h
  end_at_lem ns p (o ∷ os) st j i h = end_read_lem ns o os st j h (end_name_lem o.labels p i)

  too_long_lem : (ps : List ℕ) (f : ℕ → Turn) (g : Unit {0} → Turn) → AllIn ps → ((p : ℕ) → In p → Turns (f p)) → Turns (g tt) → Turns (long_label ps f g)
  too_long_lem [] f g i h k = k
  too_long_lem (p ∷ ps) f g i h k = h p i.0

  -- ---- labels
  record LabelsIn (L : Labelled) : Type 0 where
    names : NamesIn L.labels
    long : AllIn L.long
    behind : TokenIn L.behind

  add_label_lem : {n : Reading Named} → Reads NameIn n → (ns : List Named) (long : List ℕ) (f : List Named → List ℕ → Labelled) → NamesIn ns → AllIn long → ((ms : List Named) (more : List ℕ) → NamesIn ms → AllIn more → LabelsIn (f ms more)) → LabelsIn (add_label n ns long f)
  add_label_lem (there {a} k) ns long f i j h = h _ long (names_more ns a i k.0) j
  add_label_lem (late {e} {p} l k) ns long f i j h = h ns _ i (all_in long (p ∷ []) j (k, tt))

  labels_from_lem : (f : ℕ) (ns : List Named) (long : List ℕ) (at : ℕ) → NamesIn ns → AllIn long → In at → LabelsIn (labels_from mixed s f ns long at)
  unfolding labels_from
  labels_from_lem zero ns long at i j k = record { names = i; long = j; behind = token_in at k }
  labels_from_lem (suc f) ns long at i j k =
      let t : TokenIn (token_at mixed s at) = token_in at k in
      choice LabelsIn (is_name (token_at mixed s at).token && is_sign ":" (token_at mixed s (token_at mixed s at).to).token) _ _
      (add_label_lem (name_of_lem (token_at mixed s at).token (token_at mixed s at).from (token_at mixed s at).to t.0 t.1) ns long _ i j λ ms more u v. labels_from_lem f ms more _ u v (to_in (token_at mixed s at).to t.1))
      (record { names = i; long = j; behind = t })

  labels_in : (at : ℕ) → In at → LabelsIn (labels mixed s at)
  labels_in at i = labels_from_lem (length s) [] [] at tt tt i

  clause_turns : (p : ℕ) (L : Labelled) (st : State) → In p → LabelsIn L → Tidy st → Turns (clause_from mixed s p L st)
  unfolding clause_from
  clause_turns p L st i l h =
      choice Turns (is_in_group (kind_of st.opened) && is_end mixed s L.behind) _ _
      (too_long_lem L.long _ _ l.long (λ q j. stopping tt j tt (named_tidy L.labels st l.names h)) (end_at_lem L.labels _ st.opened st l.names l.behind.1 h))
      (choice Turns (is_full st) _ _ (stopping tt i (i, tt) h)
      (too_long_lem L.long _ _ l.long (λ q j. untaken_turns p L.labels st _ q [] i l.names tt j tt h) (by_token_lem p L.labels st i l.names h L.behind.token L.behind l.behind)))

  -- ---- texts
  data EndsIn : TextEnd → Type 0 where
    at_percent : {p : ℕ} → p + 1 ≤ length s → EndsIn (percent_at p)
    at_end_lem : EndsIn at_end
    at_open : {p : ℕ} → In p → EndsIn (open_at p)

  text_on_lem : (x : Piece) (p q : ℕ) (f : ℕ → TextEnd) → In p → EndsIn (f q) → EndsIn (T.text_on x p q f)
  text_on_lem (T.name w) p q f i h = h
  text_on_lem T.plain p q f i h = h
  text_on_lem T.unclosed p q f i h = at_open i

  text_ends : (f p : ℕ) → EndsIn (text_end mixed f s p)
  unfolding text_end
  text_ends zero p = at_end_lem
  text_ends (suc f) p = when_has EndsIn (leb (length s) p) _ _ (λ _. at_end_lem) λ e.
      choice EndsIn (eqb (get_or s p 0) (code "%")) _ _ (at_percent (omega (arith, leb-false (length s) p e))) (text_on_lem (piece_at mixed s p).piece p (piece_at mixed s p).to (text_end mixed f s) (omega (arith, leb-false (length s) p e)) (text_ends f (piece_at mixed s p).to))

  texted_turns : {e : TextEnd} → EndsIn e → (f : ℕ → State) → ((p : ℕ) → Tidy (f p)) → Turns (texted mixed e s f)
  texted_turns (at_percent {p} i) f h = clause_turns p _ (f p) (omega arith) (labels_in (p + 1) i) (h p)
  texted_turns at_end_lem f h = pick Turns (leb (length (f 0).opened) 1) _ _ (finishing (h (length s))) (stopping tt (omega arith) tt (h (length s)))
  texted_turns (at_open {p} i) f h = stopping tt i tt (h p)

  lead_in_lem : (os : List Open) (from p : ℕ) (st : State) → Tidy st → Tidy (lead_in os from p st)
  lead_in_lem [] from p st h = h
  lead_in_lem (o ∷ os) from p st h = at_kind o.kind
    where
      at_kind : (x : Where) → Tidy ((elim x as (λ _. ℕ → State) [ in_program ↦ λ n. R.with_lead (R.stretch from p) st | in_group ↦ λ n. R.with_rows (change n (set_lead (R.stretch from p)) st.rows) st | in_body ↦ λ n. st | in_then ↦ λ n. st | in_else ↦ λ n. st ]) o.row)
      at_kind in_program = record { rows = h.rows; names = h.names }
      at_kind in_group = record { rows = change_in o.row (set_lead (R.stretch from p)) (λ r i. i) st.rows h.rows; names = h.names }
      at_kind in_body = h
      at_kind in_then = h
      at_kind in_else = h

  not_end_lem : {n : Reading Named} → Reads NameIn n → (st : State) → Tidy st → Turns (not_end mixed n s st)
  not_end_lem (there {a} i) st h = stopping tt (from_in a.to i.1) tt h
  not_end_lem (late l i) st h = stopping l i tt h

  procedure_end_lem : (L : Labelled) (st : State) → LabelsIn L → Tidy st → Turns (procedure_end mixed s L st)
  procedure_end_lem L st l h =
      too_long_lem L.long _ _ l.long (λ q j. stopping tt j tt (named_tidy L.labels st l.names h))
      (choice Turns (is_word "END" L.behind.token) _ _ (end_at_lem L.labels _ st.opened st l.names l.behind.1 h)
      (not_end_lem (name_of_lem L.behind.token L.behind.from L.behind.to l.behind.0 l.behind.1) _ (named_tidy L.labels st l.names h)))

  inner_turns : (p : ℕ) (t : Lexeme) (st : State) → In p → TokenIn t → Tidy st → Turns (inner_at mixed s p t st)
  unfolding inner_at
  inner_turns p t st i k h =
      choice Turns (is_in_body (kind_of st.opened) && is_sign "%" t.token) _ _ (procedure_end_lem (labels mixed s t.to) st (labels_in t.to k.1) h)
      (choice Turns (begins t.token) _ _ (clause_turns t.from _ st k.0 (labels_in p i) h) (stopping tt k.0 tt h))

  deep_turns : (p : ℕ) (st : State) (f : Unit {0} → Turn) → In p → Tidy st → Turns (f tt) → Turns (deep_enough p st f)
  unfolding deep_enough
  deep_turns p st f i h k = choice Turns (leb (depth st.opened) open_groups) _ _ k (stopping tt i (i, tt) h)

  alternative_turns : (x : Scope) (p : ℕ) (t : Lexeme) (st : State) → In p → TokenIn t → Tidy st → Turns (alternative_at mixed x s p t st)
  alternative_turns global p t st i k h = choice Turns (is_sign "%" t.token) _ _ (deep_turns t.from st _ k.0 h (clause_turns t.from _ st k.0 (labels_in t.to k.1) h)) (stopping tt k.0 tt h)
  alternative_turns (inside r) p t st i k h = choice Turns (begins t.token) _ _ (deep_turns t.from st _ k.0 h (clause_turns t.from _ st k.0 (labels_in p i) h)) (stopping tt k.0 tt h)

  turn_turns : (m : Mode) (p : ℕ) (st : State) → In p → Tidy st → Turns (turn mixed s m p st)
  unfolding turn
  turn_turns leading_text p st i h = texted_turns (text_ends (suc (length s)) p) _ λ q. lead_in_lem st.opened p q st h
  turn_turns (text_behind n) p st i h = texted_turns (text_ends (suc (length s)) p) _ λ q. record { rows = change_in n (set_text (R.stretch p q)) (λ r j. j) st.rows h.rows; names = h.names }
  turn_turns alternative p st i h = alternative_turns st.scope p (token_at mixed s p) st i (token_in p i) h
  turn_turns inner p st i h = inner_turns p (token_at mixed s p) st i (token_in p i) h

  -- ---- THE MEMBER: its fault, if it has one, its rows and its names
  abbrev pub FaultIn : Fault → Type 0
  FaultIn sound = Unit {0}
  FaultIn (faulty e p) = Late e × In p

  pub record Read (x : Source) : Type 0 where
    pub fault : FaultIn x.fault
    pub rows : AllIn (places x.rows)
    pub begun : AllIn x.begun
    pub names : Declares x.declared

  source_in : (st : State) (begun : List ℕ) (f : Fault) → Tidy st → AllIn begun → FaultIn f → Read (R.source st begun f)
  source_in st begun f h i k = record { fault = k; rows = h.rows; begun = all_in (places st.rows) begun h.rows i; names = h.names }

  read_on_lem : (f : ℕ) {t : Turn} → Turns t → Read (read_on mixed s f t)
  unfolding read_on
  read_on_lem zero (going i h) = source_in _ [] _ h tt (tt, i)
  read_on_lem zero (stopping l i j h) = source_in _ _ _ h j (l, i)
  read_on_lem zero (finishing h) = source_in _ [] _ h tt tt
  read_on_lem (suc f) (going {m} {at} {st} i h) = read_on_lem f (turn_turns m at st i h)
  read_on_lem (suc f) (stopping l i j h) = source_in _ _ _ h j (l, i)
  read_on_lem (suc f) (finishing h) = source_in _ [] _ h tt tt

  pub member_read : Read (read_member mixed s)
  unfolding read_member
  member_read = read_on_lem (suc (suc (length s))) (going (omega arith) (record { rows = tt; names = tt }))
