-- Two readings of a source, by the letters α and β, whose tokens agree at the places of P, and which go on from such a place to
-- such a place: they read the same expressions and the same statements.
-- Assumes nothing.
use Prim.Native.Nat.{ℕ, zero, suc}
use Prim.Native.String.{String}
use mathlib.Core.Bool.{Bool, true, false}
use mathlib.Core.List.{List, [], ◌∷◌, ◌++◌}
use mathlib.Core.Path.{◌≡◌}
use lib.ListN.{length}
use Rattle.definition.specs.Bytes.{Letters}
use Rattle.definition.specs.Refusal.{Why, over_limit}
use Rattle.definition.specs.Tokens.{Token, word, integer, string, bits, sign, nothing, wrong, Lexeme, is_word, is_sign, token_at}
use Rattle.definition.specs.Expressions.{Reading, read, refused, then, Operator, Prefix, Tree, binary, Parsed, Maybe, is, no_operator, infix_of, prefix_of, expect_sign, expect_word, Named, name_of, name_at, Reader, arguments, reference_at, primitive, prefixed, operand, chained, chain, levels, expression, whole_expression}
use Rattle.definition.specs.Limits.{open_parentheses}
use Rattle.definition.specs.Program.{Type', Bound, by, upto, Statement, Scope, global, inside, Meaning, parameter, Declared}
use Rattle.definition.specs.Statements.{opens_group, Clause, clause, ended, assignment, then_word, if_clause, bound_at, do_bounds, do_clause, goto_clause, list_of, each_name, each_member, include_clause, deactivate_clause, each_activation, activate_clause, return_clause, Declaring, declared, undeclared, then_declare, names_at, is_character, attribute, declare_names, declare_next, declare_from, returns_type, procedure_head, procedure_clause}
use Rattle.definition.proofs.Choices.{when_both, cond_has}
use Rattle.definition.proofs.Ends.{Reads, reads, refuses, name_has}

-- what is read is the same, and has a property
pub data Alike {A : Type 0} (Q : A → Type 0) : Reading A → Reading A → Type 0 where
  both : {a : A} → Q a → Alike Q (read a) (read a)
  neither : {w : Why} {p : ℕ} → Alike Q (refused w p) (refused w p)

pub then_alike : {A B : Type 0} {Q : A → Type 0} {R : B → Type 0} {r u : Reading A} (f g : A → Reading B) → Alike Q r u → ((a : A) → Q a → Alike R (f a) (g a)) → Alike R (then r f) (then u g)
then_alike f g (both {a} h) k = k a h
then_alike f g neither k = neither

itself : {A : Type 0} {Q : A → Type 0} {r : Reading A} → Reads Q r → Alike Q r r
itself (reads h) = both h
itself refuses = neither

module _ (α β : Letters) (s : List ℕ) (P : ℕ → Type 0) (tokens : (e : ℕ) → P e → (token_at α s e ≡ token_at β s e) × P (token_at β s e).to) where
  abbrev T : ℕ → Lexeme
  T e = token_at β s e

  abbrev pub Names : Reading Named → Reading Named → Type 0
  Names r u = Alike (λ (n : Named). P n.to) r u

  abbrev Trees : Reading Parsed → Reading Parsed → Type 0
  Trees r u = Alike (λ (x : Parsed). P x.to) r u

  abbrev pub Clauses : Reading Clause → Reading Clause → Type 0
  Clauses r u = Alike (λ (c : Clause). P c.to) r u

  -- ---- tokens that must follow
  sign_alike : (w : String) (at : ℕ) → P at → Alike P (expect_sign α w s at) (expect_sign β w s at)
  unfolding expect_sign
  sign_alike w at h = rw (tokens at h).0 (cond_has (λ x. Alike P x x) (is_sign w (T at).token) _ _ (λ _. both (tokens at h).1) λ _. neither)

  pub word_alike : (w : String) (at : ℕ) → P at → Alike P (expect_word α w s at) (expect_word β w s at)
  unfolding expect_word
  word_alike w at h = rw (tokens at h).0 (cond_has (λ x. Alike P x x) (is_word w (T at).token) _ _ (λ _. both (tokens at h).1) λ _. neither)

  pub name_of_lem : (t : Token) (from to : ℕ) → P to → Names (name_of t from to) (name_of t from to)
  name_of_lem t from to h = itself (name_has (λ n. P n.to) t from to λ _ _. h)

  name_alike : (at : ℕ) → P at → Names (name_at α s at) (name_at β s at)
  unfolding name_at
  name_alike at h = rw (tokens at h).0 (name_of_lem (T at).token (T at).from (T at).to (tokens at h).1)

  -- ---- expressions
  abbrev Readers : Reader → Reader → Type 0
  Readers i j = (at : ℕ) → P at → Trees (i at) (j at)

  arguments_alike : (i j : Reader) → Readers i j → (f : ℕ) → Readers (arguments α i s f) (arguments β j s f)
  unfolding arguments
  arguments_alike i j h zero at k = neither
  arguments_alike i j h (suc f) at k = then_alike _ _ (h at k) λ a p. rw (tokens a.to p).0 (
      when_both Trees (is_sign "," (T a.to).token) _ _ _ _
      (then_alike _ _ (arguments_alike i j h f (T a.to).to (tokens a.to p).1) λ r q. both q)
      (then_alike _ _ (sign_alike ")" a.to p) λ e q. both q))

  module _ (i j : ℕ → Reader) (h : (p : ℕ) → Readers (i p) (j p)) where
    reference_alike : (n : Named) (u : Lexeme) → P n.to → P u.to → Trees (reference_at α i s n u) (reference_at β j s n u)
    unfolding reference_at
    reference_alike n u k l =
        when_both Trees (is_sign "(" u.token) _ _ _ _
        (then_alike _ _ (arguments_alike (i u.from) (j u.from) (h u.from) (length s) u.to l) λ r q. both q) (both k)

    primitive_alike : (t : Token) (from to : ℕ) → P to → Trees (primitive α i s t from to) (primitive β j s t from to)
    unfolding primitive
    primitive_alike (word w) from to k = then_alike _ _ (name_of_lem (word w) from to k) λ n q. rw (tokens to k).0 (reference_alike n (T to) q (tokens to k).1)
    primitive_alike (integer w) from to k = both k
    primitive_alike (string w) from to k = both k
    primitive_alike (bits w) from to k = both k
    primitive_alike (sign w) from to k = when_both Trees (is_sign "(" (sign w)) _ _ _ _ (then_alike _ _ (h from to k) λ r p. then_alike _ _ (sign_alike ")" r.to p) λ e q. both q) neither
    primitive_alike nothing from to k = neither
    primitive_alike wrong from to k = neither

    prefixed_alike : (o : Maybe Prefix) (f g k l : Unit {0} → Reading Parsed) → Trees (f tt) (k tt) → Trees (g tt) (l tt) → Trees (prefixed o f g) (prefixed o k l)
    prefixed_alike (is o) f g k l p q = then_alike _ _ p λ r e. both e
    prefixed_alike no_operator f g k l p q = q

    operand_alike : (f : ℕ) → Readers (operand α i s f) (operand β j s f)
    unfolding operand
    operand_alike zero at k = neither
    operand_alike (suc f) at k = rw (tokens at k).0 (
        prefixed_alike (prefix_of (T at).token) _ _ _ _ (operand_alike f (T at).to (tokens at k).1)
        (primitive_alike (T at).token (T at).from (T at).to (tokens at k).1))

  chained_alike : (o : Maybe Operator) (f g : Operator → Reading Parsed) (k l : Reading Parsed) → ((x : Operator) → Trees (f x) (g x)) → Trees k l → Trees (chained o f k) (chained o g l)
  chained_alike (is o) f g k l p q = p o
  chained_alike no_operator f g k l p q = q

  chain_alike : (l : ℕ) (i j : Reader) → Readers i j → (f : ℕ) (t : Tree) → Readers (chain α l i s f t) (chain β l j s f t)
  unfolding chain
  chain_alike l i j h zero t at k = neither
  chain_alike l i j h (suc f) t at k = rw (tokens at k).0 (
      chained_alike (infix_of l (T at).token) _ _ _ _
      (λ o. then_alike _ _ (h (T at).to (tokens at k).1) λ r p. chain_alike l i j h f (binary o t r.tree) r.to p) (both k))

  levels_alike : (i j : Reader) → Readers i j → (l : ℕ) → Readers (levels α i s l) (levels β j s l)
  unfolding levels
  levels_alike i j h zero at k = h at k
  levels_alike i j h (suc l) at k = then_alike _ _ (levels_alike i j h l at k) λ r p. chain_alike l _ _ (levels_alike i j h l) (suc (length s)) r.tree r.to p

  expression_alike : (d : ℕ) → Readers (expression α d s) (expression β d s)
  unfolding expression
  expression_alike zero at k = levels_alike _ _ (operand_alike (λ p q. refused over_limit p) (λ p q. refused over_limit p) (λ p q _. neither) (suc (length s))) 6 at k
  expression_alike (suc d) at k = levels_alike _ _ (operand_alike (λ p q. expression α d s q) (λ p q. expression β d s q) (λ p. expression_alike d) (suc (length s))) 6 at k

  whole : (at : ℕ) → P at → Trees (whole_expression α s at) (whole_expression β s at)
  whole at k = expression_alike open_parentheses at k

  -- ---- statements
  ended_alike : (x : Statement) (at : ℕ) → P at → Clauses (ended α s x at) (ended β s x at)
  unfolding ended
  ended_alike x at h = then_alike _ _ (sign_alike ";" at h) λ e q. both q

  pub assignment_alike : (t : List ℕ) (at : ℕ) → P at → Clauses (assignment α s t at) (assignment β s t at)
  unfolding assignment
  assignment_alike t at h = then_alike _ _ (whole at h) λ r q. ended_alike _ r.to q

  then_word_lem : (b : Bool) (at : ℕ) → P at → Alike P (then_word α b s at) (then_word β b s at)
  unfolding then_word
  then_word_lem true at h = word_alike "THEN" at h
  then_word_lem false at h = then_alike _ _ (sign_alike "%" at h) λ e q. word_alike "THEN" e q

  pub if_alike : (b : Bool) (at : ℕ) → P at → Clauses (if_clause α b s at) (if_clause β b s at)
  unfolding if_clause
  if_alike b at h = then_alike _ _ (whole at h) λ r p. then_alike _ _ (then_word_lem b r.to p) λ e q. both q

  bound_alike : (w : String) (make : Tree → Bound) (bs : List Bound) (at : ℕ) (f g : List Bound → ℕ → Reading Clause) (k l : Unit {0} → Reading Clause) → ((bs : List Bound) (e : ℕ) → P e → Clauses (f bs e) (g bs e)) → Clauses (k tt) (l tt) → P at → Clauses (bound_at α w make s bs at f k) (bound_at β w make s bs at g l)
  unfolding bound_at
  bound_alike w make bs at f g k l i j h = rw (tokens at h).0 (when_both Clauses (is_word w (T at).token) _ _ _ _ (then_alike _ _ (whole (T at).to (tokens at h).1) λ r q. i _ r.to q) j)

  bounds_alike : (make : List Bound → Statement) (at : ℕ) → P at → Clauses (do_bounds α s make at) (do_bounds β s make at)
  unfolding do_bounds
  bounds_alike make at h =
      bound_alike "BY" by [] at _ _ _ _ (λ bs e p. bound_alike "TO" upto bs e _ _ _ _ finish (finish bs e p) p)
      (bound_alike "TO" upto [] at _ _ _ _ (λ bs e p. bound_alike "BY" by bs e _ _ _ _ finish (finish bs e p) p) (finish [] at h) h) h
    where
      finish : (bs : List Bound) (e : ℕ) → P e → Clauses (then (expect_sign α ";" s e) λ q. read (clause (make bs) opens_group q)) (then (expect_sign β ";" s e) λ q. read (clause (make bs) opens_group q))
      finish bs e p = then_alike _ _ (sign_alike ";" e p) λ q i. both i

  pub do_alike : (at : ℕ) → P at → Clauses (do_clause α s at) (do_clause β s at)
  unfolding do_clause
  do_alike at h = rw (tokens at h).0 (when_both Clauses (is_sign ";" (T at).token) _ _ _ _ (both (tokens at h).1) (
      then_alike _ _ (name_alike at h) λ n p. then_alike _ _ (sign_alike "=" n.to p) λ e q.
      then_alike _ _ (whole e q) λ r i. bounds_alike _ r.to i))

  pub goto_alike : (at : ℕ) → P at → Clauses (goto_clause α s at) (goto_clause β s at)
  unfolding goto_clause
  goto_alike at h = then_alike _ _ (name_alike at h) λ n p. ended_alike _ n.to p

  -- lists, each item of which goes on alike
  abbrev Each : {A : Type 0} → (List ℕ → ℕ → (A → ℕ → Reading Clause) → Reading Clause) → (List ℕ → ℕ → (A → ℕ → Reading Clause) → Reading Clause) → Type 0
  Each {A} x y = (at : ℕ) → P at → (f g : A → ℕ → Reading Clause) → ((a : A) (e : ℕ) → P e → Clauses (f a e) (g a e)) → Clauses (x s at f) (y s at g)

  list_alike : {A : Type 0} (x y : List ℕ → ℕ → (A → ℕ → Reading Clause) → Reading Clause) → Each x y → (make : List A → Statement) (f : ℕ) (xs : List A) (at : ℕ) → P at → Clauses (list_of α x make s f xs at) (list_of β y make s f xs at)
  unfolding list_of
  list_alike x y h make zero xs at k = neither
  list_alike x y h make (suc f) xs at k = h at k _ _ λ a e p. rw (tokens e p).0 (when_both Clauses (is_sign "," (T e).token) _ _ _ _ (list_alike x y h make f (xs ++ a ∷ []) (T e).to (tokens e p).1) (ended_alike _ e p))

  pub include_alike : (at : ℕ) → P at → Clauses (include_clause α s at) (include_clause β s at)
  unfolding include_clause
  include_alike at h = list_alike (each_member α) (each_member β) (λ e k f g i. then_alike _ _ (name_alike e k) λ n p. rw (tokens n.to p).0 (
      when_both Clauses (is_sign "(" (T n.to).token) _ _ _ _
      (then_alike _ _ (name_alike (T n.to).to (tokens n.to p).1) λ m q. then_alike _ _ (sign_alike ")" m.to q) λ e j. i _ e j) (i _ n.to p))) _ (length s) [] at h

  pub deactivate_alike : (at : ℕ) → P at → Clauses (deactivate_clause α s at) (deactivate_clause β s at)
  unfolding deactivate_clause
  deactivate_alike at h = list_alike (each_name α) (each_name β) (λ e k f g i. then_alike _ _ (name_alike e k) λ n p. i _ n.to p) _ (length s) [] at h

  pub activate_alike : (at : ℕ) → P at → Clauses (activate_clause α s at) (activate_clause β s at)
  unfolding activate_clause
  activate_alike at h = list_alike (each_activation α) (each_activation β) (λ e k f g i. then_alike _ _ (name_alike e k) λ n p. rw (tokens n.to p).0 (
      when_both Clauses (is_word "NORESCAN" (T n.to).token) _ _ _ _ (i _ (T n.to).to (tokens n.to p).1)
      (when_both Clauses (is_word "RESCAN" (T n.to).token) _ _ _ _ (i _ (T n.to).to (tokens n.to p).1) (i _ n.to p)))) _ (length s) [] at h

  pub return_alike : (at : ℕ) → P at → Clauses (return_clause α s at) (return_clause β s at)
  unfolding return_clause
  return_alike at h = then_alike _ _ (sign_alike "(" at h) λ e p. then_alike _ _ (whole e p) λ r q. then_alike _ _ (sign_alike ")" r.to q) λ z i. ended_alike _ z i

  -- ---- declarations
  pub data Declares : Declaring → Declaring → Type 0 where
    declares : {c : Clause} {ds : List Declared} → P c.to → Declares (declared c ds) (declared c ds)
    declares_not : {w : Why} {p : ℕ} {ds : List Declared} → Declares (undeclared w p ds) (undeclared w p ds)

  then_declare_lem : {A : Type 0} {Q : A → Type 0} (ds : List Declared) {r u : Reading A} (f g : A → Declaring) → Alike Q r u → ((a : A) → Q a → Declares (f a) (g a)) → Declares (then_declare ds r f) (then_declare ds u g)
  then_declare_lem ds f g (both {a} h) k = k a h
  then_declare_lem ds f g neither k = declares_not

  names_alike : (k : Scope) (m : Meaning) (ds : List Declared) (f : ℕ) (ns : List Named) (at : ℕ) (x y : List Named → ℕ → Declaring) → ((ns : List Named) (e : ℕ) → P e → Declares (x ns e) (y ns e)) → P at → Declares (names_at α k m s ds f ns at x) (names_at β k m s ds f ns at y)
  unfolding names_at
  names_alike k m ds zero ns at x y i h = declares_not
  names_alike k m ds (suc f) ns at x y i h = then_declare_lem _ _ _ (name_alike at h) λ n p. rw (tokens n.to p).0 (
      when_both Declares (is_sign "," (T n.to).token) _ _ _ _ (names_alike k m ds f (ns ++ n ∷ []) (T n.to).to x y i (tokens n.to p).1)
      (then_declare_lem _ _ _ (sign_alike ")" n.to p) λ e q. i _ e q))

  attribute_alike : (k : Scope) (t : Token) (from to : ℕ) (f g : Meaning → ℕ → Declaring) (x y : Unit {0} → Declaring) → ((m : Meaning) → Declares (f m to) (g m to)) → Declares (x tt) (y tt) → Declares (attribute k t from to f x) (attribute k t from to g y)
  unfolding attribute
  attribute_alike global t from to f g x y i j =
      when_both Declares (is_character t) _ _ _ _ (i _) (when_both Declares (is_word "FIXED" t) _ _ _ _ (i _) (when_both Declares (is_word "ENTRY" t) _ _ _ _ (i _) j))
  attribute_alike (inside r) t from to f g x y i j =
      when_both Declares (is_character t) _ _ _ _ (i _) (when_both Declares (is_word "FIXED" t) _ _ _ _ (i _) (when_both Declares (is_word "BUILTIN" t) _ _ _ _ (i _) j))

  abbrev Nexts : (List Declared → ℕ → Declaring) → (List Declared → ℕ → Declaring) → Type 0
  Nexts f g = (ds : List Declared) (e : ℕ) → P e → Declares (f ds e) (g ds e)

  declare_names_lem : (k : Scope) (ds : List Declared) (ns : List Named) (e : ℕ) (f g : List Declared → ℕ → Declaring) → Nexts f g → P e → Declares (declare_names α k s ds ns e f) (declare_names β k s ds ns e g)
  unfolding declare_names
  declare_names_lem k ds ns e f g i h = rw (tokens e h).0 (attribute_alike k (T e).token (T e).from (T e).to _ _ _ _ (λ m. i _ (T e).to (tokens e h).1) declares_not)

  declare_next_lem : (f g : List Declared → ℕ → Declaring) → Nexts f g → Nexts (declare_next α s f) (declare_next β s g)
  unfolding declare_next
  declare_next_lem f g i ds e h = rw (tokens e h).0 (when_both Declares (is_sign "," (T e).token) _ _ _ _ (i ds (T e).to (tokens e h).1) (then_declare_lem ds _ _ (sign_alike ";" e h) λ q p. declares p))

  pub declare_alike : (k : Scope) (f : ℕ) → Nexts (declare_from α k s f) (declare_from β k s f)
  unfolding declare_from
  declare_alike k zero ds at h = declares_not
  declare_alike k (suc f) ds at h = rw (tokens at h).0 (
      when_both Declares (is_sign "(" (T at).token) _ _ _ _
      (names_alike k _ ds (length s) [] (T at).to _ _ (λ ns e p. declare_names_lem k ds ns e _ _ (declare_next_lem _ _ (declare_alike k f)) p) (tokens at h).1)
      (then_declare_lem ds _ _ (name_alike at h) λ n p. declare_names_lem k ds (n ∷ []) n.to _ _ (declare_next_lem _ _ (declare_alike k f)) p))

  returns_alike : (at : ℕ) (f g : Type' → ℕ → Declaring) (ds : List Declared) → ((t : Type') (e : ℕ) → P e → Declares (f t e) (g t e)) → P at → Declares (returns_type α s at f ds) (returns_type β s at g ds)
  unfolding returns_type
  returns_alike at f g ds i h = then_declare_lem ds _ _ (word_alike "RETURNS" at h) λ e p. then_declare_lem ds _ _ (sign_alike "(" e p) λ q j. rw (tokens q j).0 (
      when_both Declares (is_character (T q).token) _ _ _ _ (i _ (T q).to (tokens q j).1) (then_declare_lem ds _ _ (word_alike "FIXED" q j) λ z l. i _ z l))

  head_alike : (k : Scope) (ns : List Named) (at : ℕ) → P at → Declares (procedure_head α k s ns at) (procedure_head β k s ns at)
  unfolding procedure_head
  head_alike k ns at h = returns_alike at _ _ _ (λ t e p. then_declare_lem _ _ _ (sign_alike ")" e p) λ q j. then_declare_lem _ _ _ (sign_alike ";" q j) λ z l. declares l) h

  pub procedure_alike : (k : Scope) (at : ℕ) → P at → Declares (procedure_clause α k s at) (procedure_clause β k s at)
  unfolding procedure_clause
  procedure_alike k at h = rw (tokens at h).0 (
      when_both Declares (is_sign "(" (T at).token) _ _ _ _
      (names_alike k parameter [] (length s) [] (T at).to _ _ (λ ns e p. head_alike k ns e p) (tokens at h).1) (head_alike k [] at h))
