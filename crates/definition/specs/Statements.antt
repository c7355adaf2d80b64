-- 000, 3.2.1: what each statement is, from behind its first word to behind its semicolon (of an IF, to behind THEN).
-- 01, "Reading": "Every statement outside procedures has its own `%`, also after THEN and before THEN and ELSE."
use Rattle.std.specs.Prelude.{ℕ, zero, suc, Bool, true, false, ◌||◌, List, [], ◌∷◌, ◌++◌, length}
use Prim.Native.String.{String}
use Rattle.definition.specs.Bytes.{Letters}
use Rattle.definition.specs.Choice.{when}
use Rattle.definition.specs.Refusal.{Why, syntax}
use Rattle.definition.specs.Tokens.{Token, is_word, is_sign, token_at}
use Rattle.definition.specs.Expressions.{Reading, read, refused, then, Tree, expect_sign, expect_word, Named, name_at, whole_expression}
use Rattle.definition.specs.Deck.{Sought, bare, in_library}
use Rattle.definition.specs.Program.{Type', fixed_type, character_type, Bound, by, upto, Activation, Statement, declare, procedure, assign, conditional, group, iterated, goto, include, activate, deactivate, return, Scope, global, inside, Meaning, variable, entry, builtin, parameter, Declared}

-- what a statement opens: nothing, a group, a procedure's body, or the THEN alternative
pub data Opens : Type 0 where
  opens_nothing : Opens
  opens_group : Opens
  opens_body : Opens
  opens_then : Opens

-- a statement that was read, with what it opens, and the place past it
pub record Clause : Type 0 where
  pub statement : Statement
  pub opens : Opens
  pub to : ℕ

abbrev pub clause : Statement → Opens → ℕ → Clause
clause x o to = record { statement = x; opens = o; to = to }

-- a statement that ends here, with a semicolon
unfoldable pub ended : Letters → List ℕ → Statement → ℕ → Reading Clause
ended α s x at = then (expect_sign α ";" s at) λ e. read (clause x opens_nothing e)

-- (17) assignment-statement, from behind `=`
unfoldable pub assignment : Letters → List ℕ → List ℕ → ℕ → Reading Clause
assignment α s target at = then (whole_expression α s at) λ r. ended α s (assign target r.tree) r.to

-- (6) if-clause: outside procedures THEN has its own `%`
unfoldable pub then_word : Letters → Bool → List ℕ → ℕ → Reading ℕ
then_word α true s at = expect_word α "THEN" s at
then_word α false s at = then (expect_sign α "%" s at) λ e. expect_word α "THEN" s e

unfoldable pub if_clause : Letters → Bool → List ℕ → ℕ → Reading Clause
if_clause α in_body s at =
    then (whole_expression α s at) λ r. then (then_word α in_body s r.to) λ e.
    read (clause (conditional r.tree) opens_then e)

-- (13) do-specification: BY and TO in either order, each at most once
unfoldable pub bound_at : Letters → String → (Tree → Bound) → List ℕ → List Bound → ℕ → (List Bound → ℕ → Reading Clause)
    → (Unit {0} → Reading Clause) → Reading Clause
bound_at α w make s bs at found absent =
    when (is_word w (token_at α s at).token)
    (λ _. then (whole_expression α s (token_at α s at).to) λ r. found (bs ++ make r.tree ∷ []) r.to)
    absent

unfoldable pub do_bounds : Letters → List ℕ → (List Bound → Statement) → ℕ → Reading Clause
do_bounds α s make at =
    bound_at α "BY" by s [] at (λ bs e. bound_at α "TO" upto s bs e finish (λ _. finish bs e))
    (λ _. bound_at α "TO" upto s [] at (λ bs e. bound_at α "BY" by s bs e finish (λ _. finish bs e))
    (λ _. finish [] at))
  where
    finish : List Bound → ℕ → Reading Clause
    finish bs e = then (expect_sign α ";" s e) λ q. read (clause (make bs) opens_group q)

-- (9) group
unfoldable pub do_clause : Letters → List ℕ → ℕ → Reading Clause
do_clause α s at =
    when (is_sign ";" (token_at α s at).token) (λ _. read (clause group opens_group (token_at α s at).to))
    (λ _. then (name_at α s at) λ n. then (expect_sign α "=" s n.to) λ e.
    then (whole_expression α s e) λ r. do_bounds α s (iterated n.spelling r.tree) r.to)

-- (14) goto-statement
unfoldable pub goto_clause : Letters → List ℕ → ℕ → Reading Clause
goto_clause α s at = then (name_at α s at) λ n. ended α s (goto n.spelling) n.to

-- names with commas between them, each with what `each` reads behind it; f is more than the turns
unfoldable pub list_of : {A : Type 0} → Letters → (List ℕ → ℕ → (A → ℕ → Reading Clause) → Reading Clause) → (List A → Statement)
    → List ℕ → ℕ → List A → ℕ → Reading Clause
list_of α each make s zero xs at = refused syntax at
list_of α each make s (suc f) xs at =
    each s at λ x e.
    when (is_sign "," (token_at α s e).token)
    (λ _. list_of α each make s f (xs ++ x ∷ []) (token_at α s e).to)
    (λ _. ended α s (make (xs ++ x ∷ [])) e)

abbrev pub each_name : Letters → List ℕ → ℕ → (List ℕ → ℕ → Reading Clause) → Reading Clause
each_name α s at f = then (name_at α s at) λ n. f n.spelling n.to

-- (15), (16) include-statement: a member's name, or 02, C-14: `library(member)`
abbrev pub each_member : Letters → List ℕ → ℕ → (Sought → ℕ → Reading Clause) → Reading Clause
each_member α s at f = then (name_at α s at) λ n.
    when (is_sign "(" (token_at α s n.to).token)
    (λ _. then (name_at α s (token_at α s n.to).to) λ m. then (expect_sign α ")" s m.to) λ e.
    f (in_library n.spelling m.spelling) e)
    (λ _. f (bare n.spelling) n.to)

unfoldable pub include_clause : Letters → List ℕ → ℕ → Reading Clause
include_clause α s at = list_of α (each_member α) include s (length s) [] at

-- (31) deactivate-statement
unfoldable pub deactivate_clause : Letters → List ℕ → ℕ → Reading Clause
deactivate_clause α s at = list_of α (each_name α) deactivate s (length s) [] at

-- (29), (30) activate-statement: "ACTIVATE alone means RESCAN"
abbrev pub each_activation : Letters → List ℕ → ℕ → (Activation → ℕ → Reading Clause) → Reading Clause
each_activation α s at f = then (name_at α s at) λ n.
    when (is_word "NORESCAN" (token_at α s n.to).token)
    (λ _. f (record { spelling = n.spelling; is_copied = true }) (token_at α s n.to).to)
    (λ _. when (is_word "RESCAN" (token_at α s n.to).token)
    (λ _. f (record { spelling = n.spelling; is_copied = false }) (token_at α s n.to).to)
    (λ _. f (record { spelling = n.spelling; is_copied = false }) n.to))

unfoldable pub activate_clause : Letters → List ℕ → ℕ → Reading Clause
activate_clause α s at = list_of α (each_activation α) activate s (length s) [] at

-- (47) return-statement: "RETURN's own `(` is not part of the expression"
unfoldable pub return_clause : Letters → List ℕ → ℕ → Reading Clause
return_clause α s at =
    then (expect_sign α "(" s at) λ e. then (whole_expression α s e) λ r. then (expect_sign α ")" s r.to) λ q.
    ended α s (return r.tree) q

-- ---- (32) to (34) and (48) to (50): declare-statement. The names that were read count even where the statement is
-- wrong
pub data Declaring : Type 0 where
  declared : Clause → List Declared → Declaring
  undeclared : Why → ℕ → List Declared → Declaring

abbrev pub then_declare : {A : Type 0} → List Declared → Reading A → (A → Declaring) → Declaring
then_declare ds (read a) f = f a
then_declare ds (refused w p) f = undeclared w p ds

-- a name that was read, in a scope
abbrev pub means : Scope → Meaning → List Named → List Declared
means k m [] = []
means k m (n ∷ ns) = record { spelling = n.spelling; place = n.place; scope = k; meaning = m } ∷ means k m ns

-- names with commas between them, in the scope k, and the parenthesis behind them; f is more than the turns
unfoldable pub names_at : Letters → Scope → Meaning → List ℕ → List Declared → ℕ → List Named → ℕ → (List Named → ℕ → Declaring)
    → Declaring
names_at α k m s ds zero ns at f = undeclared syntax at ds
names_at α k m s ds (suc n) ns at f = then_declare (ds ++ means k m ns) (name_at α s at) λ x.
    when (is_sign "," (token_at α s x.to).token) (λ _. names_at α k m s ds n (ns ++ x ∷ []) (token_at α s x.to).to f)
    (λ _. then_declare (ds ++ means k m (ns ++ x ∷ [])) (expect_sign α ")" s x.to) λ e. f (ns ++ x ∷ []) e)

abbrev pub is_character : Token → Bool
is_character t = is_word "CHARACTER" t || is_word "CHAR" t

-- (34) attribute outside procedures, (50) inside
unfoldable pub attribute : Scope → Token → ℕ → ℕ → (Meaning → ℕ → Declaring) → (Unit {0} → Declaring) → Declaring
attribute global t from to found absent =
    when (is_character t) (λ _. found (variable character_type) to)
    (λ _. when (is_word "FIXED" t) (λ _. found (variable fixed_type) to)
    (λ _. when (is_word "ENTRY" t) (λ _. found entry to) absent))
attribute (inside r) t from to found absent =
    when (is_character t) (λ _. found (variable character_type) to)
    (λ _. when (is_word "FIXED" t) (λ _. found (variable fixed_type) to)
    (λ _. when (is_word "BUILTIN" t) (λ _. found builtin to) absent))

abbrev pub spellings : List Declared → List (List ℕ)
spellings [] = []
spellings (d ∷ ds) = d.spelling ∷ spellings ds

-- the names of a declaration, which end at e, with their attribute; then a comma and the next, or the end
unfoldable pub declare_names : Letters → Scope → List ℕ → List Declared → List Named → ℕ → (List Declared → ℕ → Declaring)
    → Declaring
declare_names α k s ds ns e next =
    attribute k (token_at α s e).token (token_at α s e).from (token_at α s e).to
    (λ m to. next (ds ++ means k m ns) to)
    (λ _. undeclared syntax (token_at α s e).from (ds ++ means k (variable fixed_type) ns))

-- behind a declaration: a comma and the next, which `again` reads, or the end
unfoldable pub declare_next : Letters → List ℕ → (List Declared → ℕ → Declaring) → List Declared → ℕ → Declaring
declare_next α s again ds e =
    when (is_sign "," (token_at α s e).token) (λ _. again ds (token_at α s e).to)
    (λ _. then_declare ds (expect_sign α ";" s e) λ q. declared (clause (declare (spellings ds)) opens_nothing q) ds)

unfoldable pub declare_from : Letters → Scope → List ℕ → ℕ → List Declared → ℕ → Declaring
declare_from α k s zero ds at = undeclared syntax at ds
declare_from α k s (suc f) ds at =
    when (is_sign "(" (token_at α s at).token)
    (λ _. names_at α k (variable fixed_type) s ds (length s) [] (token_at α s at).to λ ns e.
    declare_names α k s ds ns e (declare_next α s (declare_from α k s f)))
    (λ _. then_declare ds (name_at α s at) λ n. declare_names α k s ds (n ∷ []) n.to (declare_next α s (declare_from α k s f)))

-- ---- (35), (36) procedure, from behind PROCEDURE: its parameters and its type
unfoldable pub returns_type : Letters → List ℕ → ℕ → (Type' → ℕ → Declaring) → List Declared → Declaring
returns_type α s at f ds =
    then_declare ds (expect_word α "RETURNS" s at) λ e. then_declare ds (expect_sign α "(" s e) λ q.
    when (is_character (token_at α s q).token) (λ _. f character_type (token_at α s q).to)
    (λ _. then_declare ds (expect_word α "FIXED" s q) (f fixed_type))

unfoldable pub procedure_head : Letters → Scope → List ℕ → List Named → ℕ → Declaring
procedure_head α k s ns at =
    returns_type α s at (λ t e. then_declare ds (expect_sign α ")" s e) λ q. then_declare ds (expect_sign α ";" s q) λ z.
    declared (clause (procedure (spellings ds) t) opens_body z) ds) ds
  where
    ds : List Declared
    ds = means k parameter ns

unfoldable pub procedure_clause : Letters → Scope → List ℕ → ℕ → Declaring
procedure_clause α k s at =
    when (is_sign "(" (token_at α s at).token)
    (λ _. names_at α k parameter s [] (length s) [] (token_at α s at).to (procedure_head α k s))
    (λ _. procedure_head α k s [] at)
