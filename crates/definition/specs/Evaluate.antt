-- 01, "Values" and the order of tests: "Operands are evaluated left to right, then converted so; an argument before the
-- next is taken. A call tests 6, 11, takes its arguments, then tests 12, 15." u is the bytes of the unfinished values
-- that wait.
use Rattle.std.specs.Prelude.{ℕ, suc, ◌+◌, Bool, cond, ◌||◌, List, [], ◌∷◌, eqb, length}
use Rattle.definition.specs.Choice.{when}
use Rattle.definition.specs.Text.{bytes_of}
use Rattle.definition.specs.Lists.{same}
use Rattle.definition.specs.Refusal.{Why, wrong_name, no_value, wrong_arguments}
use Rattle.definition.specs.Expressions.{Tree, integer_of, string_of, bits_of, reference, call, unary, binary, none, more}
use Rattle.definition.specs.Program.{Type', fixed_type, Statement, of_procedure}
use Rattle.definition.specs.Values.{Value, fixed, characters, bit_value, Answer, gives, fails, and_then, constant, convert, size_of, limited, unfinished, infixed, prefixed, subject, substr}
use Rattle.definition.specs.World as W
use Rattle.definition.specs.World.{Owner, procedure_at, Body, no_body, body_at, Denotation, variable_of, entry_of, label_at, builtin_name, Cell, Address, address, unknown, World, Res, good, bad, bind, ask, seen_from, address_of, denotation, value_at, row_of, rows_of}

-- ---- what a name means in an expression
pub data Meant : Type 0 where
  a_variable : ℕ → Type' → Meant
  an_entry : Body → Meant
  the_substr : Meant
  no_such : Meant

unfoldable pub is_substr : List ℕ → Bool
is_substr n = same n (bytes_of "SUBSTR")

-- "any other BUILTIN name is 6 when used"
abbrev pub meant_by : Denotation → ℕ → List ℕ → Meant
meant_by (variable_of t) a n = a_variable a t
meant_by (entry_of e b) a n = an_entry b
meant_by (label_at m r x) a n = no_such
meant_by builtin_name a n = cond (is_substr n) the_substr no_such

-- "An undeclared SUBSTR is the builtin"
abbrev pub meant_at : Address → List ℕ → World → Meant
meant_at (address a) n w = meant_by (denotation a w) a n
meant_at unknown n w = cond (is_substr n) the_substr no_such

unfoldable pub meant : Owner → List ℕ → World → Meant
meant k n w = meant_at (seen_from k n w) n w

-- ---- "A parameter its procedure doesn't declare FIXED or CHARACTER is 6 at the call, as is an entry without a body."
pub record Parameter : Type 0 where
  pub at : ℕ
  pub type : Type'

abbrev pub parameter_as : Denotation → ℕ → Answer Parameter
parameter_as (variable_of t) a = gives (record { at = a; type = t })
parameter_as (entry_of e b) a = fails wrong_name
parameter_as (label_at m r x) a = fails wrong_name
parameter_as builtin_name a = fails wrong_name

abbrev pub parameter_at : Address → World → Answer Parameter
parameter_at (address a) w = parameter_as (denotation a w) a
parameter_at unknown w = fails wrong_name

unfoldable pub parameters : Owner → List (List ℕ) → World → Answer (List Parameter)
parameters k [] w = gives []
parameters k (n ∷ ns) w =
    and_then (parameter_at (address_of n k w) w) λ p. and_then (parameters k ns w) λ ps. gives (p ∷ ps)

-- the parameters that the statement of a procedure lists; no other statement comes here
abbrev pub listed_in : Statement → List (List ℕ)
listed_in x = of_procedure x (λ ns t. ns) (λ _. [])

-- a body that can be called: where it is, and its parameters
pub record Callee : Type 0 where
  pub member : ℕ
  pub row : ℕ
  pub parameters : List Parameter

unfoldable pub callee : Body → World → Answer Callee
callee no_body w = fails wrong_name
callee (body_at m r) w =
    and_then (parameters (procedure_at m r) (listed_in (row_of (rows_of m w) r).statement) w) λ ps.
    gives (record { member = m; row = r; parameters = ps })

-- ---- arguments: each is evaluated, made what is wished for, and waits for the next
pub data Wish : Type 0 where
  as_type : Type' → Wish
  as_subject : Wish

abbrev pub wished : Wish → Value → Answer Value
wished (as_type t) v = convert t v
wished as_subject v = gives (subject v)

abbrev pub wishes : List Parameter → List Wish
wishes [] = []
wishes (p ∷ ps) = as_type p.type ∷ wishes ps

abbrev pub substr_wishes : List Wish
substr_wishes = as_subject ∷ as_type fixed_type ∷ as_type fixed_type ∷ []

-- how many arguments a list has
unfoldable pub count : Tree → ℕ
count (integer_of ds) = 0
count (string_of l) = 0
count (bits_of l) = 0
count (reference n) = 0
count (call n a) = 0
count (unary o a) = 0
count (binary o a b) = 0
count none = 0
count (more a b) = suc (count b)

-- how a callee is run with its arguments, which lie above u
abbrev pub Call : Type 0
Call = Callee → List Value → ℕ → World → Res Why Value

-- a value is put unfinished those that wait
unfoldable pub put : ℕ → Answer Value → World → Res Why Value
put u a w = ask (and_then a (unfinished u)) w

abbrev pub read_cell : Cell → ℕ → World → Res Why Value
read_cell W.no_value u w = bad no_value w.used
read_cell (W.holds v) u w = put u (gives v) w

-- a name without a list
unfoldable pub plain_name : Call → Meant → ℕ → World → Res Why Value
plain_name run (a_variable a t) u w = read_cell (value_at a w) u w
plain_name run (an_entry b) u w = bind (ask (callee b w) w) λ c v.
    when (eqb (length c.parameters) 0) (λ _. run c [] u v) (λ _. bad wrong_arguments v.used)
plain_name run the_substr u w = bad wrong_arguments w.used
plain_name run no_such u w = bad wrong_name w.used

-- a name with a list of n arguments, which `take` evaluates
unfoldable pub listed_name : Call → (List Wish → ℕ → World → Res Why (List Value)) → ℕ → Meant → ℕ → World
    → Res Why Value
listed_name run take n (a_variable a t) u w = bad wrong_name w.used
listed_name run take n (an_entry b) u w = bind (ask (callee b w) w) λ c v.
    when (eqb (length c.parameters) n) (λ _. bind (take (wishes c.parameters) u v) λ vs x. run c vs u x)
    (λ _. bad wrong_arguments v.used)
listed_name run take n the_substr u w =
    when (eqb n 2 || eqb n 3) (λ _. bind (take substr_wishes u w) λ vs x. put u (substr vs) x)
    (λ _. bad wrong_arguments w.used)
listed_name run take n no_such u w = bad wrong_name w.used

-- THE VALUE of an expression, seen from the scope k. A list of arguments is no expression and an expression no list:
-- where one stands for the other is not met, nor are more arguments than wishes
unfoldable mutual
  pub evaluate : Call → Owner → Tree → ℕ → World → Res Why Value
  evaluate run k (integer_of ds) u w = ask (and_then (constant ds) λ z. gives (fixed z)) w
  evaluate run k (string_of l) u w = put u (limited (characters l)) w
  evaluate run k (bits_of l) u w = put u (limited (bit_value l)) w
  evaluate run k (reference n) u w = plain_name run (meant k n w) u w
  evaluate run k (call n xs) u w = listed_name run (λ ws v x. arguments run k xs ws v x) (count xs) (meant k n w) u w
  evaluate run k (unary o a) u w = bind (evaluate run k a u w) λ x v. put u (prefixed o x) v
  evaluate run k (binary o a b) u w = bind (evaluate run k a u w) λ x v.
      bind (evaluate run k b (u + size_of x) v) λ y z. put u (infixed u o x y) z
  evaluate run k none u w = bad wrong_arguments w.used
  evaluate run k (more a b) u w = bad wrong_arguments w.used

  pub arguments : Call → Owner → Tree → List Wish → ℕ → World → Res Why (List Value)
  arguments run k (integer_of ds) ws u w = good [] w
  arguments run k (string_of l) ws u w = good [] w
  arguments run k (bits_of l) ws u w = good [] w
  arguments run k (reference n) ws u w = good [] w
  arguments run k (call n xs) ws u w = good [] w
  arguments run k (unary o a) ws u w = good [] w
  arguments run k (binary o a b) ws u w = good [] w
  arguments run k none ws u w = good [] w
  arguments run k (more a b) [] u w = good [] w
  arguments run k (more a b) (g ∷ gs) u w = bind (evaluate run k a u w) λ x v. bind (put u (wished g x) v) λ y z.
      bind (arguments run k b gs (u + size_of y) z) λ ys r. good (y ∷ ys) r
