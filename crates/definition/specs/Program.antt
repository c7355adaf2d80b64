-- 01, "Reading": what a member's program is, as rows. 000, 3.2.1, is a tree; here each sentence, alternative and
-- procedure statement is one row, in the order of their places, with links that give the tree back.
use Rattle.std.specs.Prelude.{ℕ, Bool, true, false, List}
pub use Rattle.definition.specs.declared.ValueType.{ValueType as Type'}
pub use Rattle.definition.specs.declared.ValueType.TheVariants.{FixedType as fixed_type, CharacterType as character_type}
use Rattle.definition.specs.Refusal.{Why}
use Rattle.definition.specs.Expressions.{Tree}
use Rattle.definition.specs.Deck.{Sought}

-- BY or TO of a DO, in the order in which they are written
pub data Bound : Type 0 where
  by : Tree → Bound
  upto : Tree → Bound

-- a name in ACTIVATE, and whether it says NORESCAN
pub record Activation : Type 0 where
  pub spelling : List ℕ
  pub is_copied : Bool

-- the statements of 000, 3.2.1, with their names and trees
pub data Statement : Type 0 where
  null : Statement
  declare : List (List ℕ) → Statement
  procedure : List (List ℕ) → Type' → Statement
  assign : List ℕ → Tree → Statement
  conditional : Tree → Statement
  group : Statement
  iterated : List ℕ → Tree → List Bound → Statement
  goto : List ℕ → Statement
  include : List Sought → Statement
  activate : List Activation → Statement
  deactivate : List (List ℕ) → Statement
  return : Tree → Statement

-- ---- statements told apart from all others: a procedure, with its parameters and its type; an iterated group
abbrev pub of_procedure : {A : Type 0} → Statement → (List (List ℕ) → Type' → A) → (Unit {0} → A) → A
of_procedure null f other = other tt
of_procedure (declare ns) f other = other tt
of_procedure (procedure ns t) f other = f ns t
of_procedure (assign n x) f other = other tt
of_procedure (conditional x) f other = other tt
of_procedure group f other = other tt
of_procedure (iterated n x bs) f other = other tt
of_procedure (goto n) f other = other tt
of_procedure (include ns) f other = other tt
of_procedure (activate xs) f other = other tt
of_procedure (deactivate ns) f other = other tt
of_procedure (return x) f other = other tt

unfoldable pub is_iterated : Statement → Bool
is_iterated null = false
is_iterated (declare ns) = false
is_iterated (procedure ns t) = false
is_iterated (assign n x) = false
is_iterated (conditional x) = false
is_iterated group = false
is_iterated (iterated n x bs) = true
is_iterated (goto n) = false
is_iterated (include ns) = false
is_iterated (activate xs) = false
is_iterated (deactivate ns) = false
is_iterated (return x) = false

-- another row, or none
pub data Link : Type 0 where
  nowhere : Link
  row : ℕ → Link

-- what a row is to its parent: one of its list, or an alternative
pub data Role : Type 0 where
  listed : Role
  then_part : Role
  else_part : Role

-- a text, from a place of the body to another
pub record Stretch : Type 0 where
  pub from : ℕ
  pub to : ℕ

pub record Row : Type 0 where
  pub statement : Statement
  -- of its `%`, or in a procedure of its first token
  pub place : ℕ
  -- the IF, group or procedure that it stands in
  pub parent : Link
  pub role : Role
  -- the row that follows in its list
  pub next : Link
  -- the first row inside, or the THEN alternative
  pub child : Link
  -- the ELSE alternative
  pub other : Link
  -- the text that a group begins with
  pub lead : Stretch
  -- the text behind the sentence
  pub text : Stretch

-- "Names have global scope, or that of one procedure": a procedure is the number of its row
pub data Scope : Type 0 where
  global : Scope
  inside : ℕ → Scope

-- what a declaration makes of a name: a variable, an entry that ENTRY declares, the body of an entry, a label of a row
-- or of the END of a row, BUILTIN; or that it is listed as a parameter
pub data Meaning : Type 0 where
  variable : Type' → Meaning
  entry : Meaning
  body : ℕ → Meaning
  label : ℕ → Meaning
  end_label : ℕ → Meaning
  builtin : Meaning
  parameter : Meaning

pub record Declared : Type 0 where
  pub spelling : List ℕ
  pub place : ℕ
  pub scope : Scope
  pub meaning : Meaning

-- what stopped the reading, if anything did
pub data Fault : Type 0 where
  sound : Fault
  faulty : Why → ℕ → Fault

-- a member that was read: its leading text, its first row, its rows, its declarations by place; the places of its
-- sentences, one that stopped the reading among them; and what stopped it
pub record Source : Type 0 where
  pub lead : Stretch
  pub first : Link
  pub rows : List Row
  pub declared : List Declared
  pub begun : List ℕ
  pub fault : Fault
