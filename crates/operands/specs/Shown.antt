-- HOW THE ROOMS SHOW A WORLD. B is any world whose names, rows and limit are those of the deck, of the table of rows, of the table of
-- names and of the meter; its values and steps are read from the rooms (`worldIn`).
use Rattle.std.specs.Prelude.{ℕ, ◌<◌, ◌≤◌, Bool, true, false, ◌≡◌, List, [], ◌∷◌, length, get_or}
use Rattle.definition.specs.Bytes.{mixed}
use Rattle.definition.specs.Expressions.{read, Named, parsed, name_at, expect_sign, whole_expression}
use Rattle.definition.specs.Program as D
use Rattle.definition.specs.declared.ValueType.{ValueType}
use Rattle.definition.specs.Tokens.{token_at, is_word}
use Rattle.definition.specs.Evaluate as Ev
use Rattle.definition.specs.Values as Val
use Rattle.definition.specs.World as W
use Rattle.definition.specs.World.{World, row_of, rows_of}
use Rattle.deck.specs.Answer.{body_in}
use Rattle.meter.specs.declared.Meter.{Meter}
use Rattle.rows.specs.Table.{row_in}
use Rattle.rows.specs.Parts.{part_in}
use Rattle.rows.specs.declared.Starts.{Starts}
use Rattle.flow.specs.Shown as F
use Rattle.callees.specs.Shown as C
use Rattle.callees.specs.Answer.{Headed}
use Rattle.operands.specs.declared.Scene.{Scene}

-- ---- rows
-- r is the number of a row of the member m
abbrev pub IsRow : ℕ → ℕ → World → Type 0
IsRow m r B = r < length (rows_of m B)

-- BY and TO with their expressions from a place on
abbrev pub Bounded : List ℕ → List D.Bound → ℕ → Type 0
Bounded s [] at = (is_word "BY" (token_at mixed s at).token ≡ false) × (is_word "TO" (token_at mixed s at).token ≡ false)
Bounded s (D.by x ∷ bs) at = (e : ℕ) × (is_word "BY" (token_at mixed s at).token ≡ true) × (whole_expression mixed s (token_at mixed s at).to ≡ read (parsed x e)) × Bounded s bs e
Bounded s (D.upto x ∷ bs) at = (e : ℕ) × (is_word "BY" (token_at mixed s at).token ≡ false) × (is_word "TO" (token_at mixed s at).token ≡ true) × (whole_expression mixed s (token_at mixed s at).to ≡ read (parsed x e)) × Bounded s bs e

-- the statement that is read in s behind the place `at`, as far as it is read again; a type for each statement
abbrev pub Stated : List ℕ → ℕ → D.Statement → Type 0
Stated s at D.null = Unit {0}
Stated s at (D.declare ns) = Unit {0}
Stated s at (D.procedure ns v) = (at ≤ length s) × ((list : ℕ) × Headed s at list ns)
Stated s at (D.assign n x) = (m : Named) × (name_at mixed s at ≡ read m) × (m.spelling ≡ n) × ((q : ℕ) × (e : ℕ) × (expect_sign mixed "=" s m.to ≡ read q) × (whole_expression mixed s q ≡ read (parsed x e)))
Stated s at (D.conditional x) = (e : ℕ) × (whole_expression mixed s at ≡ read (parsed x e))
Stated s at D.group = Unit {0}
Stated s at (D.iterated n x bs) = (m : Named) × (name_at mixed s at ≡ read m) × (m.spelling ≡ n) × ((q : ℕ) × (e : ℕ) × (expect_sign mixed "=" s m.to ≡ read q) × (whole_expression mixed s q ≡ read (parsed x e)) × (length bs ≤ 2) × Bounded s bs e)
Stated s at (D.goto n) = (m : Named) × (name_at mixed s at ≡ read m) × (m.spelling ≡ n)
Stated s at (D.include ns) = Unit {0}
Stated s at (D.activate ns) = Unit {0}
Stated s at (D.deactivate ns) = Unit {0}
Stated s at (D.return x) = (q : ℕ) × (e : ℕ) × (expect_sign mixed "(" s at ≡ read q) × (whole_expression mixed s q ≡ read (parsed x e))

-- the rows of each member are its part of the table, in the body of the member; every body that a name of B has is among them, and
-- every row that a label of a procedure leads to; parameters that all have a name are at most as many as names
pub record RowsShown (deck rows : List ℕ) (starts : Starts) (B : World) : Type 0 where
  pub stated : (m r : ℕ) → IsRow m r B → Stated (body_in deck m) (row_in (part_in rows starts m) r).content (row_of (rows_of m B) r).statement
  pub shown : (m : ℕ) → F.Shown (part_in rows starts m) (rows_of m B)
  pub linked : (m : ℕ) → F.Linked (rows_of m B)
  pub few : (m : ℕ) → length (rows_of m B) ≤ 2048
  pub bodies : (a m r : ℕ) (x : Bool) → get_or B.denotations a W.builtin_name ≡ W.entry_of x (W.body_at m r) → IsRow m r B × ((ns : List (List ℕ)) × (v : ValueType) × ((row_of (rows_of m B) r).statement ≡ D.procedure ns v))
  pub parameters : (m r : ℕ) (ns : List (List ℕ)) (v : ValueType) (ps : List Ev.Parameter) → IsRow m r B → (row_of (rows_of m B) r).statement ≡ D.procedure ns v → Ev.parameters (W.procedure_at m r) ns B ≡ Val.gives ps → length ps ≤ 256
  pub labels : (l : List ℕ) (m k a q r : ℕ) (x : Bool) → W.address_of l (W.procedure_at m k) B ≡ W.address a → get_or B.denotations a W.builtin_name ≡ W.label_at q r x → IsRow m r B

-- ---- THE SCENE: what every evaluation asks of the rooms
pub record Shows (deck rows names c l h w : List ℕ) (u : ℕ) (x : Scene) (m : Meter) (B : World) : Type 0 where
  pub named : C.Named deck names x.names B
  pub rowed : RowsShown deck rows x.starts B
  pub slots : C.Slots B.denotations c l h
  pub work : 65536 ≤ length w
  pub taken : u ≤ 65536
  pub limit : m.limit ≡ B.limit
  pub left : x.running.left ≤ 16
