-- THE CONTRACTS of what evaluates and calls: for every world that the rooms show, the answer is the definition's.
use Rattle.operands.specs.Types.{Evaluated}
use Rattle.std.specs.Prelude.{ℕ, suc, ◌+◌, ◌≤◌, ◌≡◌, Result, Ok, Err, List, length}
use Rattle.definition.specs.Bytes.{mixed}
use Rattle.definition.specs.Expressions as E
use Rattle.definition.specs.Expressions.{Reading, read, Parsed, parsed, Tree}
use Rattle.definition.specs.Program as D
use Rattle.definition.specs.Values as Val
use Rattle.definition.specs.World.{World, Res, good, bad, row_of, rows_of}
use Rattle.definition.specs.Evaluate as Ev
use Rattle.definition.specs.Evaluate.{plain_name, listed_name}
use Rattle.definition.specs.Calls.{body_run}
use Rattle.definition.specs.declared.Why.{Why}
use Rattle.definition.specs.declared.ValueType.{ValueType}
use Rattle.deck.specs.Answer.{body_in}
use Rattle.meter.specs.declared.Meter.{Meter}
use Rattle.names.specs.Table.{owner_of}
use Rattle.names.specs.declared.Place.{Place}
use Rattle.names.specs.declared.Owner.TheVariants.{Procedure}
use Rattle.rows.specs.Parts.{part_in}
use Rattle.expressions.specs.Check.{inside_of, levels_in}
use Rattle.operators.specs.declared.Value.{Value}
use Rattle.operators.specs.Stands.{size_for, value_in}
use Rattle.callees.specs.declared.Meant.{Meant}
use Rattle.callees.specs.declared.Callee.{Callee}
use Rattle.callees.specs.declared.Held.{Held}
use Rattle.callees.specs.Shown.{names_world, world_in, Slots}
use Rattle.callees.specs.Answer.{meant_for, owner_at, Names, Waiting, held_from}
use Rattle.operands.specs.declared.Scene.{Scene}
use Rattle.operands.specs.declared.Target.{Target}
use Rattle.operands.specs.Shown.{IsRow, Shows}
use Rattle.operands.specs.Answer.{Below, Gave, run_in, value_of, Means}
use Rattle.operands.specs.Takes.{Coming, first_listed, wanted_by, Path}
use Rattle.evaluating.specs.declared.Taken.{Taken}

-- THE CONTRACT of what reads again: where the definition reads a tree, the answer is its value, and the place is its end
pub record Evaluates (deck rows names c l h w : List ℕ) (u : ℕ) (x : Scene) (m : Meter) (c' l' h' w' : List ℕ) (r : Evaluated) (R : Reading Parsed) : Type 0 where
  pub is : (B : World) → Shows deck rows names c l h w u x m B → (t : Tree) (e : ℕ) → R ≡ read (parsed t e) → Gave B u w c' l' h' w' r e (value_of x t u (world_in B c l h m.used))

-- the same of a chain, where v at u is the value of the tree so far
pub record Chains (deck rows names s c l h w : List ℕ) (v : Value) (from level left u : ℕ) (x : Scene) (m : Meter) (c' l' h' w' : List ℕ) (r : Evaluated) : Type 0 where
  pub is : (B : World) → Shows deck rows names c l h w u x m B → u + size_for v ≤ 65536 → (t₀ : Tree) (w₀ : World) → value_of x t₀ u w₀ ≡ good (value_in w u v) (world_in B c l h m.used)
      → (t : Tree) (e : ℕ) → E.chain mixed level (levels_in left s level) s (suc (length s)) t₀ from ≡ read (parsed t e) → Gave B u w c' l' h' w' r e (value_of x t u w₀)

-- ---- names
-- a name without a list, behind which the place is `to`
pub record NameIs (deck rows names c l h w : List ℕ) (u : ℕ) (x : Scene) (m : Meter) (y : Meant) (to : ℕ) (c' l' h' w' : List ℕ) (r : Evaluated) : Type 0 where
  pub is : (B : World) → Shows deck rows names c l h w u x m B → Means y B → Gave B u w c' l' h' w' r to (plain_name (run_in x) (meant_for y) u (world_in B c l h m.used))

-- a name with a list, which begins at `at`
pub record ListedIs (deck s rows names c l h w : List ℕ) (at left u : ℕ) (x : Scene) (m : Meter) (y : Meant) (c' l' h' w' : List ℕ) (r : Evaluated) : Type 0 where
  pub is : (B : World) → Shows deck rows names c l h w u x m B → Means y B → (p : ℕ) (t : Tree) (e : ℕ) → E.arguments mixed (inside_of left s p) s (length s) at ≡ read (parsed t e)
      → Gave B u w c' l' h' w' r e (listed_name (run_in x) (λ ws v z. Ev.arguments (run_in x) (owner_of x.owner) t ws v z) (Ev.count t) (meant_for y) u (world_in B c l h m.used))

-- ---- arguments
-- the arguments were all taken, and the place is e
pub record Waits (B : World) (u : ℕ) (c l h w : List ℕ) (f : Value) (k : Held) (ws : List Ev.Wish) (n e : ℕ) (R : Res Why (List Val.Value)) (q : ℕ) (m : Meter) : Type 0 where
  pub values : List Val.Value
  pub number : ℕ
  pub top : ℕ
  pub rest : List Ev.Wish
  pub is : R ≡ good values (world_in B c l h m.used)
  pub path : Path w f k 0 u ws values number top rest
  pub count : length values ≡ n
  pub end : q ≡ e

abbrev pub ArgsAs : World → ℕ → List ℕ → List ℕ → List ℕ → List ℕ → List Ev.Wish → ℕ → ℕ → Res Why (List Val.Value) → Result Taken (Why × Meter) → Type 0
ArgsAs B u c l h w ws n e R (Ok a) = Waits B u c l h w a.first a.held ws n e R a.to a.meter
ArgsAs B u c l h w ws n e R (Err (y, m)) = R ≡ bad y m.used

abbrev pub meter_in : Result Taken (Why × Meter) → Meter
meter_in (Ok a) = a.meter
meter_in (Err (y, m)) = m

pub record Args (B : World) (u : ℕ) (w c' l' h' w' : List ℕ) (ws : List Ev.Wish) (n e : ℕ) (R : Res Why (List Val.Value)) (r : Result Taken (Why × Meter)) : Type 0 where
  pub is : ArgsAs B u c' l' h' w' ws n e R r
  pub below : Below u w w'
  pub limit : (meter_in r).limit ≡ B.limit
  pub slots : Slots B.denotations c' l' h'

-- THE CONTRACT of `arguments`: those of the list at `from` for the target t
pub record TakenIs (deck s rows names c l h w : List ℕ) (from left u : ℕ) (t : Target) (x : Scene) (m : Meter) (c' l' h' w' : List ℕ) (r : Result Taken (Why × Meter)) : Type 0 where
  pub is : (B : World) → Shows deck rows names c l h w u x m B → (p : ℕ) (y : Tree) (e : ℕ) → E.arguments mixed (inside_of left s p) s (length s) from ≡ read (parsed y e) → wanted_by t ≡ Ev.count y
      → (ws : List Ev.Wish) → Coming deck names x.names t 0 (first_listed t) ws → Ev.count y ≤ length ws → length ws ≤ 256
      → Args B u w c' l' h' w' ws (Ev.count y) e (Ev.arguments (run_in x) (owner_of x.owner) y ws u (world_in B c l h m.used)) r

-- ---- calls
-- the row of a procedure
pub record IsProcedure (p : Place) (B : World) : Type 0 where
  pub within : IsRow p.member p.row B
  pub names : List (List ℕ)
  pub type : ValueType
  pub is : (row_of (rows_of p.member B) p.row).statement ≡ D.procedure names type

-- the callee y stands for b
pub record CalleeShown (deck names : List ℕ) (n : ℕ) (y : Callee) (b : Ev.Callee) (B : World) : Type 0 where
  pub member : b.member ≡ y.place.member
  pub row : b.row ≡ y.place.row
  pub listed : List (List ℕ)
  pub placed : Names (body_in deck y.place.member) listed y.list
  pub asked : Ev.parameters (owner_at y.place) listed (names_world deck names n) ≡ Val.gives b.parameters
  pub count : y.count ≡ length b.parameters
  pub few : length b.parameters ≤ 256
  pub within : IsProcedure y.place B

-- a call, whose arguments wait above u; its value comes to u
pub record CallIs (deck rows names c l h w : List ℕ) (u : ℕ) (x : Scene) (m : Meter) (y : Callee) (k : Held) (c' l' h' w' : List ℕ) (r : Evaluated) : Type 0 where
  pub is : (B : World) → Shows deck rows names c l h w u x m B → (b : Ev.Callee) → CalleeShown deck names x.names y b B → Waiting k 0 u b.parameters
      → Gave B u w c' l' h' w' r 0 (run_in x b (held_from w k 0 u b.parameters) u (world_in B c l h m.used))

-- the body of the procedure at p, which is running and whose names the scene sees; t is the rows of its member
pub record BodyIs (deck s t rows names c l h w : List ℕ) (u : ℕ) (x : Scene) (m : Meter) (p : Place) (c' l' h' w' : List ℕ) (r : Evaluated) : Type 0 where
  pub is : (B : World) → Shows deck rows names c l h w u x m B → x.owner ≡ Procedure p → s ≡ body_in deck p.member → t ≡ part_in rows x.starts p.member → IsProcedure p B
      → Gave B u w c' l' h' w' r 0 (body_run (run_in x) p.member p.row u (world_in B c l h m.used))
