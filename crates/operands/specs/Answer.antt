-- What the answers stand for, and the contracts of what makes or changes one.
use Rattle.operands.specs.Types.{Evaluated}
use Rattle.std.specs.Prelude.{ℕ, zero, suc, ◌+◌, ◌≤◌, Bool, true, false, ◌≡◌, List, [], ◌∷◌, length, take, Result, Ok, Err}
use Rattle.definition.specs.Bytes.{mixed}
use Rattle.definition.specs.Expressions as E
use Rattle.definition.specs.Expressions.{Tree, Maybe, is, no_operator, prefix_of}
use Rattle.definition.specs.Tokens.{token_at}
use Rattle.definition.specs.Values as Val
use Rattle.definition.specs.World.{World, Owner, Res, good, bad, bind}
use Rattle.definition.specs.Evaluate as Ev
use Rattle.definition.specs.Evaluate.{Call, evaluate, put, plain_name}
use Rattle.definition.specs.Calls.{calls}
use Rattle.definition.specs.declared.Why.{Why}
use Rattle.definition.specs.declared.Operator.{Operator}
use Rattle.definition.specs.declared.Prefix.{Prefix}
use Rattle.meter.specs.declared.Meter.{Meter}
use Rattle.names.specs.Table.{owner_of}
use Rattle.operators.specs.declared.Value.{Value}
use Rattle.operators.specs.Stands.{size_for, value_in}
use Rattle.callees.specs.declared.Meant.{Meant}
use Rattle.callees.specs.declared.Meant.TheVariants as M
use Rattle.callees.specs.Shown.{world_in, Slots}
use Rattle.callees.specs.Answer.{meant_for, on_of}
use Rattle.operands.specs.declared.Scene.{Scene}

-- below u bytes the work room is as it was
abbrev pub Below : ℕ → List ℕ → List ℕ → Type 0
Below u w w' = take u w' ≡ take u w

-- ---- an answer, with the rooms, stands for what the definition gives
abbrev pub res_in : World → List ℕ → List ℕ → List ℕ → List ℕ → ℕ → Evaluated → Res Why Val.Value
res_in B c l h w u (Ok (v, e, m)) = good (value_in w u v) (world_in B c l h m.used)
res_in B c l h w u (Err (e, m)) = bad e m.used

abbrev pub size_of : Evaluated → ℕ
size_of (Ok (v, e, m)) = size_for v
size_of (Err (e, m)) = 0

abbrev pub meter_of : Evaluated → Meter
meter_of (Ok (v, e, m)) = m
meter_of (Err (e, m)) = m

abbrev pub with_end : Evaluated → ℕ → Evaluated
with_end (Ok (v, e, m)) q = Ok (v, q, m)
with_end (Err (e, m)) q = Err (e, m)

-- THE ENSURES: r and the rooms at exit stand for R, and the place is e; below u the work room is as it was
pub record Gave (B : World) (u : ℕ) (w c' l' h' w' : List ℕ) (r : Evaluated) (e : ℕ) (R : Res Why Val.Value) : Type 0 where
  pub is : res_in B c' l' h' w' u r ≡ R
  pub end : r ≡ with_end r e
  pub below : Below u w w'
  pub fits : u + size_of r ≤ 65536
  pub limit : (meter_of r).limit ≡ B.limit
  pub slots : Slots B.denotations c' l' h'

-- how procedures are run in a scene
abbrev pub run_in : Scene → Call
run_in x = calls x.running.left (on_of x.running)

-- the value of a tree, seen from the scene
unfoldable pub value_of : Scene → Tree → ℕ → World → Res Why Val.Value
value_of x t u w = evaluate (run_in x) (owner_of x.owner) t u w

-- ---- leaves
abbrev pub evaluated_for : Result Value Why → ℕ → Meter → Evaluated
evaluated_for (Ok v) e m = Ok (v, e, m)
evaluated_for (Err w) e m = Err (w, m)

-- an operator with its two sides, of which the second is R
unfoldable pub infix_on : ℕ → Operator → Val.Value → Res Why Val.Value → Res Why Val.Value
infix_on u o a R = bind R (λ v z. put u (Val.infixed u o a v) z)

-- what a leaf makes of an answer y at v, whatever the variables are: an answer at u for F of what y stands for
pub record Turns (w : List ℕ) (u v : ℕ) (y : Evaluated) (F : Res Why Val.Value → Res Why Val.Value) (w' : List ℕ) (r : Evaluated) : Type 0 where
  pub is : (B : World) (c l h : List ℕ) → res_in B c l h w' u r ≡ F (res_in B c l h w v y)
  pub end : (e : ℕ) → y ≡ with_end y e → r ≡ with_end r e
  pub below : Below u w w'
  pub fits : u + size_of r ≤ 65536
  pub limit : (meter_of r).limit ≡ (meter_of y).limit

pub record WithInfix (w : List ℕ) (u : ℕ) (o : Operator) (x : Value) (y : Evaluated) (w' : List ℕ) (r : Evaluated) : Type 0 where
  pub is : 65536 ≤ length w → u + size_for x + size_of y ≤ 65536 → Turns w u (u + size_for x) y (infix_on u o (value_in w u x)) w' r

-- ---- prefix operators: those that stand at a place, at most f of them
abbrev pub with_sign : Maybe Prefix → (Prefix → List Prefix) → List Prefix
with_sign (is o) rest = rest o
with_sign no_operator rest = []

unfoldable pub signs_at : ℕ → List ℕ → ℕ → List Prefix
signs_at zero s at = []
signs_at (suc f) s at = with_sign (prefix_of (token_at mixed s at).token) (λ o. o ∷ signs_at f s (token_at mixed s at).to)

unfoldable pub prefixed_by : ℕ → List Prefix → Res Why Val.Value → Res Why Val.Value
prefixed_by u [] R = R
prefixed_by u (o ∷ os) R = bind (prefixed_by u os R) (λ v z. put u (Val.prefixed o v) z)

pub record PrefixesDone (s : List ℕ) (from : ℕ) (w : List ℕ) (u n : ℕ) (y : Evaluated) (w' : List ℕ) (r : Evaluated) : Type 0 where
  pub is : 65536 ≤ length w → u + size_of y ≤ 65536 → n ≡ length (signs_at (length s) s from) → Turns w u u y (prefixed_by u (signs_at (length s) s from)) w' r

-- a constant
pub record ConstantIs (t : Tree) (w : List ℕ) (u to : ℕ) (m : Meter) (w' : List ℕ) (r : Evaluated) : Type 0 where
  pub is : 65536 ≤ length w → u ≤ 65536 → (x : Scene) (B : World) (c l h : List ℕ) → res_in B c l h w' u r ≡ value_of x t u (world_in B c l h m.used)
  pub end : r ≡ with_end r to
  pub below : Below u w w'
  pub fits : u ≤ 65536 → u + size_of r ≤ 65536
  pub limit : meter_of r ≡ m

pub record IntegerIs (ds : List ℕ) (to : ℕ) (m : Meter) (r : Evaluated) : Type 0 where
  pub is : (w : List ℕ) (u : ℕ) → ConstantIs (E.integer_of ds) w u to m w r

abbrev pub string_tree : Bool → List ℕ → Tree
string_tree true l = E.bits_of l
string_tree false l = E.string_of l

-- the place past the parenthesis that closes
pub record ClosedIs (s : List ℕ) (y r : Evaluated) : Type 0 where
  pub is : (e : ℕ) → y ≡ with_end y e → r ≡ with_end y (token_at mixed s e).to

-- ---- names
-- a name that means x in the world B
pub record Means (x : Meant) (B : World) : Type 0 where
  pub scope : Owner
  pub spelling : List ℕ
  pub is : meant_for x ≡ Ev.meant scope spelling B

-- the value of a variable, and what is no name of a value or has no list
abbrev pub is_entry : Meant → Bool
is_entry (M.AVariable a t) = false
is_entry (M.AnEntry b) = true
is_entry M.TheSubstr = false
is_entry M.NoSuch = false

pub record PlainIs (c l h w : List ℕ) (u : ℕ) (m : Meter) (y : Meant) (to : ℕ) (w' : List ℕ) (r : Evaluated) : Type 0 where
  pub is : is_entry y ≡ false → 65536 ≤ length w → u ≤ 65536 → (x : Scene) (B : World) → Means y B → res_in B c l h w' u r ≡ plain_name (run_in x) (meant_for y) u (world_in B c l h m.used)
  pub end : r ≡ with_end r to
  pub below : Below u w w'
  pub fits : 65536 ≤ length w → u ≤ 65536 → u + size_of r ≤ 65536
  pub limit : meter_of r ≡ m
