-- What a statement does with the value of its expression: assignment, IF, a number of DO.
use Rattle.bodies.specs.Types.{Done, Tested, Bound}
use Rattle.operands.specs.Types.{Evaluated}
use Rattle.std.specs.Prelude.{ℕ, ◌+◌, ◌-◌, ◌≤◌, Bool, ◌≡◌, List, [], ℤ, length, get_or, Option, Some, None, Ok, Err}
use Rattle.definition.specs.Bytes.{mixed, folded}
use Rattle.definition.specs.Expressions.{Tree}
use Rattle.definition.specs.Lists.{part}
use Rattle.definition.specs.Values as Val
use Rattle.definition.specs.World as W
use Rattle.definition.specs.World.{World, Res, good, bad, bind, ask, variable_of, builtin_name}
use Rattle.definition.specs.Evaluate as Ev
use Rattle.definition.specs.Evaluate.{put}
use Rattle.definition.specs.Flow as F
use Rattle.definition.specs.Flow.{Machine}
use Rattle.definition.specs.declared.Why.{Why}
use Rattle.definition.specs.declared.Why.TheVariants.{WrongName}
use Rattle.names.specs.declared.Owner.{Owner as Owned}
use Rattle.callees.specs.declared.Meant.{Meant}
use Rattle.callees.specs.declared.Meant.TheVariants as M
use Rattle.callees.specs.Answer.{meant_for}
use Rattle.definition.specs.declared.ValueType.{ValueType}
use Rattle.definition.proofs.Ranges.{Fine}
use Rattle.meter.specs.declared.Meter.{Meter}
use Rattle.names.specs.Table.{owner_of}
use Rattle.tokens.specs.declared.Lexeme.{Lexeme}
use Rattle.operators.specs.Stands.{value_in}
use Rattle.callees.specs.Shown.{names_world, world_in, Slots}
use Rattle.operands.specs.declared.Scene.{Scene}
use Rattle.operands.specs.Answer.{Below, res_in, size_of, meter_of, with_end, value_of}

-- a machine of the definition that evaluates as the scene does, with u bytes waiting
pub record Serves {E : Type 0} (M : Machine E) (x : Scene) (u : ℕ) : Type 0 where
  pub owner : M.owner ≡ owner_of x.owner
  pub waiting : M.waiting ≡ u
  pub value : (t : Tree) (w : World) → M.value t w ≡ value_of x t u w

-- the one that does nothing else
abbrev pub scene_machine : Scene → ℕ → Machine Why
scene_machine x u = record {
  rows = [];
  owner = owner_of x.owner;
  fault = λ r e. e;
  value = λ t w. value_of x t u w;
  waiting = u;
  out = λ s w. good tt w;
  act = λ n w. good F.passed w;
  jump = λ n t w. bad WrongName w.used;
}

-- what a statement leaves
pub record Leaves (B : World) (u : ℕ) (w c' l' h' w' : List ℕ) (m : Meter) : Type 0 where
  pub below : Below u w w'
  pub limit : m.limit ≡ B.limit
  pub slots : Slots B.denotations c' l' h'

-- ---- the variable that a name stands for
abbrev pub variable_for : Meant → Option (ℕ × ValueType)
variable_for (M.AVariable a t) = Some (a, t)
variable_for (M.AnEntry b) = None
variable_for M.TheSubstr = None
variable_for M.NoSuch = None

pub record TargetIs (deck s names : List ℕ) (n : ℕ) (o : Owned) (t : Lexeme) (r : Option (ℕ × ValueType)) : Type 0 where
  pub name : Meant
  pub is : meant_for name ≡ Ev.meant (owner_of o) (folded mixed (part (t.to - t.from) t.from s)) (names_world deck names n)
  pub variable : r ≡ variable_for name

-- ---- assignment
abbrev pub done_in : World → List ℕ → List ℕ → List ℕ → Done → Res Why (Unit {0})
done_in B c l h (Ok m) = good tt (world_in B c l h m.used)
done_in B c l h (Err (e, m)) = bad e m.used

abbrev pub done_meter : Done → Meter
done_meter (Ok m) = m
done_meter (Err (e, m)) = m

-- a value made of a type, and stored
unfoldable pub stored_on : ValueType → ℕ → ℕ → Res Why Val.Value → Res Why (Unit {0})
stored_on t a u R = bind R (λ v y. bind (put u (Val.convert t v) y) (λ c z. good tt (W.store a c z)))

-- an answer that is no refusal is in its range
abbrev pub FineIn : List ℕ → ℕ → Evaluated → Type 0
FineIn w u (Ok (v, e, m)) = Fine (value_in w u v)
FineIn w u (Err (e, m)) = Unit {0}

pub record StoredIs (c l h w : List ℕ) (a : ℕ) (k : ValueType) (u : ℕ) (x : Evaluated) (c' l' h' w' : List ℕ) (r : Done) : Type 0 where
  pub is : (B : World) → Slots B.denotations c l h → get_or B.denotations a builtin_name ≡ variable_of k → 65536 ≤ length w → u + size_of x ≤ 65536 → FineIn w u x → (meter_of x).limit ≡ B.limit
      → (done_in B c' l' h' r ≡ stored_on k a u (res_in B c l h w u x)) × Leaves B u w c' l' h' w' (done_meter r)

-- ---- IF
abbrev pub tested_in : World → List ℕ → List ℕ → List ℕ → Tested → Res Why Bool
tested_in B c l h (Ok (b, m)) = good b (world_in B c l h m.used)
tested_in B c l h (Err (e, m)) = bad e m.used

abbrev pub tested_meter : Tested → Meter
tested_meter (Ok (b, m)) = m
tested_meter (Err (e, m)) = m

unfoldable pub truth_on : ℕ → Res Why Val.Value → Res Why Bool
truth_on u R = bind R (λ v y. ask (Val.holds u v) y)

pub record TruthIs (w : List ℕ) (u : ℕ) (x : Evaluated) (w' : List ℕ) (r : Tested) : Type 0 where
  pub is : 65536 ≤ length w → u + size_of x ≤ 65536 → (B : World) (c l h : List ℕ) → tested_in B c l h r ≡ truth_on u (res_in B c l h w u x)
  pub below : 65536 ≤ length w → u + size_of x ≤ 65536 → Below u w w'
  pub limit : tested_meter r ≡ meter_of x

-- ---- a number
abbrev pub bound_in : World → List ℕ → List ℕ → List ℕ → Bound → Res Why ℤ
bound_in B c l h (Ok (x, e, m)) = good x.value (world_in B c l h m.used)
bound_in B c l h (Err (e, m)) = bad e m.used

abbrev pub bound_meter : Bound → Meter
bound_meter (Ok (x, e, m)) = m
bound_meter (Err (e, m)) = m

abbrev pub bound_end : Bound → ℕ → Bound
bound_end (Ok (x, e, m)) q = Ok (x, q, m)
bound_end (Err (e, m)) q = Err (e, m)

unfoldable pub number_on : Res Why Val.Value → Res Why ℤ
number_on R = bind R (λ v y. ask (Val.to_fixed v) y)

pub record BoundIs (w : List ℕ) (u : ℕ) (x : Evaluated) (r : Bound) : Type 0 where
  pub is : (B : World) (c l h : List ℕ) → bound_in B c l h r ≡ number_on (res_in B c l h w u x)
  pub end : (e : ℕ) → x ≡ with_end x e → r ≡ bound_end r e
  pub limit : bound_meter r ≡ meter_of x
