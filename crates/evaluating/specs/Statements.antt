-- THE CONTRACTS of the statements that evaluate, in bodies and in members, and of the turns of a body.
use Rattle.bodies.specs.Types.{Done, Tested, Bound, Widened, Started}
use Rattle.std.specs.Prelude.{ℕ, ◌+◌, ◌≤◌, true, ◌≡◌, List, [], ◌∷◌, ℤ, length, get_or, Ok, Err, Result}
use Rattle.definition.specs.Expressions.{Tree}
use Rattle.definition.specs.Fixed.{in_range}
use Rattle.definition.specs.Program as D
use Rattle.definition.specs.Values as Val
use Rattle.definition.specs.World as W
use Rattle.definition.specs.World.{World, Res, good, bad, bind, seen_from, row_of, rows_of, variable_of, builtin_name}
use Rattle.definition.specs.Flow as F
use Rattle.definition.specs.Flow.{Machine}
use Rattle.definition.specs.Calls.{body_machine}
use Rattle.definition.specs.declared.Why.{Why}
use Rattle.definition.specs.declared.Why.TheVariants.{WronglyRun, WrongGoto}
use Rattle.definition.specs.declared.ValueType.TheVariants.{FixedType}
use Rattle.deck.specs.Answer.{body_in}
use Rattle.fixed.specs.declared.Fixed.{Fixed}
use Rattle.meter.specs.declared.Meter.{Meter}
use Rattle.names.specs.Table.{owner_of}
use Rattle.names.specs.declared.Place.{Place}
use Rattle.names.specs.declared.Owner.TheVariants.{Procedure}
use Rattle.rows.specs.Parts.{part_in}
use Rattle.flow.specs.declared.Frame.{Frame}
use Rattle.flow.specs.declared.Frames.{Frames}
use Rattle.flow.specs.declared.Next.{Next}
use Rattle.flow.specs.Shown.{FrameShown, next_from, AtRow, AtNext}
use Rattle.operators.specs.Stands.{size_for, value_in}
use Rattle.callees.specs.Shown.{world_in}
use Rattle.operands.specs.declared.Scene.{Scene}
use Rattle.operands.specs.Shown.{Stated, Bounded, Shows}
use Rattle.operands.specs.Answer.{run_in}
use Rattle.bodies.specs.declared.Step.{Step}
use Rattle.bodies.specs.declared.Step.TheVariants as St
use Rattle.bodies.specs.declared.Turned.{Turned}
use Rattle.bodies.specs.Deeds.{scene_machine, Leaves, done_in, done_meter, tested_in, tested_meter}
use Rattle.evaluating.specs.Cycle.{IsProcedure}

-- ---- assignment, IF
pub record AssignIs (deck s rows names c l h w : List ℕ) (at u : ℕ) (x : Scene) (m : Meter) (c' l' h' w' : List ℕ) (r : Done) : Type 0 where
  pub is : (B : World) → Shows deck rows names c l h w u x m B → (n : List ℕ) (t : Tree) → Stated s at (D.assign n t)
      → (done_in B c' l' h' r ≡ F.assigned (scene_machine x u) n t (world_in B c l h m.used)) × Leaves B u w c' l' h' w' (done_meter r)

pub record TestIs (deck s rows names c l h w : List ℕ) (at u : ℕ) (x : Scene) (m : Meter) (c' l' h' w' : List ℕ) (r : Tested) : Type 0 where
  pub is : (B : World) → Shows deck rows names c l h w u x m B → (t : Tree) → Stated s at (D.conditional t)
      → (tested_in B c' l' h' r ≡ F.truth (scene_machine x u) t (world_in B c l h m.used)) × Leaves B u w c' l' h' w' (tested_meter r)

-- ---- DO: a frame with its bounds so far stands for R, and the bounds bs are left at the place behind them
abbrev pub WidensAs : World → List ℕ → List ℕ → List ℕ → List ℕ → Res Why F.Frame → List D.Bound → Widened → Type 0
WidensAs B s c l h R bs (Ok (f, q, m)) = (d : F.Frame) × FrameShown f d × (R ≡ good d (world_in B c l h m.used)) × Bounded s bs q
WidensAs B s c l h R bs (Err (e, m)) = R ≡ bad e m.used

abbrev pub widened_meter : Widened → Meter
widened_meter (Ok (f, q, m)) = m
widened_meter (Err (e, m)) = m

-- the next bound, if there is one
abbrev pub bounded_on : Scene → ℕ → List D.Bound → F.Frame → World → Res Why F.Frame
bounded_on x u [] d w = good d w
bounded_on x u (b ∷ bs) d w = F.bounded (scene_machine x u) b d w

abbrev pub bounds_left : List D.Bound → List D.Bound
bounds_left [] = []
bounds_left (b ∷ bs) = bs

pub record BoundedIs (deck s rows names c l h w : List ℕ) (u : ℕ) (x : Scene) (y : Widened) (c' l' h' w' : List ℕ) (r : Widened) : Type 0 where
  pub goes : (f : Frame) (q : ℕ) (m : Meter) → y ≡ Ok (f, q, m) → (B : World) → Shows deck rows names c l h w u x m B → (bs : List D.Bound) (d : F.Frame) → Bounded s bs q → FrameShown f d
      → WidensAs B s c' l' h' (bounded_on x u bs d (world_in B c l h m.used)) (bounds_left bs) r × Leaves B u w c' l' h' w' (widened_meter r)
  pub stays : (e : Why) (m : Meter) → y ≡ Err (e, m) → (r ≡ y) × (c' ≡ c) × (l' ≡ l) × (h' ≡ h) × (w' ≡ w)

-- the start of a group, whose frame stands for that of R
abbrev pub StartsAs : World → List ℕ → List ℕ → List ℕ → Res Why F.Started → Started → Type 0
StartsAs B c l h R (Ok (f, b, m)) = (d : F.Frame) × FrameShown f d × (R ≡ good (record { frame = d; begins = b }) (world_in B c l h m.used))
StartsAs B c l h R (Err (e, m)) = R ≡ bad e m.used

abbrev pub started_meter : Started → Meter
started_meter (Ok (f, b, m)) = m
started_meter (Err (e, m)) = m

-- bounds, then the variable gets the number z
abbrev pub bounds_on : Scene → ℕ → List D.Bound → F.Frame → ℤ → World → Res Why F.Started
bounds_on x u bs d z w = bind (F.bounds (scene_machine x u) bs d w) λ f v. good (record { frame = f; begins = F.passes f z }) (W.store d.at (Val.fixed z) v)

pub record BoundsIs (deck s rows names c l h w : List ℕ) (f : Frame) (b : Bound) (u : ℕ) (x : Scene) (c' l' h' w' : List ℕ) (r : Started) : Type 0 where
  pub goes : (z : Fixed) (q : ℕ) (m : Meter) → b ≡ Ok (z, q, m) → (B : World) → Shows deck rows names c l h w u x m B → in_range z.value ≡ true
      → (bs : List D.Bound) (d : F.Frame) → length bs ≤ 2 → Bounded s bs q → FrameShown f d → get_or B.denotations d.at builtin_name ≡ variable_of FixedType
      → StartsAs B c' l' h' (bounds_on x u bs d z.value (world_in B c l h m.used)) r × Leaves B u w c' l' h' w' (started_meter r)
  pub stays : (e : Why) (m : Meter) → b ≡ Err (e, m) → (r ≡ Err (e, m)) × (c' ≡ c) × (l' ≡ l) × (h' ≡ h) × (w' ≡ w)

pub record StartIs (deck s rows names c l h w : List ℕ) (g at u : ℕ) (x : Scene) (m : Meter) (c' l' h' w' : List ℕ) (r : Started) : Type 0 where
  pub is : (B : World) → Shows deck rows names c l h w u x m B → (n : List ℕ) (t : Tree) (bs : List D.Bound) → Stated s at (D.iterated n t bs)
      → StartsAs B c' l' h' (F.start_at (scene_machine x u) (seen_from (owner_of x.owner) n (world_in B c l h m.used)) g t bs (world_in B c l h m.used)) r × Leaves B u w c' l' h' w' (started_meter r)

-- ---- THE BODY of the procedure at p: its source s, the rows t of its member
pub record InBody (deck s t rows : List ℕ) (x : Scene) (p : Place) (B : World) : Type 0 where
  pub owner : x.owner ≡ Procedure p
  pub body : s ≡ body_in deck p.member
  pub part : t ≡ part_in rows x.starts p.member
  pub procedure : IsProcedure p B

abbrev pub body_of : Scene → Place → ℕ → World → Machine Why
body_of x p u B = body_machine (run_in x) p.member p.row u (rows_of p.member B)

-- what a turn leads to stands for R: the next row, where the frames stand, or the value of RETURN
abbrev pub TurnsTo : Machine Why → List ℕ → World → ℕ → List ℕ → List ℕ → List ℕ → List ℕ → Res Why F.Turn → Frames → Result Step (Why × Meter) → Type 0
TurnsTo M t B u c l h w R fs (Ok (St.On y m)) = (F' : List F.Frame) × (R ≡ good (F.on (next_from y) F') (world_in B c l h m.used)) × AtNext M t B.denotations fs F' y
TurnsTo M t B u c l h w R fs (Ok (St.Gave v m)) = (R ≡ good (F.ended (F.returned (value_in w u v))) (world_in B c l h m.used)) × (u + size_for v ≤ 65536)
TurnsTo M t B u c l h w R fs (Err (e, m)) = R ≡ bad e m.used

abbrev pub step_meter : Result Step (Why × Meter) → Meter
step_meter (Ok (St.On y m)) = m
step_meter (Ok (St.Gave v m)) = m
step_meter (Err (e, m)) = m

pub record StatementIs (deck s t rows names c l h w : List ℕ) (p : Place) (n : ℕ) (fs : Frames) (u : ℕ) (x : Scene) (m : Meter) (c' l' h' w' : List ℕ) (r : Turned) : Type 0 where
  pub is : (B : World) → Shows deck rows names c l h w u x m B → InBody deck s t rows x p B → (F' : List F.Frame) → AtRow (body_of x p u B) t B.denotations fs F' n
      → TurnsTo (body_of x p u B) t B u c' l' h' w' (F.statement (body_of x p u B) (row_of (rows_of p.member B) n).statement F' n (world_in B c l h m.used)) r.frames r.step
      × Leaves B u w c' l' h' w' (step_meter r.step)

-- a body that ends, or that a GOTO led out of, did not RETURN
abbrev pub returns_of : Res Why F.Turn → Res Why F.Turn
returns_of (good (F.on x fs) w) = good (F.on x fs) w
returns_of (good (F.ended F.ran) w) = bad WronglyRun w.used
returns_of (good (F.ended (F.returned v)) w) = good (F.ended (F.returned v)) w
returns_of (good (F.ended (F.went t)) w) = bad WrongGoto w.used
returns_of (bad e n) = bad e n

pub record TurnIs (deck s t rows names c l h w : List ℕ) (p : Place) (y : Next) (fs : Frames) (u : ℕ) (x : Scene) (m : Meter) (c' l' h' w' : List ℕ) (r : Turned) : Type 0 where
  pub is : (B : World) → Shows deck rows names c l h w u x m B → InBody deck s t rows x p B → (F' : List F.Frame) → AtNext (body_of x p u B) t B.denotations fs F' y
      → TurnsTo (body_of x p u B) t B u c' l' h' w' (returns_of (F.turn (body_of x p u B) (next_from y) F' (world_in B c l h m.used))) r.frames r.step
      × Leaves B u w c' l' h' w' (step_meter r.step)
