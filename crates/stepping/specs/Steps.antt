-- THE CONTRACTS of a member's statements: what an answer stands for, in a world that the rooms show.
use Rattle.texts.specs.declared.Stop.{Stop}
use Rattle.stepping.specs.Types.{Onward}
use Rattle.texts.specs.Types.{Ran}
use Rattle.bodies.specs.Types.{Started}
use Rattle.std.specs.Prelude.{ℕ, ◌<◌, true, false, ◌≡◌, List, ◌∷◌, length, get_or, Ok, Err, Result}
use Rattle.definition.specs.Choice.{when}
use Rattle.definition.specs.Program as P
use Rattle.definition.specs.World.{World, Denotation, variable_of, builtin_name, Res, good, bad, bind, row_of}
use Rattle.definition.specs.Flow as F
use Rattle.definition.specs.Calls.{Place}
use Rattle.definition.specs.Run as Run
use Rattle.definition.specs.declared.Why.{Why}
use Rattle.definition.specs.declared.ValueType.TheVariants.{FixedType}
use Rattle.names.specs.declared.Label.{Label}
use Rattle.rows.specs.Table.{row_in}
use Rattle.flow.specs.declared.Frames.{Frames}
use Rattle.flow.specs.declared.Next.{Next}
use Rattle.flow.specs.declared.Walk.{Walk}
use Rattle.flow.specs.Walks.{frame_in, first_walk}
use Rattle.flow.specs.Shown.{FrameShown, FrameOf, next_from, out_behind, AtRow, AtTest, AtNext, AtWalk}
use Rattle.callees.specs.Shown.{world_in}
use Rattle.showing.specs.Later.{Later}
use Rattle.leaving.specs.declared.Below.{Below}
use Rattle.leaving.specs.Places.{below_of, Stand}
use Rattle.texts.specs.declared.Progress.{Progress}
use Rattle.texts.specs.declared.Here.{Here}
use Rattle.texts.specs.Shown.{with_meter, stop_for, After, RanAs}
use Rattle.stepping.specs.declared.Step.{Step}
use Rattle.stepping.specs.declared.Step.TheVariants as St
use Rattle.stepping.specs.declared.Turned.{Turned}
use Rattle.stepping.specs.declared.Ended.{Ended}
use Rattle.stepping.specs.declared.Ended.TheVariants as En
use Rattle.stepping.specs.declared.Settled.{Settled}
use Rattle.stepping.specs.declared.Settled.TheVariants as Se
use Rattle.stepping.specs.Stage.{Stage, InMember, part_here, machine_of, goes, target_for, Reaches}
use Rattle.stepping.specs.Ways.{is_include}

-- the text behind the row n, if it is one of a list
pub record TextBehindIs (deck s part rows names c l h w t ls : List ℕ) (n : ℕ) (here : Here) (g : Progress) (c' l' h' w' t' ls' : List ℕ) (r : Ran) : Type 0 where
  pub is : (B : World) → Stage deck rows names c l h w t ls here.starts g B → InMember deck s rows here B → part ≡ part_here rows here → (inner : Run.Level) (on : List Place)
      → n < length (machine_of inner deck here.member on).rows
      → RanAs deck rows names here.starts g B c' l' h' w' t' ls' r
      (out_behind (machine_of inner deck here.member on) (row_in part n).role (F.at (machine_of inner deck here.member on) n).text (world_in B c l h g.meter.used))

-- ---- a walk with the texts on the way: only values, steps and what is put out change
abbrev pub OnwardAs : F.Machine Run.Stop → List ℕ → List ℕ → List ℕ → Here → Frames → List F.Frame → Progress → World → List ℕ → List ℕ → List ℕ → List ℕ → List ℕ → List ℕ → Onward → Res Run.Stop F.Next → Type 0
OnwardAs M deck rows names here fs G g B c l h w t ls (Ok (x, g')) R = After F.Next deck rows names here.starts g B c l h w t ls g' (next_from x) R × AtNext M (part_here rows here) B.denotations fs G x
OnwardAs M deck rows names here fs G g B c l h w t ls (Err (x, g')) R = R ≡ bad (stop_for x) g'.meter.used

pub record FollowIs (deck s part rows names c l h w t ls : List ℕ) (fs : Frames) (x : Walk) (here : Here) (g : Progress) (c' l' h' w' t' ls' : List ℕ) (r : Onward) : Type 0 where
  pub is : (B : World) → Stage deck rows names c l h w t ls here.starts g B → InMember deck s rows here B → part ≡ part_here rows here → (inner : Run.Level) (on : List Place) (G : List F.Frame)
      → AtWalk (machine_of inner deck here.member on) part B.denotations fs G x
      → OnwardAs (machine_of inner deck here.member on) deck rows names here fs G g B c' l' h' w' t' ls' r (goes (machine_of inner deck here.member on) G x (world_in B c l h g.meter.used))

-- ---- WHAT A STEP STANDS FOR: the turn R of the definition, in the world B that the rooms show now
-- control goes on by a walk
pub record Walks (M : F.Machine Run.Stop) (deck rows names c l h w t ls : List ℕ) (here : Here) (fs : Frames) (x : Walk) (g : Progress) (R : Res Run.Stop F.Turn) (B : World) : Type 0 where
  pub stage : Stage deck rows names c l h w t ls here.starts g B
  pub frames : List F.Frame
  pub is : R ≡ F.onward M frames (goes M frames x (world_in B c l h g.meter.used))
  pub at : AtWalk M (part_here rows here) B.denotations fs frames x

-- a GOTO leads out of the member
pub record Departs (on : List Place) (deck rows names c l h w t ls : List ℕ) (here : Here) (x : Label) (g : Progress) (R : Res Run.Stop F.Turn) (B : World) : Type 0 where
  pub stage : Stage deck rows names c l h w t ls here.starts g B
  pub is : R ≡ good (F.ended (F.went (target_for x))) (world_in B c l h g.meter.used)
  pub reaches : Reaches on x B

abbrev pub StepNow : F.Machine Run.Stop → List Place → List ℕ → List ℕ → List ℕ → List ℕ → List ℕ → List ℕ → List ℕ → List ℕ → List ℕ → Here → Frames → Res Run.Stop F.Turn → World → Result Step (Stop × Progress) → Type 0
StepNow M on deck rows names c l h w t ls here fs R B (Ok (St.On x g)) = Walks M deck rows names c l h w t ls here fs x g R B
StepNow M on deck rows names c l h w t ls here fs R B (Ok (St.Went x g)) = Departs on deck rows names c l h w t ls here x g R B
StepNow M on deck rows names c l h w t ls here fs R B (Err (x, g)) = R ≡ bad (stop_for x) g.meter.used

-- in a world later than B; no member was entered
pub record StepIs (M : F.Machine Run.Stop) (on : List Place) (deck rows names c l h w t ls : List ℕ) (here : Here) (fs : Frames) (R : Res Run.Stop F.Turn) (B : World) (x : Result Step (Stop × Progress)) : Type 0 where
  pub world : World
  pub later : Later B world
  pub sentences : world.sentences ≡ B.sentences
  pub now : StepNow M on deck rows names c l h w t ls here fs R world x

-- ---- into the group n: its frame is there if it is iterated, and the frames stand where its first row is
pub record Entering (M : F.Machine Run.Stop) (part : List ℕ) (ds : List Denotation) (fs : Frames) (G : List F.Frame) (n : ℕ) : Type 0 where
  pub within : n < length M.rows
  pub own : P.is_iterated (row_of M.rows n).statement ≡ true → FrameOf ds (frame_in part fs n) n G
  pub walks : AtWalk M part ds fs G (first_walk part fs n)

pub record IntoIs (deck s part rows names c l h w t ls : List ℕ) (fs : Frames) (n : ℕ) (here : Here) (g : Progress) (c' l' h' w' t' ls' : List ℕ) (r : Turned) : Type 0 where
  pub is : (B : World) → Stage deck rows names c l h w t ls here.starts g B → InMember deck s rows here B → part ≡ part_here rows here → (inner : Run.Level) (on : List Place) (G : List F.Frame)
      → Entering (machine_of inner deck here.member on) part B.denotations fs G n
      → StepIs (machine_of inner deck here.member on) on deck rows names c' l' h' w' t' ls' here r.frames
      (F.onward (machine_of inner deck here.member on) G (F.into (machine_of inner deck here.member on) G n (world_in B c l h g.meter.used))) B r.step

-- the iterated group n, which starts as x says: R is the definition's start, from which it goes on
abbrev pub StartNow : List ℕ → List ℕ → List ℕ → List ℕ → List ℕ → List ℕ → List ℕ → List ℕ → List ℕ → Here → ℕ → Progress → Res Why F.Started → World → Started → Type 0
StartNow deck rows names c l h w t ls here n g R B (Ok (f, b, m)) =
    Stage deck rows names c l h w t ls here.starts (with_meter g m) B
    × ((d : F.Frame) × FrameShown f d × (d.group ≡ n) × (get_or B.denotations d.at builtin_name ≡ variable_of FixedType) × (R ≡ good (record { frame = d; begins = b }) (world_in B c l h m.used)))
StartNow deck rows names c l h w t ls here n g R B (Err (e, m)) = R ≡ bad e m.used

abbrev pub started_on : F.Machine Run.Stop → List F.Frame → ℕ → Res Why F.Started → Res Run.Stop F.Turn
started_on M G n R = bind (F.in_row M n R) λ x v. when x.begins (λ _. F.onward M (x.frame ∷ G) (F.into M (x.frame ∷ G) n v)) (λ _. F.onward M G (F.behind M G n v))

pub record StartedIs (deck s part rows names c l h w t ls : List ℕ) (fs : Frames) (n : ℕ) (x : Started) (here : Here) (place : ℕ) (g : Progress) (c' l' h' w' t' ls' : List ℕ) (r : Turned) : Type 0 where
  pub is : (B : World) (R : Res Why F.Started) → StartNow deck rows names c l h w t ls here n g R B x → InMember deck s rows here B → part ≡ part_here rows here → (inner : Run.Level) (on : List Place) (G : List F.Frame)
      → AtRow (machine_of inner deck here.member on) part B.denotations fs G n → P.is_iterated (F.at (machine_of inner deck here.member on) n).statement ≡ true
      → (F.at (machine_of inner deck here.member on) n).place ≡ place
      → StepIs (machine_of inner deck here.member on) on deck rows names c' l' h' w' t' ls' here r.frames (started_on (machine_of inner deck here.member on) G n R) B r.step

-- ---- the statement of row n, which is no INCLUDE and whose step is charged
pub record StatementIs (deck s part rows names c l h w t ls : List ℕ) (fs : Frames) (n : ℕ) (below : Below) (here : Here) (g : Progress) (names' c' l' h' w' t' ls' : List ℕ) (r : Turned) : Type 0 where
  pub is : (B : World) → Stage deck rows names c l h w t ls here.starts g B → InMember deck s rows here B → part ≡ part_here rows here → Stand (below_of below) B → (inner : Run.Level) (G : List F.Frame)
      → AtRow (machine_of inner deck here.member (below_of below)) part B.denotations fs G n → is_include (row_in part n).statement ≡ false
      → StepIs (machine_of inner deck here.member (below_of below)) (below_of below) deck rows names' c' l' h' w' t' ls' here r.frames
      (F.statement (machine_of inner deck here.member (below_of below)) (F.at (machine_of inner deck here.member (below_of below)) n).statement G n (world_in B c l h g.meter.used)) B r.step

-- the iterated group n, which is tested again
pub record AgainIs (deck s part rows names c l h w t ls : List ℕ) (fs : Frames) (n : ℕ) (here : Here) (g : Progress) (c' l' h' w' t' ls' : List ℕ) (r : Turned) : Type 0 where
  pub is : (B : World) → Stage deck rows names c l h w t ls here.starts g B → InMember deck s rows here B → part ≡ part_here rows here → (inner : Run.Level) (on : List Place) (G : List F.Frame)
      → AtTest (machine_of inner deck here.member on) part B.denotations fs G n
      → StepIs (machine_of inner deck here.member on) on deck rows names c' l' h' w' t' ls' here r.frames (F.turn (machine_of inner deck here.member on) (F.again n) G (world_in B c l h g.meter.used)) B r.step

-- ---- HOW ROWS HAVE ENDED: the end R of the definition, in the world B that the rooms show now
pub record Done (deck rows names c l h w t ls : List ℕ) (here : Here) (g : Progress) (R : Res Run.Stop F.End) (B : World) : Type 0 where
  pub stage : Stage deck rows names c l h w t ls here.starts g B
  pub is : R ≡ good F.ran (world_in B c l h g.meter.used)

pub record Gone (on : List Place) (deck rows names c l h w t ls : List ℕ) (here : Here) (x : Label) (g : Progress) (R : Res Run.Stop F.End) (B : World) : Type 0 where
  pub stage : Stage deck rows names c l h w t ls here.starts g B
  pub is : R ≡ good (F.went (target_for x)) (world_in B c l h g.meter.used)
  pub reaches : Reaches on x B

abbrev pub EndNow : List Place → List ℕ → List ℕ → List ℕ → List ℕ → List ℕ → List ℕ → List ℕ → List ℕ → List ℕ → Here → Res Run.Stop F.End → World → Result Ended (Stop × Progress) → Type 0
EndNow on deck rows names c l h w t ls here R B (Ok (En.Ran g)) = Done deck rows names c l h w t ls here g R B
EndNow on deck rows names c l h w t ls here R B (Ok (En.Went x g)) = Gone on deck rows names c l h w t ls here x g R B
EndNow on deck rows names c l h w t ls here R B (Err (x, g)) = R ≡ bad (stop_for x) g.meter.used

-- ---- what comes of a step: the next turn, or the end
pub record Nexts (M : F.Machine Run.Stop) (deck rows names c l h w t ls : List ℕ) (here : Here) (fs : Frames) (x : Next) (g : Progress) (R : Res Run.Stop F.Turn) (B : World) : Type 0 where
  pub stage : Stage deck rows names c l h w t ls here.starts g B
  pub frames : List F.Frame
  pub is : R ≡ good (F.on (next_from x) frames) (world_in B c l h g.meter.used)
  pub at : AtNext M (part_here rows here) B.denotations fs frames x

-- a turn that ends
abbrev pub ended_by : Res Run.Stop F.End → Res Run.Stop F.Turn
ended_by (good x w) = good (F.ended x) w
ended_by (bad e n) = bad e n

abbrev pub SettledNow : F.Machine Run.Stop → List Place → List ℕ → List ℕ → List ℕ → List ℕ → List ℕ → List ℕ → List ℕ → List ℕ → List ℕ → Here → Frames → Res Run.Stop F.Turn → World → Settled → Type 0
SettledNow M on deck rows names c l h w t ls here fs R B (Se.On x g) = Nexts M deck rows names c l h w t ls here fs x g R B
SettledNow M on deck rows names c l h w t ls here fs R B (Se.End e) = (Q : Res Run.Stop F.End) × (R ≡ ended_by Q) × EndNow on deck rows names c l h w t ls here Q B e

pub record SettlesAs (M : F.Machine Run.Stop) (on : List Place) (deck rows names c l h w t ls : List ℕ) (here : Here) (fs : Frames) (R : Res Run.Stop F.Turn) (B : World) (x : Settled) : Type 0 where
  pub world : World
  pub later : Later B world
  pub sentences : world.sentences ≡ B.sentences
  pub now : SettledNow M on deck rows names c l h w t ls here fs R world x

pub record SettleIs (deck s rows names c l h w t ls : List ℕ) (fs : Frames) (x : Result Step (Stop × Progress)) (here : Here) (c' l' h' w' t' ls' : List ℕ) (r : Settled) : Type 0 where
  pub is : (B : World) → InMember deck s rows here B → (inner : Run.Level) (on : List Place) (R : Res Run.Stop F.Turn) → StepNow (machine_of inner deck here.member on) on deck rows names c l h w t ls here fs R B x
      → SettlesAs (machine_of inner deck here.member on) on deck rows names c' l' h' w' t' ls' here fs R B r
