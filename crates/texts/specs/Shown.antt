-- HOW THE ROOMS SHOW A RUN: the world B of the scene, with what was put out. And what an answer with the rooms at exit stands for.
use Rattle.texts.specs.Types.{Ran, Passed}
use Rattle.std.specs.Prelude.{ℕ, ◌<◌, ◌≤◌, ◌≡◌, List, length, replicate, Option, Some, None, Ok, Err}
use Rattle.definition.specs.Program as Program
use Rattle.definition.specs.World.{World, Res, good, bad}
use Rattle.definition.specs.Run as Run
use Rattle.definition.specs.Expansion.{size_in}
use Rattle.definition.specs.declared.Why.{Why}
use Rattle.definition.specs.declared.Why.TheVariants.{RoomFull}
use Rattle.meter.specs.declared.Meter.{Meter}
use Rattle.names.specs.declared.Owner.TheVariants.{Everyone}
use Rattle.rows.specs.declared.Starts.{Starts}
use Rattle.rows.specs.declared.Stretch.{Stretch}
use Rattle.output.specs.declared.Out.{Out}
use Rattle.origin.specs.Written.{Written}
use Rattle.callees.specs.declared.Running.{Running}
use Rattle.callees.specs.Answer.{blank}
use Rattle.callees.specs.Shown.{world_in}
use Rattle.operands.specs.declared.Scene.{Scene}
use Rattle.operands.specs.Shown.{Shows}
use Rattle.outcomes.specs.Texts.{Awake}
use Rattle.texts.specs.declared.Progress.{Progress}
use Rattle.texts.specs.declared.Stop.{Stop}

-- ---- what is made of numbers and answers
abbrev pub with_meter : Progress → Meter → Progress
with_meter g m = record { meter = m; layout = g.layout; out = g.out; rows = g.rows; names = g.names }

abbrev pub with_out : Progress → Out → Progress
with_out g o = record { meter = g.meter; layout = g.layout; out = o; rows = g.rows; names = g.names }

abbrev pub halted_at : Progress → Why → ℕ → ℕ → Stop × Progress
halted_at g e m p = (record { why = e; member = m; place = p }, g)

abbrev pub put_for : Progress → Option Out → ℕ → ℕ → Ran
put_for g (Some o) m p = Ok (with_out g o)
put_for g None m p = Err (halted_at g RoomFull m p)

abbrev pub stretch_for : Stretch → Program.Stretch
stretch_for x = record { from = x.from; to = x.to }

-- the refusal of the definition
abbrev pub stop_for : Stop → Run.Stop
stop_for x = record { why = x.why; member = x.member; place = x.place }

-- ---- THE SCENE outside procedures, where none is running
abbrev pub none_on : Running
none_on = record { left = 16; places = replicate 16 blank }

abbrev pub scene_of : Starts → Progress → Scene
scene_of starts g = record { names = g.names; starts = starts; owner = Everyone; running = none_on }

pub record SceneIs (st : Starts) (g : Progress) (r : Scene) : Type 0 where
  pub names : r.names ≡ g.names
  pub starts : r.starts ≡ st
  pub owner : r.owner ≡ Everyone
  pub left : r.running.left ≡ 16

-- ---- THE ROOMS SHOW THE WORLD B
pub record Onstage (deck rows names c l h w t ls : List ℕ) (starts : Starts) (g : Progress) (B : World) : Type 0 where
  pub shows : Shows deck rows names c l h w 0 (scene_of starts g) g.meter B
  pub awake : Awake deck names g.names B
  pub written : Written (size_in deck) g.layout t ls g.out B

-- only what is put out, values and steps change
pub record Goes (B B' : World) : Type 0 where
  pub identifiers : B'.identifiers ≡ B.identifiers
  pub denotations : B'.denotations ≡ B.denotations
  pub activities : B'.activities ≡ B.activities
  pub members : B'.members ≡ B.members
  pub sentences : B'.sentences ≡ B.sentences
  pub limit : B'.limit ≡ B.limit

-- ---- WHAT AN ANSWER STANDS FOR: a world that the rooms show after B, or a refusal
pub record After (A : Type 0) (deck rows names : List ℕ) (starts : Starts) (g : Progress) (B : World) (c l h w t ls : List ℕ) (g' : Progress) (v : A) (R : Res Run.Stop A) : Type 0 where
  pub world : World
  pub stage : Onstage deck rows names c l h w t ls starts g' world
  pub goes : Goes B world
  pub is : R ≡ good v (world_in world c l h g'.meter.used)
  pub tabled : g'.rows ≡ g.rows
  pub named : g'.names ≡ g.names

abbrev pub RanAs : List ℕ → List ℕ → List ℕ → Starts → Progress → World → List ℕ → List ℕ → List ℕ → List ℕ → List ℕ → List ℕ → Ran → Res Run.Stop (Unit {0}) → Type 0
RanAs deck rows names starts g B c l h w t ls (Ok g') R = After (Unit {0}) deck rows names starts g B c l h w t ls g' tt R
RanAs deck rows names starts g B c l h w t ls (Err (x, g')) R = R ≡ bad (stop_for x) g'.meter.used

abbrev pub PassedAs : List ℕ → List ℕ → List ℕ → Starts → Progress → World → List ℕ → List ℕ → List ℕ → List ℕ → List ℕ → List ℕ → Passed → Res Run.Stop ℕ → Type 0
PassedAs deck rows names starts g B c l h w t ls (Ok (q, g')) R = After ℕ deck rows names starts g B c l h w t ls g' q R
PassedAs deck rows names starts g B c l h w t ls (Err (x, g')) R = R ≡ bad (stop_for x) g'.meter.used

-- a text lies in the body s of member m
pub record Lies (deck : List ℕ) (m : ℕ) (s : List ℕ) (from to : ℕ) : Type 0 where
  pub order : from ≤ to
  pub within : to ≤ length s
  pub short : length s < 65536
  pub sized : length s ≡ size_in deck m
