-- Where control goes behind a statement of a body, by the rows t of its member and the frames.
use Rattle.meter.specs.declared.Meter.{Meter}
use Rattle.definition.specs.declared.Why.{Why}
use Rattle.bodies.specs.Types.{Done, Tested, Started}
use Rattle.operands.specs.Types.{Evaluated}
use Rattle.std.specs.Prelude.{ℕ, ◌+◌, Bool, cond, ◌≡◌, List, Ok, Err, Result}
use Rattle.definition.specs.declared.ValueType.{ValueType}
use Rattle.flow.specs.declared.Frames.{Frames}
use Rattle.flow.specs.declared.Next.{Next}
use Rattle.flow.specs.Walks.{frames_with, behind_on, arrived_at, first_walk}
use Rattle.operands.specs.declared.Wish.TheVariants as Wi
use Rattle.operands.specs.Takes.{WithWish}
use Rattle.bodies.specs.declared.Step.{Step}
use Rattle.bodies.specs.declared.Step.TheVariants as St
use Rattle.bodies.specs.declared.Turned.{Turned}

abbrev pub turned_by : Frames → Result Step (Why × Meter) → Turned
turned_by fs x = record { frames = fs; step = x }

-- a statement that was done leads to x
abbrev pub after_done : Done → Next → Result Step (Why × Meter)
after_done (Ok m) x = Ok (St.On x m)
after_done (Err (e, m)) x = Err (e, m)

-- a test leads to one of two
abbrev pub after_test : Tested → (Bool → Next) → Result Step (Why × Meter)
after_test (Ok (b, m)) f = Ok (St.On (f b) m)
after_test (Err (e, m)) f = Err (e, m)

unfoldable pub into_group : List ℕ → Frames → ℕ → Next
into_group t fs g = arrived_at t fs (first_walk t fs g)

-- a group that is tested again: into it, or behind it
unfoldable pub again_in : List ℕ → Frames → ℕ → Bool → Next
again_in t fs g b = cond b (into_group t fs g) (behind_on t fs (g + 1) g)

-- a group that starts has its frame, if a pass begins
abbrev pub after_start : List ℕ → Frames → ℕ → Started → Turned
after_start t fs g (Ok (f, b, m)) = cond b (turned_by (frames_with t fs g f) (Ok (St.On (into_group t (frames_with t fs g f) g) m))) (turned_by fs (Ok (St.On (behind_on t fs (g + 1) g) m)))
after_start t fs g (Err (e, m)) = turned_by fs (Err (e, m))

-- RETURN: the value made of the procedure's type
abbrev pub step_of : Evaluated → Result Step (Why × Meter)
step_of (Ok (v, e, m)) = Ok (St.Gave v m)
step_of (Err (e, m)) = Err (e, m)

pub record ReturnIs (w : List ℕ) (u : ℕ) (fs : Frames) (t : ValueType) (x : Evaluated) (w' : List ℕ) (r : Turned) : Type 0 where
  pub answer : Evaluated
  pub frames : r.frames ≡ fs
  pub step : r.step ≡ step_of answer
  pub is : WithWish w u (Wi.As t) x w' answer
