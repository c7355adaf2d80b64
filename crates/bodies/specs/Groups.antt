-- An iterated group: its bounds, its frame, its start and its next test.
use Rattle.fixed.specs.declared.FixedError.{FixedError}
use Rattle.bodies.specs.Types.{Tested, Bound, Widened, Started}
use Rattle.std.specs.Prelude.{ℕ, ◌+◌, Bool, true, false, cond, ◌≡◌, List, [], ◌∷◌, ℤ, pos, get_or, Option, Some, None, Ok, Err, Result}
use Rattle.definition.specs.Bytes.{mixed}
use Rattle.definition.specs.Fixed as Fx
use Rattle.definition.specs.Room.{over}
use Rattle.definition.specs.Tokens.{token_at, is_word}
use Rattle.definition.specs.Values as Val
use Rattle.definition.specs.World as W
use Rattle.definition.specs.World.{World, Res, good, bind, ask, variable_of, builtin_name}
use Rattle.definition.specs.Flow as F
use Rattle.definition.specs.declared.Why.{Why}
use Rattle.definition.specs.declared.ValueType.{ValueType}
use Rattle.definition.specs.declared.ValueType.TheVariants.{FixedType, CharacterType}
use Rattle.fixed.specs.declared.Fixed.{Fixed}
use Rattle.fixed.specs.Answer.{result_of}
use Rattle.fixed.specs.Signed.{stored_of, from_stored}
use Rattle.meter.specs.declared.Meter.{Meter}
use Rattle.flow.specs.declared.Frame.{Frame}
use Rattle.flow.specs.Walks.{passes_by}
use Rattle.flow.specs.Shown.{FrameShown, stepped_on}
use Rattle.callees.specs.Shown.{world_in, Slots}
use Rattle.bodies.specs.declared.Side.{Side}
use Rattle.bodies.specs.declared.Side.TheVariants as Si
use Rattle.bodies.specs.Deeds.{tested_in, tested_meter}

-- ---- bounds
-- BY or TO that stands behind a place, and the place behind it
unfoldable pub word_at : List ℕ → ℕ → Option (Side × ℕ)
word_at s at = cond (is_word "BY" (token_at mixed s at).token) (Some (Si.By, (token_at mixed s at).to)) (cond (is_word "TO" (token_at mixed s at).token) (Some (Si.Upto, (token_at mixed s at).to)) None)

-- a frame with a number as stored; the first has BY 1
abbrev pub frame_by : Frame → ℕ → Frame
frame_by f n = record { group = f.group; address = f.address; step = n; limit = f.limit; is_once = false }

abbrev pub frame_to : Frame → ℕ → Frame
frame_to f n = record { group = f.group; address = f.address; step = f.step; limit = n; is_once = false }

abbrev pub first_frame : ℕ → ℕ → Frame
first_frame g a = record { group = Some g; address = a; step = stored_of (pos 1); limit = 0; is_once = true }

abbrev pub frame_with : Frame → Side → ℕ → Frame
frame_with f Si.By n = frame_by f n
frame_with f Si.Upto n = frame_to f n

abbrev pub widened_by : Frame → Side → Bound → Widened
widened_by f a (Ok (x, q, m)) = Ok ((frame_with f a (stored_of x.value)), q, m)
widened_by f a (Err (e, m)) = Err (e, m)

-- "The control variable is FIXED, else 6."
abbrev pub control_as : ValueType → ℕ → Option ℕ
control_as FixedType a = Some a
control_as CharacterType a = None

abbrev pub control_of : Option (ℕ × ValueType) → Option ℕ
control_of (Some (a, t)) = control_as t a
control_of None = None

-- ---- the start: the variable gets its number, and the first pass is tested
abbrev pub cells_off : List ℕ → ℤ → Widened → List ℕ
cells_off c z (Ok (f, q, m)) = over c (f.address + 0) (stored_of z ∷ [])
cells_off c z (Err (e, m)) = c

abbrev pub started_off : ℤ → Widened → Started
started_off z (Ok (f, q, m)) = Ok (f, (passes_by (from_stored f.limit) (from_stored f.step) z), m)
started_off z (Err (e, m)) = Err (e, m)

pub record SetOff (c : List ℕ) (x : Fixed) (w : Widened) (c' : List ℕ) (r : Started) : Type 0 where
  pub cells : c' ≡ cells_off c x.value w
  pub is : r ≡ started_off x.value w

-- ---- another test of the group, by its frame
unfoldable pub added_on : F.Frame → ℤ → World → Res Why Bool
added_on d z w = bind (ask (Val.from_fixed (Fx.sum z d.step)) w) λ y v. bind (W.charge (W.store d.at (Val.fixed y) v)) λ _ x. good (F.passes d y) x

pub record SummedIs (x : Fixed) (by : Result Fixed FixedError) (r : Result Fixed FixedError) : Type 0 where
  pub is : (z : ℤ) → result_of by ≡ Fx.is z → result_of r ≡ Fx.sum x.value z

-- what the frame f of the code stands for has its variable among those of B
pub record Framing (B : World) (c l h : List ℕ) (f : Frame) (m : Meter) (d : F.Frame) : Type 0 where
  pub slots : Slots B.denotations c l h
  pub variable : get_or B.denotations f.address builtin_name ≡ variable_of FixedType
  pub limit : m.limit ≡ B.limit
  pub frame : FrameShown f d

pub record SteppedBy (c : List ℕ) (f : Frame) (x : Fixed) (by : Result Fixed FixedError) (m : Meter) (c' : List ℕ) (r : Tested) : Type 0 where
  pub is : (B : World) (l h : List ℕ) (d : F.Frame) → Framing B c l h f m d → result_of by ≡ from_stored f.step
      → (tested_in B c' l h r ≡ added_on d x.value (world_in B c l h m.used)) × ((tested_meter r).limit ≡ B.limit) × Slots B.denotations c' l h

pub record SteppedIs (c : List ℕ) (f : Frame) (m : Meter) (c' : List ℕ) (r : Tested) : Type 0 where
  pub is : (B : World) (l h : List ℕ) (d : F.Frame) → Framing B c l h f m d
      → (tested_in B c' l h r ≡ stepped_on d (world_in B c l h m.used)) × ((tested_meter r).limit ≡ B.limit) × Slots B.denotations c' l h
