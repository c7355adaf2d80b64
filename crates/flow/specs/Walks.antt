-- Where control goes, by the rows that the table t holds. What each is in the definition stands in proofs/Flows.antt.
use Rattle.std.specs.Prelude.{ℕ, zero, suc, ◌+◌, Bool, true, false, cond, not, List, eqb, ltb, ℤ, get_or, set, replicate, Option, Some, None}
use Rattle.std.specs.Int.Signed.{le_z, non_neg}
use Rattle.definition.specs.Fixed as F
use Rattle.rows.specs.declared.Statement.{Statement}
use Rattle.rows.specs.declared.Statement.TheVariants.{Null, Declare, Procedure, Assign, Conditional, Group, Iterated, Goto, Include, Activate, Deactivate, Return}
use Rattle.rows.specs.declared.Role.{Role}
use Rattle.rows.specs.declared.Role.TheVariants.{Listed, ThenPart, ElsePart}
use Rattle.rows.specs.Table.{row_in}
use Rattle.flow.specs.declared.Next.{Next}
use Rattle.flow.specs.declared.Next.TheVariants.{Begin, Again, Over}
use Rattle.flow.specs.declared.Walk.{Walk}
use Rattle.flow.specs.declared.Walk.TheVariants.{To as Arrives, Up}
use Rattle.flow.specs.declared.Frame.{Frame}
use Rattle.flow.specs.declared.Frames.{Frames}

-- ---- frames: one for each depth
unfoldable pub no_frame : Frame
no_frame = record { group = None; address = 0; step = 0; limit = 0; is_once = true }

unfoldable pub no_frames : Frames
no_frames = record { items = replicate 16 no_frame }

unfoldable pub leads_to : Option ℕ → ℕ → Bool
leads_to None n = false
leads_to (Some m) n = eqb m n

-- what no array has at a place within it
abbrev pub blank_frame : Frame
blank_frame = record { group = None; address = 0; step = 0; limit = 0; is_once = false }

-- the frame at the group's depth, if it is the group's
unfoldable pub frame_at : List Frame → ℕ → ℕ → Frame
frame_at fs d g = cond (ltb d 16) (cond (leads_to (get_or fs d blank_frame).group g) (get_or fs d blank_frame) no_frame) no_frame

unfoldable pub frame_in : List ℕ → Frames → ℕ → Frame
frame_in t fs g = frame_at fs.items (row_in t g).depth g

unfoldable pub frames_with : List ℕ → Frames → ℕ → Frame → Frames
frames_with t fs g f = cond (ltb (row_in t g).depth 16) (record { items = set fs.items (row_in t g).depth f }) fs

-- "it ends over TO, under TO if BY is negative, never without TO": by what is stored
unfoldable pub is_down : F.Result → Bool
is_down (F.is z) = not (non_neg z)
is_down F.out_of_range = false
is_down F.zero_divisor = false

unfoldable pub passes_by : F.Result → F.Result → ℤ → Bool
passes_by (F.is to) by z = cond (is_down by) (le_z to z) (le_z z to)
passes_by F.out_of_range by z = true
passes_by F.zero_divisor by z = true

-- ---- behind a statement
unfoldable pub end_as : Statement → Bool → ℕ → Walk
end_as Null o g = Up g
end_as Declare o g = Up g
end_as Procedure o g = Arrives Over
end_as Assign o g = Up g
end_as Conditional o g = Up g
end_as Group o g = Up g
end_as Iterated o g = cond o (Up g) (Arrives (Again g))
end_as Goto o g = Up g
end_as Include o g = Up g
end_as Activate o g = Up g
end_as Deactivate o g = Up g
end_as Return o g = Up g

unfoldable pub end_walk : List ℕ → Frames → ℕ → Walk
end_walk t fs g = end_as (row_in t g).statement (frame_in t fs g).is_once g

unfoldable pub next_walk : List ℕ → Frames → Option ℕ → Option ℕ → Walk
next_walk t fs (Some m) p = Arrives (Begin m)
next_walk t fs None None = Arrives Over
next_walk t fs None (Some g) = end_walk t fs g

unfoldable pub up_walk : Option ℕ → Walk
up_walk None = Arrives Over
up_walk (Some g) = Up g

unfoldable pub behind_as : Role → List ℕ → Frames → Option ℕ → Option ℕ → Walk
behind_as Listed t fs n p = next_walk t fs n p
behind_as ThenPart t fs n p = up_walk p
behind_as ElsePart t fs n p = up_walk p

unfoldable pub behind_walk : List ℕ → Frames → ℕ → Walk
behind_walk t fs n = behind_as (row_in t n).role t fs (row_in t n).next (row_in t n).parent

abbrev pub follow : Walk → (ℕ → Next) → Next
follow (Arrives x) f = x
follow (Up g) f = f g

-- so many turns behind the row n
unfoldable pub behind_on : List ℕ → Frames → ℕ → ℕ → Next
behind_on t fs zero n = Over
behind_on t fs (suc f) n = follow (behind_walk t fs n) (λ g. behind_on t fs f g)

unfoldable pub arrived_at : List ℕ → Frames → Walk → Next
arrived_at t fs w = follow w (λ g. behind_on t fs (g + 1) g)

-- ---- into a group, an alternative, a list
unfoldable pub first_as : Option ℕ → List ℕ → Frames → ℕ → Walk
first_as (Some m) t fs g = Arrives (Begin m)
first_as None t fs g = end_walk t fs g

unfoldable pub first_walk : List ℕ → Frames → ℕ → Walk
first_walk t fs g = first_as (row_in t g).child t fs g

unfoldable pub link_walk : Option ℕ → ℕ → Walk
link_walk (Some m) n = Arrives (Begin m)
link_walk None n = Up n

unfoldable pub chosen_walk : List ℕ → ℕ → Bool → Walk
chosen_walk t n b = cond b (link_walk (row_in t n).child n) (link_walk (row_in t n).other n)

unfoldable pub first_of : Option ℕ → Next
first_of (Some n) = Begin n
first_of None = Over

-- ---- GOTO
unfoldable pub is_iterated : Statement → Bool
is_iterated Null = false
is_iterated Declare = false
is_iterated Procedure = false
is_iterated Assign = false
is_iterated Conditional = false
is_iterated Group = false
is_iterated Iterated = true
is_iterated Goto = false
is_iterated Include = false
is_iterated Activate = false
is_iterated Deactivate = false
is_iterated Return = false

unfoldable pub iterated_at : List ℕ → ℕ → Bool
iterated_at t n = is_iterated (row_in t n).statement

unfoldable pub parent_at : List ℕ → ℕ → Option ℕ
parent_at t n = (row_in t n).parent

-- whether the row g is among a row and those around it, so many turns
abbrev pub around_link : List ℕ → ℕ → (Option ℕ → Bool) → Option ℕ → Bool
around_link t g up None = false
around_link t g up (Some p) = cond (eqb p g) true (up (parent_at t p))

unfoldable pub around_on : List ℕ → ℕ → ℕ → Option ℕ → Bool
around_on t g zero x = false
around_on t g (suc f) x = around_link t g (λ y. around_on t g f y) x

unfoldable pub may_stand : List ℕ → ℕ → ℕ → Bool
may_stand t g n = cond (iterated_at t g) (around_on t g 2048 (parent_at t n)) true

abbrev pub may_go_link : List ℕ → ℕ → (Option ℕ → Bool) → Option ℕ → Bool
may_go_link t n up None = true
may_go_link t n up (Some g) = cond (may_stand t g n) (up (parent_at t g)) false

unfoldable pub may_go_on : List ℕ → ℕ → ℕ → Option ℕ → Bool
may_go_on t n zero x = true
may_go_on t n (suc f) x = may_go_link t n (λ y. may_go_on t n f y) x

unfoldable pub label_from : List ℕ → ℕ → Bool → Option ℕ
label_from t r is_end = cond is_end (Some r) (parent_at t r)

unfoldable pub landing_walk : List ℕ → Frames → ℕ → Bool → Walk
landing_walk t fs r is_end = cond is_end (end_walk t fs r) (Arrives (Begin r))
