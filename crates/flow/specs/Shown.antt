-- What the rows of a member stand for; t is the part of the table that they begin.
use Rattle.std.specs.Prelude.{ℕ, ◌<◌, ◌≡◌, Bool, true, List, ◌∷◌, ℤ, length, get_or, Option, Some, None}
use Rattle.definition.specs.Program as P
use Rattle.definition.specs.declared.ValueType.TheVariants.{FixedType}
use Rattle.definition.specs.declared.Why.{Why}
use Rattle.definition.specs.declared.Why.TheVariants.{NoValue}
use Rattle.definition.specs.Values.{fixed, from_fixed, as_number}
use Rattle.definition.specs.World as W
use Rattle.definition.specs.World.{World, Res, good, bad, bind, ask, charge, value_at, store, row_of}
use Rattle.definition.specs.Fixed as F
use Rattle.definition.specs.Flow as D
use Rattle.fixed.specs.Signed.{from_stored}
use Rattle.rows.specs.declared.Role.{Role}
use Rattle.rows.specs.declared.Role.TheVariants.{Listed, ThenPart, ElsePart}
use Rattle.rows.specs.declared.Row.{Row}
use Rattle.rows.specs.Table.{row_in}
use Rattle.rows.specs.Tabled.{Tabled}
use Rattle.flow.specs.declared.Next.{Next}
use Rattle.flow.specs.declared.Next.TheVariants.{Begin, Again, Over}
use Rattle.flow.specs.declared.Walk.{Walk}
use Rattle.flow.specs.declared.Walk.TheVariants.{To as Arrives, Up}
use Rattle.flow.specs.declared.Frame.{Frame}
use Rattle.flow.specs.declared.Frames.{Frames}
use Rattle.flow.specs.Walks.{frame_in}

abbrev pub role_of : P.Role → Role
role_of P.listed = Listed
role_of P.then_part = ThenPart
role_of P.else_part = ElsePart

abbrev pub link_of : P.Link → Option ℕ
link_of P.nowhere = None
link_of (P.row n) = Some n

-- a record stands for a row: its links
pub record Stands (r : Row) (d : P.Row) : Type 0 where
  pub parent : r.parent ≡ link_of d.parent
  pub role : r.role ≡ role_of d.role
  pub next : r.next ≡ link_of d.next
  pub child : r.child ≡ link_of d.child
  pub other : r.other ≡ link_of d.other

-- THE ABSTRACTION: the table stands for rows
pub record Shown (t : List ℕ) (rs : List P.Row) : Type 0 where
  pub rows : (n : ℕ) → n < length rs → Stands (row_in t n) (row_of rs n)
  pub tabled : Tabled t rs

-- the row g is around the row n
pub data Around (rs : List P.Row) : ℕ → ℕ → Type 0 where
  parent : (n g : ℕ) → (row_of rs n).parent ≡ P.row g → Around rs n g
  outer : (n p g : ℕ) → (row_of rs n).parent ≡ P.row p → Around rs p g → Around rs n g

-- ---- frames
-- a frame, its numbers as stored
abbrev pub to_of : F.Result → D.To
to_of (F.is z) = D.to_at z
to_of F.out_of_range = D.no_to
to_of F.zero_divisor = D.no_to

pub record FrameShown (f : Frame) (d : D.Frame) : Type 0 where
  pub group : f.group ≡ Some d.group
  pub address : f.address ≡ d.at
  pub step : from_stored f.step ≡ F.is d.step
  pub to : to_of (from_stored f.limit) ≡ d.to
  pub once : f.is_once ≡ d.is_once

-- d is the newest frame of the group g
pub data Newest (g : ℕ) (d : D.Frame) : List D.Frame → Type 0 where
  newest_first : (F : List D.Frame) → d.group ≡ g → Newest g d (d ∷ F)
  newest_later : (x : D.Frame) (F : List D.Frame) → (x.group ≡ g → ⊥) → Newest g d F → Newest g d (x ∷ F)

-- the frame f of the code stands for the newest of the group g, and its variable is FIXED; ds is what the names stand for
pub record HasFrame (ds : List W.Denotation) (f : Frame) (g : ℕ) (F : List D.Frame) : Type 0 where
  pub frame : D.Frame
  pub newest : Newest g frame F
  pub shown : FrameShown f frame
  pub variable : get_or ds frame.at W.builtin_name ≡ W.variable_of FixedType

-- the frame f of the code at the group g: that of the group, or none. A procedure may stand in an iterated group, and its body
-- runs without the group's frame
pub data FrameOf (ds : List W.Denotation) (f : Frame) (g : ℕ) (F : List D.Frame) : Type 0 where
  having : HasFrame ds f g F → FrameOf ds f g F
  without : f.is_once ≡ true → D.is_once g F ≡ true → FrameOf ds f g F

-- the frames of the iterated groups around a row, each at its depth
pub record Framed {E : Type 0} (M : D.Machine E) (t : List ℕ) (ds : List W.Denotation) (fs : Frames) (F : List D.Frame) (n : ℕ) : Type 0 where
  pub whole : length fs.items ≡ 16
  pub frame : (g : ℕ) → Around M.rows n g → P.is_iterated (row_of M.rows g).statement ≡ true → FrameOf ds (frame_in t fs g) g F

-- the frame d is one of the group g, with the variable at a
pub record Owns (g a : ℕ) (d : D.Frame) : Type 0 where
  pub group : d.group ≡ g
  pub variable : d.at ≡ a

-- what the definition does with the frame of a group that is tested again
abbrev pub number_of : W.Cell → World → (ℤ → Res Why Bool) → Res Why Bool
number_of W.no_value w f = bad NoValue w.used
number_of (W.holds v) w f = f (as_number v)

unfoldable pub stepped_on : D.Frame → World → Res Why Bool
stepped_on d w = number_of (value_at d.at w) w λ z.
    bind (ask (from_fixed (F.sum z d.step)) w) λ y v.
    bind (charge (store d.at (fixed y) v)) λ _ x. good (D.passes d y) x

-- ---- what a walk leads to; `up` goes on behind a row
abbrev pub next_from : Next → D.Next
next_from (Begin n) = D.begin n
next_from (Again n) = D.again n
next_from Over = D.no_next

abbrev pub walked : {E : Type 0} → Walk → (ℕ → World → Res E D.Next) → World → Res E D.Next
walked (Arrives x) up w = good (next_from x) w
walked (Up g) up w = up g w

-- what is put out behind a row: nothing behind an alternative
abbrev pub out_behind : {E : Type 0} → D.Machine E → Role → P.Stretch → World → Res E (Unit {0})
out_behind M Listed x w = M.out x w
out_behind M ThenPart x w = good tt w
out_behind M ElsePart x w = good tt w

-- ---- where the links of rows lead: to a row that is there, in the same place or inside
pub record StandsIn (rs : List P.Row) (m : ℕ) (p : P.Link) : Type 0 where
  pub within : m < length rs
  pub parent : (row_of rs m).parent ≡ p

pub record Linked (rs : List P.Row) : Type 0 where
  pub next : (n m : ℕ) → n < length rs → (row_of rs n).next ≡ P.row m → StandsIn rs m (row_of rs n).parent
  pub child : (n m : ℕ) → n < length rs → (row_of rs n).child ≡ P.row m → StandsIn rs m (P.row n)
  pub other : (n m : ℕ) → n < length rs → (row_of rs n).other ≡ P.row m → StandsIn rs m (P.row n)

-- ---- the frames stand where control goes: at a row; at a group that is tested again; at what begins next; where a walk leads
pub record AtRow {E : Type 0} (M : D.Machine E) (t : List ℕ) (ds : List W.Denotation) (fs : Frames) (F : List D.Frame) (n : ℕ) : Type 0 where
  pub within : n < length M.rows
  pub framed : Framed M t ds fs F n

pub record AtTest {E : Type 0} (M : D.Machine E) (t : List ℕ) (ds : List W.Denotation) (fs : Frames) (F : List D.Frame) (g : ℕ) : Type 0 where
  pub within : g < length M.rows
  pub framed : Framed M t ds fs F g
  pub iterated : P.is_iterated (row_of M.rows g).statement ≡ true
  pub own : HasFrame ds (frame_in t fs g) g F

pub record AtNext {E : Type 0} (M : D.Machine E) (t : List ℕ) (ds : List W.Denotation) (fs : Frames) (F : List D.Frame) (x : Next) : Type 0 where
  pub begin : (n : ℕ) → x ≡ Begin n → AtRow M t ds fs F n
  pub again : (g : ℕ) → x ≡ Again g → AtTest M t ds fs F g

pub record AtWalk {E : Type 0} (M : D.Machine E) (t : List ℕ) (ds : List W.Denotation) (fs : Frames) (F : List D.Frame) (x : Walk) : Type 0 where
  pub arrives : (y : Next) → x ≡ Arrives y → AtNext M t ds fs F y
  pub up : (p : ℕ) → x ≡ Up p → AtRow M t ds fs F p
