-- Where control goes behind a statement.
-- Assumes nothing.
use Rattle.std.proofs.Common.{Ok, Err}
use Rattle.bodies.specs.Types.{Tested, Started}
use mathlib.Core.Path.{◌≡◌, ap, ◌∙◌}
use mathlib.Core.Bool.{Bool, true, false}
use mathlib.Core.List.{List}
use Prim.Native.Nat.{ℕ, ◌+◌}
use Rattle.definition.specs.declared.Why.{Why}
use Rattle.meter.specs.declared.Meter.{Meter}
use Rattle.flow.specs.declared.Frame.{Frame}
use Rattle.flow.specs.declared.Frames.{Frames}
use Rattle.flow.specs.declared.Next.{Next}
use Rattle.flow.specs.declared.Walk.{Walk}
use Rattle.flow.specs.Walks.{frames_with, behind_on, arrived_at, first_walk}
use Rattle.bodies.specs.declared.Step.TheVariants as St
use Rattle.bodies.specs.declared.Turned.{Turned}
use Rattle.bodies.specs.Ways.{turned_by, after_test, into_group, after_start, again_in}

module _ (t : List ℕ) (fs : Frames) (n : ℕ) where
  -- ---- a group that starts
  module _ (y : Started) where
    pub start_in_lem : (d : Frame) (b : Bool) (m : Meter) → y ≡ Ok (d, b, m) → b ≡ true → (gs : Frames) → gs ≡ frames_with t fs n d → (x : Next) → x ≡ into_group t gs n
        → (r : Turned) → r ≡ turned_by gs (Ok (St.On x m)) → r ≡ after_start t fs n y
    start_in_lem d b m e i gs g x h r f = f ∙ rw (e, i, h, g)

    pub start_out : (d : Frame) (b : Bool) (m : Meter) → y ≡ Ok (d, b, m) → b ≡ false → (x : Next) → x ≡ behind_on t fs (n + 1) n
        → (r : Turned) → r ≡ turned_by fs (Ok (St.On x m)) → r ≡ after_start t fs n y
    start_out d b m e i x h r f = f ∙ rw (e, i, h)

    pub start_bad : (w : Why) (m : Meter) → y ≡ Err (w, m) → (r : Turned) → r ≡ turned_by fs (Err (w, m)) → r ≡ after_start t fs n y
    start_bad w m e r f = f ∙ rw e
