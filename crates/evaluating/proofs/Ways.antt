-- Where control goes in a body, whose machine puts nothing out: behind a row, and into a group.
-- Assumes nothing.
use mathlib.Core.Path.{◌≡◌, refl, ap, ◌∙◌}
use mathlib.Core.Bool.{Bool, true, false}
use mathlib.Core.List.{List}
use Prim.Native.Nat.{ℕ, ◌+◌, ◌<◌}
use lib.Dec.{ltb}
use lib.ListN.{length}
use Rattle.definition.specs.Choice.{when}
use Rattle.definition.specs.Program as D
use Rattle.definition.specs.World.{World, Res, good, bind, row_of, rows_of}
use Rattle.definition.specs.Flow as F
use Rattle.definition.specs.Flow.{Machine}
use Rattle.definition.specs.Calls.{body_machine}
use Rattle.definition.specs.declared.Why.{Why}
use Rattle.names.specs.declared.Place.{Place}
use Rattle.flow.specs.declared.Frames.{Frames}
use Rattle.flow.specs.Walks.{behind_on, frame_in}
use Rattle.flow.specs.Shown as Fl
use Rattle.flow.specs.Shown.{next_from, Framed, FrameOf, Linked, AtNext}
use Rattle.flow.proofs.Flows.{behind_is, first_arrives}
use Rattle.flow.proofs.Framing.{once_of}
use Rattle.flow.proofs.Arriving.{behind_stands, into_stands}
use Rattle.operands.specs.declared.Scene.{Scene}
use Rattle.bodies.specs.Ways.{into_group}
use Rattle.evaluating.specs.Statements.{body_of}

lead_none : {E : Type 0} (M : Machine E) → ((y : D.Stretch) (w : World) → M.out y w ≡ good tt w) → (y : D.Stretch) (w : World) → F.lead_out M y w ≡ good tt w
unfolding F.lead_out
lead_none M q y w = by (ltb y.from y.to)
  where
    by : (b : Bool) → when b (λ _. M.out y w) (λ _. good tt w) ≡ good tt w
    by true = q y w
    by false = refl

pub quiet : (x : Scene) (p : Place) (u : ℕ) (B : World) (y : D.Stretch) (v : World) → (body_of x p u B).out y v ≡ good tt v
unfolding body_machine
quiet x p u B y v = refl

module _ (x : Scene) (p : Place) (u : ℕ) (B : World) (t : List ℕ) (shown : Fl.Shown t (rows_of p.member B)) (linked : Linked (rows_of p.member B)) (fs : Frames) (G : List F.Frame)
    (n : ℕ) (within : n < length (rows_of p.member B)) (framed : Framed (body_of x p u B) t B.denotations fs G n) where
  pub behind_goes : (v : World) → F.behind (body_of x p u B) G n v ≡ good (next_from (behind_on t fs (n + 1) n)) v
  unfolding body_machine
  behind_goes v = behind_is (body_of x p u B) (quiet x p u B) t shown fs G n v within framed

  pub behind_at : AtNext (body_of x p u B) t B.denotations fs G (behind_on t fs (n + 1) n)
  unfolding body_machine
  behind_at = behind_stands (body_of x p u B) t B.denotations fs G shown linked n within framed

  module _ (own : D.is_iterated (row_of (rows_of p.member B) n).statement ≡ true → FrameOf B.denotations (frame_in t fs n) n G) where
    pub into_goes : (v : World) → F.into (body_of x p u B) G n v ≡ good (next_from (into_group t fs n)) v
    unfolding F.into into_group body_machine
    into_goes v =
        ap (λ (j : Res Why (Unit {0})). bind j (λ _ z. F.first_in (body_of x p u B) (row_of (rows_of p.member B) n).child n G z)) (lead_none (body_of x p u B) (quiet x p u B) (row_of (rows_of p.member B) n).lead v)
        ∙ first_arrives (body_of x p u B) (quiet x p u B) t shown fs G n v within framed (λ j. once_of (own j))

    pub into_at : AtNext (body_of x p u B) t B.denotations fs G (into_group t fs n)
    unfolding into_group body_machine
    into_at = into_stands (body_of x p u B) t B.denotations fs G shown linked n within framed own
