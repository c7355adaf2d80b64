-- INTO A GROUP with the text that it begins with: a group that is entered, one that starts, one that is tested again.
-- Assumes nothing.
use Rattle.texts.specs.Types.{Ran}
use Rattle.std.proofs.Common.{Ok, Err}
use Rattle.bodies.specs.Types.{Tested, Started}
use mathlib.Core.Path.{◌≡◌, refl, sym, ap, subst, ◌∙◌}
use mathlib.Core.Bool.{Bool, true, false}
use mathlib.Core.List.{List, ◌∷◌}
use Prim.Native.Nat.{ℕ, ◌<◌}
use lib.ListN.{length}
use Rattle.definition.specs.Choice.{when}
use Rattle.definition.specs.Program as P
use Rattle.definition.specs.World.{World, Res, good, bad, bind, row_of}
use Rattle.definition.specs.Flow as F
use Rattle.definition.specs.Calls.{Place}
use Rattle.definition.specs.Run as Run
use Rattle.definition.specs.Run.{body_of, member_machine}
use Rattle.definition.specs.declared.Why.{Why}
use Rattle.meter.specs.declared.Meter.{Meter}
use Rattle.rows.specs.declared.Row.{Row}
use Rattle.rows.specs.Table.{row_in}
use Rattle.flow.specs.declared.Frame.{Frame}
use Rattle.flow.specs.declared.Frames.{Frames}
use Rattle.flow.specs.declared.Walk.{Walk}
use Rattle.flow.specs.declared.Walk.TheVariants.{Up}
use Rattle.flow.specs.Walks as C
use Rattle.flow.specs.Walks.{frame_in, frames_with, first_walk}
use Rattle.flow.specs.Shown.{Shown, Linked, link_of, walked, having, AtRow, AtTest, AtWalk, stepped_on}
use Rattle.flow.proofs.Flows.{end_is}
use Rattle.flow.proofs.Framing.{once_of, stepped_own, has_entered}
use Rattle.flow.proofs.Arriving.{walk_up, entered_walk_stands, tested_walk_stands}
use Rattle.callees.specs.Shown.{world_in, Slots}
use Rattle.bodies.specs.Deeds.{tested_in, tested_meter}
use Rattle.bodies.specs.Groups.{Framing, SteppedIs}
use Rattle.texts.specs.declared.Progress.{Progress}
use Rattle.texts.specs.declared.Here.{Here}
use Rattle.texts.specs.declared.Stop.{Stop}
use Rattle.texts.specs.Shown.{with_meter, stretch_for, stop_for, After, RanAs}
use Rattle.texts.specs.Promises.{lead_text, LeadIs}
use Rattle.texts.proofs.Looping.{lead_is}
use Rattle.stepping.specs.declared.Step.TheVariants as St
use Rattle.stepping.specs.declared.Turned.{Turned}
use Rattle.stepping.specs.Stage.{Stage, InMember, part_here, machine_of}
use Rattle.stepping.specs.Ways.{turned_by, refused_at}
use Rattle.stepping.specs.Steps.{StepIs, Entering, IntoIs, StartNow, started_on, StartedIs, AgainIs}
use Rattle.stepping.proofs.Staging.{later_none, walk_later, stage_after, later_after, stage_values_on, machine_shown, machine_linked, machine_written, lead_lies, its_body}

-- ---- the first row of a group, or its end, whatever is put out
module _ {E : Type 0} (M : F.Machine E) (t : List ℕ) (s : Shown t M.rows) (fs : Frames) (G : List F.Frame) (w : World) where
  abbrev up : Walk → Res E F.Next
  up x = walked x (λ n v. F.behind M G n v) w

  first_as_lem : (x : P.Link) (g : ℕ) → F.end_of M G g w ≡ up (C.end_walk t fs g) → F.first_in M x g G w ≡ up (C.first_as (link_of x) t fs g)
  unfolding C.first_as
  first_as_lem (P.row m) g h = refl
  first_as_lem P.nowhere g h = h

  first_is : (g : ℕ) → g < length M.rows → (P.is_iterated (row_of M.rows g).statement ≡ true → (frame_in t fs g).is_once ≡ F.is_once g G) → F.first_in M (row_of M.rows g).child g G w ≡ up (first_walk t fs g)
  unfolding C.first_walk
  first_is g h o = rw (s.rows g h).child (first_as_lem (row_of M.rows g).child g (end_is M G (λ n v. F.behind M G n v) w t s fs g h o))

-- ---- into the group n: its text, and then its first row
module _ (deck s part rows names c l h w t ls : List ℕ) (fs : Frames) (n : ℕ) (here : Here) (g : Progress) (r : Row) (er : r ≡ row_in part n) (c' l' h' w' t' ls' : List ℕ) (x : Ran) (li : LeadIs deck s rows names c l h w t ls r.lead here g c' l' h' w' t' ls' x) where
  module _ (B : World) (st : Stage deck rows names c l h w t ls here.starts g B) (i : InMember deck s rows here B) (f : part ≡ part_here rows here) (inner : Run.Level) (on : List Place) (G : List F.Frame)
      (en : Entering (machine_of inner deck here.member on) part B.denotations fs G n) where
    abbrev M : F.Machine Run.Stop
    M = machine_of inner deck here.member on

    abbrev now : World
    now = world_in B c l h g.meter.used

    abbrev lead : Res Run.Stop (Unit {0})
    lead = F.lead_out M (F.at M n).lead now

    at : r ≡ row_in (part_here rows here) n
    at = er ∙ ap (λ (y : List ℕ). row_in y n) f

    shown : Shown part M.rows
    shown = subst (λ (k : List ℕ). Shown k M.rows) (sym f) (machine_shown deck s rows names c l h w t ls here g B st i inner on)

    ran : RanAs deck rows names here.starts g B c' l' h' w' t' ls' x lead
    ran =
        let o : RanAs deck rows names here.starts g B c' l' h' w' t' ls' x (lead_text here.member s (stretch_for r.lead) now) =
        li.is B st.onstage (rw at (lead_lies deck s rows names c l h w t ls here g B st i inner on n en.within)) i.low in
        let same : stretch_for r.lead ≡ (F.at M n).lead = rw at (machine_written deck s rows names c l h w t ls here g B st i inner on n en.within).lead in
        let q : lead_text here.member s (stretch_for r.lead) now ≡ lead =
        ap (λ (y : List ℕ). lead_text here.member y (stretch_for r.lead) now) (its_body deck s rows names c l h w t ls here g B st i inner on)
        ∙ ap (λ (y : P.Stretch). lead_text here.member (body_of deck here.member) y now) same ∙ sym (lead_is inner deck here.member on _ (F.at M n).lead now) in
        subst (λ (R : Res Run.Stop (Unit {0})). RanAs deck rows names here.starts g B c' l' h' w' t' ls' x R) q o

    abbrev whole : Res Run.Stop F.Turn
    whole = F.onward M G (F.into M G n now)

    turn_is : whole ≡ F.onward M G (bind lead (λ _ v. F.first_in M (F.at M n).child n G v))
    unfolding F.into
    turn_is = refl

    bad_on : (z : Stop) (k : Progress) → x ≡ Err (z, k) → StepIs M on deck rows names c' l' h' w' t' ls' here fs whole B (Err (z, k))
    bad_on z k e =
        let q : lead ≡ bad (stop_for z) k.meter.used = subst (λ (v : Ran). RanAs deck rows names here.starts g B c' l' h' w' t' ls' v lead) e ran in
        record { world = B; later = later_none B; sentences = refl; now = turn_is ∙ ap (λ (v : Res Run.Stop (Unit {0})). F.onward M G (bind v (λ _ u. F.first_in M (F.at M n).child n G u))) q }

    good_on : (k : Progress) → x ≡ Ok k → length c' ≡ length c → StepIs M on deck rows names c' l' h' w' t' ls' here fs whole B (Ok (St.On (first_walk part fs n) k))
    good_on k e ec =
        let q : After (Unit {0}) deck rows names here.starts g B c' l' h' w' t' ls' k tt lead = subst (λ (v : Ran). RanAs deck rows names here.starts g B c' l' h' w' t' ls' v lead) e ran in
        let later = later_after deck rows names c l h w t ls here.starts g B st c' l' h' w' t' ls' k tt lead q in
        record {
          world = q.world;
          later = later;
          sentences = q.goes.sentences;
          now = record {
            stage = stage_after deck rows names c l h w t ls here.starts g B st c' l' h' w' t' ls' k tt lead q ec;
            frames = G;
            is = turn_is ∙ ap (λ (v : Res Run.Stop (Unit {0})). F.onward M G (bind v (λ _ u. F.first_in M (F.at M n).child n G u))) q.is
                ∙ ap (F.onward M G) (first_is M part shown fs G (world_in q.world c' l' h' k.meter.used) n en.within (λ j. once_of (en.own j)));
            at = subst (λ (v : List ℕ). AtWalk M v q.world.denotations fs G (first_walk part fs n)) f (walk_later B q.world later (first_walk part fs n) en.walks);
          };
        }

  pub into_good : (k : Progress) → x ≡ Ok k → length c' ≡ length c → (y : Walk) → y ≡ first_walk part fs n → (z : Turned) → z ≡ turned_by fs (Ok (St.On y k)) → IntoIs deck s part rows names c l h w t ls fs n here g c' l' h' w' t' ls' z
  into_good k e ec y ey z ez = rw (ez, ey) record { is = λ B st i f inner on G en. good_on B st i f inner on G en k e ec }

  pub into_bad : (y : Stop) (k : Progress) → x ≡ Err (y, k) → (z : Turned) → z ≡ turned_by fs (Err (y, k)) → IntoIs deck s part rows names c l h w t ls fs n here g c' l' h' w' t' ls' z
  into_bad y k e z ez = rw ez record { is = λ B st i f inner on G en. bad_on B st i f inner on G en y k e }

-- ---- behind the group n, or a refusal in its row
module _ (deck rows names c l h w t ls : List ℕ) (here : Here) (g : Progress) (B : World) (inner : Run.Level) (on : List Place) (G : List F.Frame) (fs : Frames) (n : ℕ) (R : Res Run.Stop F.Turn) where
  abbrev its : F.Machine Run.Stop
  its = machine_of inner deck here.member on

  behind_step : Stage deck rows names c l h w t ls here.starts g B → (part : List ℕ) → part ≡ part_here rows here → AtRow its part B.denotations fs G n → R ≡ F.onward its G (F.behind its G n (world_in B c l h g.meter.used))
      → StepIs its on deck rows names c l h w t ls here fs R B (Ok (St.On (Up n) g))
  behind_step st part f a e = record {
    world = B;
    later = later_none B;
    sentences = refl;
    now = record { stage = st; frames = G; is = e; at = subst (λ (v : List ℕ). AtWalk its v B.denotations fs G (Up n)) f (walk_up its part B.denotations fs G n a) };
  }

  fault_step : (e : Why) (p : ℕ) → (F.at its n).place ≡ p → R ≡ bad (its.fault (F.at its n) e) g.meter.used → StepIs its on deck rows names c l h w t ls here fs R B (Err ((record { why = e; member = here.member; place = p }), g))
  unfolding member_machine
  fault_step e p q z = record { world = B; later = later_none B; sentences = refl; now = z ∙ ap (λ (k : ℕ). bad (Run.stop here.member k e) g.meter.used) q }

-- ---- the iterated group n, which starts
module _ (M : F.Machine Run.Stop) (G : List F.Frame) (n : ℕ) (d : F.Frame) (v : World) where
  begins_on : (b : Bool) → b ≡ true → started_on M G n (good (record { frame = d; begins = b }) v) ≡ F.onward M (d ∷ G) (F.into M (d ∷ G) n v)
  begins_on b e = rw e

  passes_on : (b : Bool) → b ≡ false → started_on M G n (good (record { frame = d; begins = b }) v) ≡ F.onward M G (F.behind M G n v)
  passes_on b e = rw e

module _ (deck s part rows names c l h w t ls : List ℕ) (fs : Frames) (n : ℕ) (x : Started) (here : Here) (place : ℕ) (g : Progress) where
  module _ (f : Frame) (b : Bool) (m : Meter) (ex : x ≡ Ok (f, b, m)) (k : Progress) (ek : k ≡ with_meter g m) where
    start_at_lem : (R : Res Why F.Started) (B : World) → StartNow deck rows names c l h w t ls here n g R B x → StartNow deck rows names c l h w t ls here n g R B (Ok (f, b, m))
    start_at_lem R B = subst (StartNow deck rows names c l h w t ls here n g R B) ex

    pub started_in : b ≡ true → (fs' : Frames) → fs' ≡ frames_with part fs n f → (c' l' h' w' t' ls' : List ℕ) (r : Turned) → IntoIs deck s part rows names c l h w t ls fs' n here k c' l' h' w' t' ls' r
        → StartedIs deck s part rows names c l h w t ls fs n x here place g c' l' h' w' t' ls' r
    started_in eb fs' ef c' l' h' w' t' ls' r it = record {
      is = λ B R sn i e inner on G a j q.
          let M : F.Machine Run.Stop = machine_of inner deck here.member on in
          let now : StartNow deck rows names c l h w t ls here n g R B (Ok (f, b, m)) = start_at_lem R B sn in
          let st : Stage deck rows names c l h w t ls here.starts (with_meter g m) B = now.0 in
          let d : F.Frame = now.1.0 in
          let sh : Shown part M.rows = subst (λ (v : List ℕ). Shown v M.rows) (sym e) (machine_shown deck s rows names c l h w t ls here (with_meter g m) B st i inner on) in
          let lk : Linked M.rows = machine_linked deck s rows names c l h w t ls here (with_meter g m) B st i inner on in
          let en : Entering M part B.denotations (frames_with part fs n f) (d ∷ G) n = record {
            within = a.within;
            own = λ _. having (has_entered M part sh B.denotations fs G n a.within j f d now.1.1 now.1.2 now.1.3 a.framed);
            walks = entered_walk_stands M part B.denotations fs G sh lk n a.within j f d now.1.1 now.1.2 now.1.3 a.framed;
          } in
          let into : IntoIs deck s part rows names c l h w t ls (frames_with part fs n f) n here (with_meter g m) c' l' h' w' t' ls' r = rw (ek, ef) at it in
          let R₁ : F.onward M (d ∷ G) (F.into M (d ∷ G) n (world_in B c l h m.used)) ≡ started_on M G n R = sym (ap (started_on M G n) now.1.4 ∙ begins_on M G n d (world_in B c l h m.used) b eb) in
          subst (λ (v : Res Run.Stop F.Turn). StepIs M on deck rows names c' l' h' w' t' ls' here r.frames v B r.step) R₁ (into.is B st i e inner on (d ∷ G) en);
    }

    pub started_out : b ≡ false → (r : Turned) → r ≡ turned_by fs (Ok (St.On (Up n) k)) → StartedIs deck s part rows names c l h w t ls fs n x here place g c l h w t ls r
    started_out eb r er = rw (er, ek) record {
      is = λ B R sn i e inner on G a j q.
          let now : StartNow deck rows names c l h w t ls here n g R B (Ok (f, b, m)) = start_at_lem R B sn in
          let M : F.Machine Run.Stop = machine_of inner deck here.member on in
          behind_step deck rows names c l h w t ls here (with_meter g m) B inner on G fs n _ now.0 part e a (ap (started_on M G n) now.1.4 ∙ passes_on M G n now.1.0 (world_in B c l h m.used) b eb);
    }

  pub started_bad : (v : Why) (m : Meter) → x ≡ Err (v, m) → (k : Progress) → k ≡ with_meter g m → (r : Turned) → r ≡ refused_at fs k v here.member place → StartedIs deck s part rows names c l h w t ls fs n x here place g c l h w t ls r
  started_bad v m ex k ek r er = rw (er, ek) record {
    is = λ B R sn i e inner on G a j q.
        let now : R ≡ bad v m.used = subst (StartNow deck rows names c l h w t ls here n g R B) ex sn in
        fault_step deck rows names c l h w t ls here (with_meter g m) B inner on G fs n _ v place q (ap (started_on (machine_of inner deck here.member on) G n) now);
  }

-- ---- the iterated group n, which is tested again
module _ (deck s part rows names c l h w t ls : List ℕ) (fs : Frames) (n : ℕ) (here : Here) (g : Progress) (f : Frame) (ef : f ≡ frame_in part fs n) (c₁ : List ℕ) (x : Tested) (si : SteppedIs c f g.meter c₁ x) (ec : length c₁ ≡ length c) where
  module _ (B : World) (st : Stage deck rows names c l h w t ls here.starts g B) (i : InMember deck s rows here B) (e : part ≡ part_here rows here) (inner : Run.Level) (on : List Place) (G : List F.Frame)
      (at : AtTest (machine_of inner deck here.member on) part B.denotations fs G n) where
    abbrev tested : F.Machine Run.Stop
    tested = machine_of inner deck here.member on

    framing : Framing B c l h f g.meter at.own.frame
    framing = record { slots = st.onstage.shows.slots; variable = rw (ef, at.own.shown.address) at.own.variable; limit = st.onstage.shows.limit; frame = rw ef at.own.shown }

    stepped : (tested_in B c₁ l h x ≡ stepped_on at.own.frame (world_in B c l h g.meter.used)) × ((tested_meter x).limit ≡ B.limit) × Slots B.denotations c₁ l h
    stepped = si.is B l h at.own.frame framing

    abbrev again : Res Run.Stop F.Turn
    again = F.turn tested (F.again n) G (world_in B c l h g.meter.used)

    abbrev goes_by : Res Why Bool → Res Run.Stop F.Turn
    goes_by r = bind (F.in_row tested n r) (λ b v. when b (λ _. F.onward tested G (F.into tested G n v)) (λ _. F.onward tested G (F.behind tested G n v)))

    again_is : again ≡ goes_by (tested_in B c₁ l h x)
    unfolding F.turn
    again_is = ap goes_by (stepped_own tested n at.own.frame G (world_in B c l h g.meter.used) at.own.newest ∙ sym stepped.0)

    stage_on : (m : Meter) → tested_meter x ≡ m → Stage deck rows names c₁ l h w t ls here.starts (with_meter g m) B
    stage_on m q = stage_values_on deck rows names c l h w t ls here.starts g B st c₁ l h w m stepped.2 refl ec (rw q at stepped.1)

    shown_on : Shown part tested.rows
    shown_on = subst (λ (v : List ℕ). Shown v tested.rows) (sym e) (machine_shown deck s rows names c l h w t ls here g B st i inner on)

    entering : Entering tested part B.denotations fs G n
    entering = record {
      within = at.within;
      own = λ _. having at.own;
      walks = tested_walk_stands tested part B.denotations fs G shown_on (machine_linked deck s rows names c l h w t ls here g B st i inner on) n at;
    }

    in_on : (b : Bool) (m : Meter) → x ≡ Ok (b, m) → b ≡ true → (c' l' h' w' t' ls' : List ℕ) (r : Turned) → IntoIs deck s part rows names c₁ l h w t ls fs n here (with_meter g m) c' l' h' w' t' ls' r
        → StepIs tested on deck rows names c' l' h' w' t' ls' here r.frames again B r.step
    in_on b m ex eb c' l' h' w' t' ls' r it =
        let z : F.onward tested G (F.into tested G n (world_in B c₁ l h m.used)) ≡ again = sym (again_is ∙ rw (ex, eb)) in
        subst (λ (v : Res Run.Stop F.Turn). StepIs tested on deck rows names c' l' h' w' t' ls' here r.frames v B r.step) z (it.is B (stage_on m (ap tested_meter ex)) i e inner on G entering)

    out_on : (b : Bool) (m : Meter) → x ≡ Ok (b, m) → b ≡ false → StepIs tested on deck rows names c₁ l h w t ls here fs again B (Ok (St.On (Up n) (with_meter g m)))
    out_on b m ex eb = behind_step deck rows names c₁ l h w t ls here (with_meter g m) B inner on G fs n again (stage_on m (ap tested_meter ex)) part e (record { within = at.within; framed = at.framed }) (again_is ∙ rw (ex, eb))

    bad_again : (v : Why) (m : Meter) → x ≡ Err (v, m) → (p : ℕ) → (row_in part n).place ≡ p → StepIs tested on deck rows names c₁ l h w t ls here fs again B (Err ((record { why = v; member = here.member; place = p }), (with_meter g m)))
    bad_again v m ex p ep =
        let q : (F.at tested n).place ≡ p = sym (machine_written deck s rows names c l h w t ls here g B st i inner on n at.within).place ∙ ap (λ (k : List ℕ). (row_in k n).place) (sym e) ∙ ep in
        fault_step deck rows names c₁ l h w t ls here (with_meter g m) B inner on G fs n again v p q (again_is ∙ rw ex)

  pub again_in_lem : (b : Bool) (m : Meter) → x ≡ Ok (b, m) → b ≡ true → (k : Progress) → k ≡ with_meter g m → (c' l' h' w' t' ls' : List ℕ) (r : Turned) → IntoIs deck s part rows names c₁ l h w t ls fs n here k c' l' h' w' t' ls' r
      → AgainIs deck s part rows names c l h w t ls fs n here g c' l' h' w' t' ls' r
  again_in_lem b m ex eb k ek c' l' h' w' t' ls' r it = record { is = λ B st i e inner on G at. in_on B st i e inner on G at b m ex eb c' l' h' w' t' ls' r (rw ek at it) }

  pub again_out : (b : Bool) (m : Meter) → x ≡ Ok (b, m) → b ≡ false → (k : Progress) → k ≡ with_meter g m → (r : Turned) → r ≡ turned_by fs (Ok (St.On (Up n) k)) → AgainIs deck s part rows names c l h w t ls fs n here g c₁ l h w t ls r
  again_out b m ex eb k ek r er = rw (er, ek) record { is = λ B st i e inner on G at. out_on B st i e inner on G at b m ex eb }

  pub again_bad : (v : Why) (m : Meter) → x ≡ Err (v, m) → (k : Progress) → k ≡ with_meter g m → (y : Row) → y ≡ row_in part n → (r : Turned) → r ≡ refused_at fs k v here.member y.place → AgainIs deck s part rows names c l h w t ls fs n here g c₁ l h w t ls r
  again_bad v m ex k ek y ey r er = rw (er, ek) record { is = λ B st i e inner on G at. bad_again B st i e inner on G at v m ex y.place (ap (λ (z : Row). z.place) (sym ey)) }
