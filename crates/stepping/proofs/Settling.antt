-- WHAT COMES OF A TURN: a walk is followed to what begins next; a GOTO out of the member, or a refusal, ends its rows.
-- Assumes nothing.
use Rattle.std.proofs.Common.{Ok, Err, Result}
use Rattle.stepping.specs.Types.{Onward}
use mathlib.Core.Path.{◌≡◌, refl, sym, ap, subst, ◌∙◌}
use mathlib.Core.List.{List}
use Prim.Native.Nat.{ℕ}
use lib.ListN.{length}
use Rattle.definition.specs.World.{World, Res, good, bad}
use Rattle.definition.specs.Flow as F
use Rattle.definition.specs.Calls.{Place}
use Rattle.definition.specs.Run as Run
use Rattle.names.specs.declared.Label.{Label}
use Rattle.flow.specs.declared.Frames.{Frames}
use Rattle.flow.specs.declared.Next.{Next}
use Rattle.flow.specs.declared.Walk.{Walk}
use Rattle.flow.specs.Shown.{next_from, AtNext, AtWalk}
use Rattle.callees.specs.Shown.{world_in}
use Rattle.texts.specs.declared.Progress.{Progress}
use Rattle.texts.specs.declared.Here.{Here}
use Rattle.texts.specs.declared.Stop.{Stop}
use Rattle.texts.specs.Shown.{stop_for, After}
use Rattle.stepping.specs.declared.Step.{Step}
use Rattle.stepping.specs.declared.Step.TheVariants as St
use Rattle.stepping.specs.declared.Ended.TheVariants as En
use Rattle.stepping.specs.declared.Settled.TheVariants as Se
use Rattle.stepping.specs.Stage.{InMember, part_here, machine_of, goes, target_for}
use Rattle.stepping.specs.Steps.{OnwardAs, FollowIs, Walks, Departs, StepNow, SettlesAs, SettleIs}
use Rattle.stepping.proofs.Staging.{later_none, next_later, stage_after, later_after}

module _ (deck s rows names c l h w t ls : List ℕ) (fs : Frames) (x : Result Step (Stop × Progress)) (here : Here) where
  -- ---- a walk
  module _ (y : Walk) (g : Progress) (ex : x ≡ Ok (St.On y g)) (part : List ℕ) (ep : part ≡ part_here rows here) (c' l' h' w' t' ls' : List ℕ) (o : Onward) (fo : FollowIs deck s part rows names c l h w t ls fs y here g c' l' h' w' t' ls' o) where
    module _ (B : World) (i : InMember deck s rows here B) (inner : Run.Level) (on : List Place) (R : Res Run.Stop F.Turn) (sn : StepNow (machine_of inner deck here.member on) on deck rows names c l h w t ls here fs R B x) where
      abbrev M : F.Machine Run.Stop
      M = machine_of inner deck here.member on

      walks : Walks M deck rows names c l h w t ls here fs y g R B
      walks = subst (StepNow M on deck rows names c l h w t ls here fs R B) ex sn

      abbrev led : Res Run.Stop F.Next
      led = goes M walks.frames y (world_in B c l h g.meter.used)

      followed : OnwardAs M deck rows names here fs walks.frames g B c' l' h' w' t' ls' o led
      followed = fo.is B walks.stage i ep inner on walks.frames (subst (λ (v : List ℕ). AtWalk M v B.denotations fs walks.frames y) (sym ep) walks.at)

      good_on : (z : Next) (k : Progress) → o ≡ Ok (z, k) → length c' ≡ length c → SettlesAs M on deck rows names c' l' h' w' t' ls' here fs R B (Se.On z k)
      good_on z k e ec =
          let q : After F.Next deck rows names here.starts g B c' l' h' w' t' ls' k (next_from z) led × AtNext M (part_here rows here) B.denotations fs walks.frames z = subst (λ (v : Onward). OnwardAs M deck rows names here fs walks.frames g B c' l' h' w' t' ls' v led) e followed in
          let a : After F.Next deck rows names here.starts g B c' l' h' w' t' ls' k (next_from z) led = q.0 in
          let later = later_after deck rows names c l h w t ls here.starts g B walks.stage c' l' h' w' t' ls' k (next_from z) led a in
          record {
            world = a.world;
            later = later;
            sentences = a.goes.sentences;
            now = record {
              stage = stage_after deck rows names c l h w t ls here.starts g B walks.stage c' l' h' w' t' ls' k (next_from z) led a ec;
              frames = walks.frames;
              is = walks.is ∙ ap (F.onward M walks.frames) a.is;
              at = next_later B a.world later z q.1;
            };
          }

      bad_on : (z : Stop) (k : Progress) → o ≡ Err (z, k) → SettlesAs M on deck rows names c' l' h' w' t' ls' here fs R B (Se.End (Err (z, k)))
      bad_on z k e =
          let q : led ≡ bad (stop_for z) k.meter.used = subst (λ (v : Onward). OnwardAs M deck rows names here fs walks.frames g B c' l' h' w' t' ls' v led) e followed in
          record { world = B; later = later_none B; sentences = refl; now = (bad (stop_for z) k.meter.used, walks.is ∙ ap (F.onward M walks.frames) q, refl) }

    pub settle_next : (z : Next) (k : Progress) → o ≡ Ok (z, k) → length c' ≡ length c → SettleIs deck s rows names c l h w t ls fs x here c' l' h' w' t' ls' (Se.On z k)
    settle_next z k e ec = record { is = λ B i inner on R sn. good_on B i inner on R sn z k e ec }

    pub settle_refused : (z : Stop) (k : Progress) → o ≡ Err (z, k) → SettleIs deck s rows names c l h w t ls fs x here c' l' h' w' t' ls' (Se.End (Err (z, k)))
    settle_refused z k e = record { is = λ B i inner on R sn. bad_on B i inner on R sn z k e }

  -- ---- the rows end
  pub settle_went : (y : Label) (g : Progress) → x ≡ Ok (St.Went y g) → SettleIs deck s rows names c l h w t ls fs x here c l h w t ls (Se.End (Ok (En.Went y g)))
  settle_went y g ex = record {
    is = λ B i inner on R sn.
        let z : Departs on deck rows names c l h w t ls here y g R B = subst (StepNow (machine_of inner deck here.member on) on deck rows names c l h w t ls here fs R B) ex sn in
        record { world = B; later = later_none B; sentences = refl; now = (good (F.went (target_for y)) (world_in B c l h g.meter.used), z.is, record { stage = z.stage; is = refl; reaches = z.reaches }) };
  }

  pub settle_bad : (y : Stop) (g : Progress) → x ≡ Err (y, g) → SettleIs deck s rows names c l h w t ls fs x here c l h w t ls (Se.End (Err (y, g)))
  settle_bad y g ex = record {
    is = λ B i inner on R sn.
        let z : R ≡ bad (stop_for y) g.meter.used = subst (StepNow (machine_of inner deck here.member on) on deck rows names c l h w t ls here fs R B) ex sn in
        record { world = B; later = later_none B; sentences = refl; now = (bad (stop_for y) g.meter.used, z, refl) };
  }
