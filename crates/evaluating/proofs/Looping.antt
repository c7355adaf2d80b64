-- The turns of a body, and its loop: every turn that goes on takes a step, so that the turns are enough.
-- Assumes nothing.
use Rattle.bodies.specs.Types.{Tested}
use Rattle.std.proofs.Common.{Ok, Err, Result}
use Rattle.operands.specs.Types.{Evaluated}
use mathlib.Core.Path.{◌≡◌, refl, sym, ap, subst, ◌∙◌}
use mathlib.Core.Bool.{Bool, true, false}
use mathlib.Core.List.{List, []}
use Prim.Native.Nat.{ℕ, zero, suc, ◌+◌, ◌-◌, ◌<◌, ◌≤◌}
use native.Mathlib.Omega.{arith}
use borrow.Author.Tests.{ltb-true}
use lib.Dec.{ltb}
use lib.IntN.{ℤ}
use lib.ListN.{length}
use Rattle.definition.specs.Choice.{when}
use Rattle.definition.specs.Fixed as Fx
use Rattle.definition.specs.Steps.{is_left, used_after}
use Rattle.definition.specs.Program as D
use Rattle.definition.specs.Values as Val
use Rattle.definition.specs.World as W
use Rattle.definition.specs.World.{World, Res, good, bad, bind, ask, placed, row_of, rows_of}
use Rattle.definition.specs.Flow as F
use Rattle.definition.specs.Flow.{Machine}
use Rattle.definition.specs.Calls as Calls
use Rattle.definition.specs.Calls.{body_machine, body_run}
use Rattle.definition.specs.declared.Why.{Why}
use Rattle.definition.specs.declared.Why.TheVariants.{NoStep, WronglyRun, WrongGoto}
use Rattle.definition.proofs.Thrift.{used_by, statement_used}
use Rattle.meter.specs.declared.Meter.{Meter}
use Rattle.meter.specs.Charges.{ChargedAs}
use Rattle.names.specs.declared.Place.{Place}
use Rattle.rows.specs.declared.Row.{Row}
use Rattle.rows.specs.Table.{row_in}
use Rattle.callees.specs.Shown.{world_in}
use Rattle.callees.specs.Answer.{on_of}
use Rattle.flow.specs.declared.Frame.{Frame}
use Rattle.flow.specs.declared.Frames.{Frames}
use Rattle.flow.specs.declared.Next.{Next}
use Rattle.flow.specs.declared.Next.TheVariants.{Begin, Again, Over}
use Rattle.flow.specs.Walks as C
use Rattle.flow.specs.Walks.{frame_in}
use Rattle.flow.specs.Shown as Fl
use Rattle.flow.specs.Shown.{next_from, FrameOf, link_of, Linked, AtTest, AtNext, stepped_on, having}
use Rattle.flow.proofs.Framing.{stepped_own, framed_start}
use Rattle.flow.proofs.Arriving.{first_stands}
use Rattle.operators.specs.declared.Value.{Value}
use Rattle.operators.specs.Stands.{size_for, value_in}
use Rattle.operands.specs.declared.Scene.{Scene}
use Rattle.operands.specs.Shown.{Shows}
use Rattle.operands.specs.Answer.{Gave, run_in}
use Rattle.bodies.specs.declared.Step.{Step}
use Rattle.bodies.specs.declared.Step.TheVariants as St
use Rattle.bodies.specs.declared.Turned.{Turned}
use Rattle.bodies.specs.Deeds.{Leaves, tested_in}
use Rattle.bodies.specs.Groups.{Framing, SteppedIs}
use Rattle.bodies.specs.Ways.{turned_by, after_test, again_in}
use Rattle.bodies.proofs.Stepping.{after_none, charge_left, charge_none}
use Rattle.evaluating.specs.Cycle.{BodyIs}
use Rattle.evaluating.specs.Statements.{InBody, body_of, TurnsTo, step_meter, StatementIs, returns_of, TurnIs}
use Rattle.evaluating.proofs.Bodying.{placed_same}
use Rattle.evaluating.proofs.Ways.{behind_goes, behind_at, into_goes, into_at}
use Rattle.operands.proofs.Trees.{clash}

-- ---- the meter
paid_is : (m k : Meter) → ChargedAs m (Ok k) → (n : ℕ) → m.limit ≡ n → (is_left n m.used ≡ true) × (used_after n m.used ≡ k.used)
paid_is m k ch n e = (ap (λ (i : ℕ). is_left i m.used) (sym e) ∙ sym ch.is.paid, ap (λ (i : ℕ). used_after i m.used) (sym e) ∙ sym ch.is.used)

after_one : (n k : ℕ) → is_left n k ≡ true → used_after n k ≡ suc k
unfolding used_after
after_one n k e = let f : k + 1 ≡ suc k = omega arith in rw e f

left_less : (n k : ℕ) → is_left n k ≡ true → k < n
unfolding is_left
left_less n k e = ltb-true k n e

-- a charge that is paid
pub record Spends (w v : World) : Type 0 where
  pub left : w.used < w.limit
  pub used : v.used ≡ suc w.used

charge_spends : (w v : World) → W.charge w ≡ good tt v → Spends w v
charge_spends w v e = by (is_left w.limit w.used) refl
  where
    by : (b : Bool) → is_left w.limit w.used ≡ b → Spends w v
    by true i =
        let g : good tt (W.with_used (used_after w.limit w.used) w) ≡ good tt v = sym (charge_left w i) ∙ e in
        let f : W.with_used (used_after w.limit w.used) w ≡ v = cc in
        record { left = left_less w.limit w.used i; used = ap (λ (j : World). j.used) (sym f) ∙ after_one w.limit w.used i }
    by false i = clash (let g : bad NoStep w.used ≡ good tt v = sym (charge_none w i) ∙ e in cc)

charge_limit : (w v : World) → W.charge w ≡ good tt v → v.limit ≡ w.limit
unfolding W.charge
charge_limit w v e = by (is_left w.limit w.used) e
  where
    by : (b : Bool) → ◌≡◌ {A = Res Why (Unit {0})} (when b (λ _. good tt (W.with_used (used_after w.limit w.used) w)) (λ _. bad NoStep w.used)) (good tt v) → v.limit ≡ w.limit
    by true f = let g : W.with_used (used_after w.limit w.used) w ≡ v = cc in ap (λ (j : World). j.limit) (sym g)
    by false f = clash (cc)

-- another test takes a step
stepped_spends : (d : F.Frame) (w v : World) (b : Bool) → stepped_on d w ≡ good b v → Spends w v
unfolding stepped_on
stepped_spends d w v b e = by (W.value_at d.at w) e
  where
    charged : (y : ℤ) (R : Res Why (Unit {0})) → W.charge (W.store d.at (Val.fixed y) w) ≡ R → bind R (λ _ x. good (F.passes d y) x) ≡ good b v → Spends w v
    charged y (good tt z) q f =
        let g : z ≡ v = cc in
        let s : Spends (W.store d.at (Val.fixed y) w) z = charge_spends (W.store d.at (Val.fixed y) w) z q in
        record { left = s.left; used = ap (λ (j : World). j.used) (sym g) ∙ s.used }
    charged y (bad g n) q f = clash (cc)

    added : (A : Val.Answer ℤ) → bind (ask A w) (λ y x. bind (W.charge (W.store d.at (Val.fixed y) x)) (λ _ z. good (F.passes d y) z)) ≡ good b v → Spends w v
    added (Val.gives y) f = charged y (W.charge (W.store d.at (Val.fixed y) w)) refl f
    added (Val.fails g) f = clash (cc)

    by : (a : W.Cell) → Fl.number_of a w (λ z. bind (ask (Val.from_fixed (Fx.sum z d.step)) w) (λ y x. bind (W.charge (W.store d.at (Val.fixed y) x)) (λ _ z. good (F.passes d y) z))) ≡ good b v → Spends w v
    by W.no_value f = clash (cc)
    by (W.holds a) f = added (Val.from_fixed (Fx.sum (Val.as_number a) d.step)) f

-- ---- what a turn leads to is no end of the list
returns_turns : (M : Machine Why) (t : List ℕ) (B : World) (u : ℕ) (c l h w : List ℕ) (R : Res Why F.Turn) (fs : Frames) (y : Result Step (Why × Meter)) → TurnsTo M t B u c l h w R fs y → TurnsTo M t B u c l h w (returns_of R) fs y
returns_turns M t B u c l h w R fs (Ok (St.On y m)) k = (k.0, ap returns_of k.1, k.2)
returns_turns M t B u c l h w R fs (Ok (St.Gave v m)) k = (ap returns_of k.0, k.1)
returns_turns M t B u c l h w R fs (Err (e, m)) k = ap returns_of k

-- ---- a group that is tested again: into it or behind it, where nothing is put out on the way
module _ (deck s t rows names c l h w : List ℕ) (p : Place) (fs : Frames) (u : ℕ) (x : Scene) (m : Meter) (B : World) (sh : Shows deck rows names c l h w u x m B) (ib : InBody deck s t rows x p B)
    (G : List F.Frame) (g : ℕ) (at : AtTest (body_of x p u B) t B.denotations fs G g) where
  abbrev machine : Machine Why
  machine = body_of x p u B

  abbrev lines : List D.Row
  lines = rows_of p.member B

  shown : Fl.Shown t lines
  shown = rw ib.part (sh.rowed.shown p.member)

  linked : Linked lines
  linked = sh.rowed.linked p.member

  own : D.is_iterated (row_of lines g).statement ≡ true → FrameOf B.denotations (frame_in t fs g) g G
  own j = having at.own

  abbrev goes : Bool → World → Res Why F.Turn
  goes o v = when o (λ _. F.onward machine G (F.into machine G g v)) (λ _. F.onward machine G (F.behind machine G g v))

  goes_on_lem : (o : Bool) (v : World) → goes o v ≡ good (F.on (next_from (again_in t fs g o)) G) v
  unfolding again_in body_machine
  goes_on_lem true v = ap (F.onward machine G) (into_goes x p u B t shown linked fs G g at.within at.framed own v)
  goes_on_lem false v = ap (F.onward machine G) (behind_goes x p u B t shown linked fs G g at.within at.framed v)

  on_at : (o : Bool) → AtNext machine t B.denotations fs G (again_in t fs g o)
  unfolding again_in body_machine
  on_at true = into_at x p u B t shown linked fs G g at.within at.framed own
  on_at false = behind_at x p u B t shown linked fs G g at.within at.framed

-- ---- a turn
module _ (deck s t rows names c l h w : List ℕ) (p : Place) (y : Next) (fs : Frames) (u : ℕ) (x : Scene) (m : Meter) where
  pub turn_over : y ≡ Over → (r : Turned) → r ≡ turned_by fs (Err (WronglyRun, m)) → TurnIs deck s t rows names c l h w p y fs u x m c l h w r
  unfolding F.turn
  turn_over e r er = rw (er, e) record { is = λ B sh ib G at. (refl, record { below = refl; limit = sh.limit; slots = sh.slots }) }

  module _ (n : ℕ) (e : y ≡ Begin n) where
    turn_is : (B : World) (G : List F.Frame) (R : Res Why (Unit {0})) → W.charge (world_in B c l h m.used) ≡ R
        → F.turn (body_of x p u B) (F.begin n) G (world_in B c l h m.used) ≡ bind R (λ _ v. F.statement (body_of x p u B) (row_of (rows_of p.member B) n).statement G n v)
    unfolding F.turn body_machine
    turn_is B G R q = ap (λ (i : Res Why (Unit {0})). bind i (λ _ v. F.statement (body_of x p u B) (row_of (rows_of p.member B) n).statement G n v)) (placed_same (W.charge (world_in B c l h m.used)) ∙ q)

    pub turn_due : (q : Why) (k : Meter) → ChargedAs m (Err (q, k)) → (r : Turned) → r ≡ turned_by fs (Err (q, k)) → TurnIs deck s t rows names c l h w p y fs u x m c l h w r
    turn_due q k ch r er = rw (er, e, ch.why q k refl) record {
      is = λ B sh ib G at.
          let lf : is_left m.limit m.used ≡ false = sym ch.is.paid in
          let lg : is_left B.limit m.used ≡ false = ap (λ (i : ℕ). is_left i m.used) (sym sh.limit) ∙ lf in
          let us : k.used ≡ m.used = ch.is.used ∙ after_none m.limit m.used lf in (
            ap returns_of (turn_is B G (bad NoStep m.used) (charge_none (world_in B c l h m.used) lg)) ∙ ap (λ (i : ℕ). bad NoStep i) (sym us),
            record { below = refl; limit = ch.is.limit ∙ sh.limit; slots = sh.slots },
          );
    }

    pub turn_begin : (k : Meter) → ChargedAs m (Ok k) → (c' l' h' w' : List ℕ) (r : Turned) → StatementIs deck s t rows names c l h w p n fs u x k c' l' h' w' r → TurnIs deck s t rows names c l h w p y fs u x m c' l' h' w' r
    turn_begin k ch c' l' h' w' r si = rw e record {
      is = λ B sh ib G at.
          let pi : (is_left B.limit m.used ≡ true) × (used_after B.limit m.used ≡ k.used) = paid_is m k ch B.limit sh.limit in
          let sh₁ : Shows deck rows names c l h w u x k B = record { named = sh.named; rowed = sh.rowed; slots = sh.slots; work = sh.work; taken = sh.taken; limit = ch.is.limit ∙ sh.limit; left = sh.left } in
          let S₁ : TurnsTo (body_of x p u B) t B u c' l' h' w' (F.statement (body_of x p u B) (row_of (rows_of p.member B) n).statement G n (world_in B c l h k.used)) r.frames r.step × Leaves B u w c' l' h' w' (step_meter r.step) = si.is B sh₁ ib G (at.begin n refl) in
          let R : F.turn (body_of x p u B) (F.begin n) G (world_in B c l h m.used) ≡ F.statement (body_of x p u B) (row_of (rows_of p.member B) n).statement G n (world_in B c l h k.used) =
          turn_is B G (good tt (W.with_used (used_after B.limit m.used) (world_in B c l h m.used))) (charge_left (world_in B c l h m.used) pi.0)
          ∙ ap (λ (i : ℕ). F.statement (body_of x p u B) (row_of (rows_of p.member B) n).statement G n (world_in B c l h i)) pi.1 in
          (subst (λ (i : Res Why F.Turn). TurnsTo (body_of x p u B) t B u c' l' h' w' (returns_of i) r.frames r.step) (sym R) (returns_turns (body_of x p u B) t B u c' l' h' w' _ r.frames r.step S₁.0), S₁.1);
    }

  module _ (g : ℕ) (e : y ≡ Again g) (f : Frame) (ef : f ≡ frame_in t fs g) (c' : List ℕ) (b : Tested) (si : SteppedIs c f m c' b) where
    module _ (B : World) (sh : Shows deck rows names c l h w u x m B) (ib : InBody deck s t rows x p B) (G : List F.Frame) (at : AtTest (body_of x p u B) t B.denotations fs G g) where
      framing : Framing B c l h f m at.own.frame
      framing = record { slots = sh.slots; variable = rw (ef, at.own.shown.address) at.own.variable; limit = sh.limit; frame = rw ef at.own.shown }

      turn_again_is : F.turn (body_of x p u B) (F.again g) G (world_in B c l h m.used) ≡ bind (tested_in B c' l h b) (goes deck s t rows names c l h w p fs u x m B sh ib G g at)
      unfolding F.turn body_machine
      turn_again_is = ap (λ (i : Res Why Bool). bind i (goes deck s t rows names c l h w p fs u x m B sh ib G g at)) (placed_same (F.stepped (body_of x p u B) g G (world_in B c l h m.used)) ∙ stepped_own (body_of x p u B) g at.own.frame G (world_in B c l h m.used) at.own.newest ∙ sym (si.is B l h at.own.frame framing).0)

      again_by : (a : Tested) → b ≡ a → TurnsTo (body_of x p u B) t B u c' l h w (returns_of (F.turn (body_of x p u B) (F.again g) G (world_in B c l h m.used))) fs (after_test a (λ o. again_in t fs g o)) × Leaves B u w c' l h w (step_meter (after_test a (λ o. again_in t fs g o)))
      again_by (Ok (o, k)) q =
          let R : F.turn (body_of x p u B) (F.again g) G (world_in B c l h m.used) ≡ good (F.on (next_from (again_in t fs g o)) G) (world_in B c' l h k.used) = turn_again_is ∙ rw q (goes_on_lem deck s t rows names c l h w p fs u x m B sh ib G g at o (world_in B c' l h k.used)) in (
            (G, ap returns_of R, on_at deck s t rows names c l h w p fs u x m B sh ib G g at o),
            record { below = refl; limit = rw q at (si.is B l h at.own.frame framing).1; slots = (si.is B l h at.own.frame framing).2 },
          )
      again_by (Err (z, k)) q =
          let R : F.turn (body_of x p u B) (F.again g) G (world_in B c l h m.used) ≡ bad z k.used = turn_again_is ∙ rw q in
          (ap returns_of R, record { below = refl; limit = rw q at (si.is B l h at.own.frame framing).1; slots = (si.is B l h at.own.frame framing).2 })

    pub turn_again : (r : Turned) → r ≡ turned_by fs (after_test b (λ o. again_in t fs g o)) → TurnIs deck s t rows names c l h w p y fs u x m c' l h w r
    turn_again r er = rw (er, e) record { is = λ B sh ib G at. again_by B sh ib G (at.again g refl) b refl }

-- ---- what comes of a turn
returns_on : (R : Res Why F.Turn) (a : F.Next) (G : List F.Frame) (v : World) → returns_of R ≡ good (F.on a G) v → R ≡ good (F.on a G) v
returns_on (good (F.on b H) w) a G v e = e
returns_on (good (F.ended F.ran) w) a G v e = clash (cc)
returns_on (good (F.ended (F.returned z)) w) a G v e = clash (cc)
returns_on (good (F.ended (F.went q)) w) a G v e = clash (cc)
returns_on (bad f n) a G v e = clash (cc)

value_bad : (M : Machine Why) (R : Res Why F.Turn) (k : F.Next → List F.Frame → World → Res Why F.End) (f : Why) (n : ℕ) → returns_of R ≡ bad f n → Calls.value_of (F.continued M R k) ≡ bad f n
value_bad M (good (F.on b H) w) k f n e = clash (cc)
value_bad M (good (F.ended F.ran) w) k f n e = let i : WronglyRun ≡ f = cc in let j : w.used ≡ n = cc in rw (i, j)
value_bad M (good (F.ended (F.returned z)) w) k f n e = clash (cc)
value_bad M (good (F.ended (F.went q)) w) k f n e = let i : WrongGoto ≡ f = cc in let j : w.used ≡ n = cc in rw (i, j)
value_bad M (bad g i) k f n e = let a : g ≡ f = cc in let b : i ≡ n = cc in rw (a, b)

value_returned : (M : Machine Why) (R : Res Why F.Turn) (k : F.Next → List F.Frame → World → Res Why F.End) (z : Val.Value) (v : World) → returns_of R ≡ good (F.ended (F.returned z)) v → Calls.value_of (F.continued M R k) ≡ good z v
value_returned M (good (F.on b H) w) k z v e = clash (cc)
value_returned M (good (F.ended F.ran) w) k z v e = clash (cc)
value_returned M (good (F.ended (F.returned a)) w) k z v e = let i : a ≡ z = cc in let j : w ≡ v = cc in rw (i, j)
value_returned M (good (F.ended (F.went q)) w) k z v e = clash (cc)
value_returned M (bad g i) k z v e = clash (cc)

-- ---- the definition's turns
run_step : (M : Machine Why) (f : ℕ) (y : F.Next) (G : List F.Frame) (w : World) → F.run_on M (suc f) y G w ≡ F.continued M (F.turn M y G w) (λ a H v. F.run_on M f a H v)
unfolding F.run_on F.turn
run_step M f (F.begin n) G w = refl
run_step M f (F.again g) G w = refl
run_step M f F.no_next G w = refl

not_left : (n k : ℕ) → n - k ≤ 0 → is_left n k ≡ false
unfolding is_left
not_left n k h = by (ltb k n) refl
  where
    by : (b : Bool) → ltb k n ≡ b → ltb k n ≡ false
    by true e = absurd (omega (arith, h, ltb-true k n e))
    by false e = e

-- a turn that ends the run ends it, however many turns are left
ends_as : (x : Scene) (p : Place) (u : ℕ) (B : World) (fuel : ℕ) (y : F.Next) (G : List F.Frame) (w : World) (R : Res Why Val.Value) → w.limit - w.used ≤ fuel
    → ((k : F.Next → List F.Frame → World → Res Why F.End) → Calls.value_of (F.continued (body_of x p u B) (F.turn (body_of x p u B) y G w) k) ≡ R) → Calls.value_of (F.run_on (body_of x p u B) fuel y G w) ≡ R
unfolding F.run_on F.turn body_machine
ends_as x p u B (suc f) y G w R h k = ap Calls.value_of (run_step (body_of x p u B) f y G w) ∙ k (λ a H v. F.run_on (body_of x p u B) f a H v)
ends_as x p u B zero (F.begin n) G w R h k =
    let c₁ : W.charge w ≡ bad NoStep w.used = charge_none w (not_left w.limit w.used h) in
    rw c₁ at (k (λ a H v. bad NoStep 0))
ends_as x p u B zero (F.again g) G w R h k = k (λ a H v. bad NoStep v.used)
ends_as x p u B zero F.no_next G w R h k = k (λ a H v. bad NoStep 0)

-- ---- a turn that goes on takes a step
pub record Advances (w v : World) : Type 0 where
  pub left : w.used < w.limit
  pub more : w.used < v.used

module _ (x : Scene) (p : Place) (u : ℕ) (B : World) where
  -- a statement gives no steps back
  statement_more : (st : D.Statement) (G : List F.Frame) (n : ℕ) (w : World) → w.used ≤ w.limit → (a : F.Turn) (v : World) → F.statement (body_of x p u B) st G n w ≡ good a v → w.used ≤ v.used
  statement_more st G n w h a v e =
      let s : w.used ≤ used_by (F.statement (body_of x p u B) st G n w) = (statement_used w h x.running.left (on_of x.running) p.member p.row u (rows_of p.member B) st G n).0 in
      rw e at s

  begin_advances : (n : ℕ) (G : List F.Frame) (w : World) (a : F.Turn) (v : World) → F.turn (body_of x p u B) (F.begin n) G w ≡ good a v → Advances w v
  unfolding F.turn body_machine
  begin_advances n G w a v e = by (W.charge w) refl e
    where
      by : (R : Res Why (Unit {0})) → W.charge w ≡ R → bind (placed (λ i. i) R) (λ _ z. F.statement (body_of x p u B) (row_of (rows_of p.member B) n).statement G n z) ≡ good a v → Advances w v
      by (bad f i) q g = clash (cc)
      by (good tt z) q g =
          let s : Spends w z = charge_spends w z q in
          let lz : z.limit ≡ w.limit = charge_limit w z q in
          let m : z.used ≤ v.used = statement_more (row_of (rows_of p.member B) n).statement G n z (omega (arith, s.left, s.used, lz)) a v g in
          record { left = s.left; more = omega (arith, s.used, m) }

-- another test: its steps are those of the test, since nothing is put out on the way
module _ (deck s t rows names c l h w : List ℕ) (p : Place) (fs : Frames) (u : ℕ) (x : Scene) (m : Meter) (B : World) (sh : Shows deck rows names c l h w u x m B) (ib : InBody deck s t rows x p B)
    (G : List F.Frame) (g : ℕ) (at : AtTest (body_of x p u B) t B.denotations fs G g) where
  again_advances : (a : F.Turn) (v : World) → F.turn (body_of x p u B) (F.again g) G (world_in B c l h m.used) ≡ good a v → Advances (world_in B c l h m.used) v
  unfolding F.turn body_machine
  again_advances a v e = by (stepped_on at.own.frame (world_in B c l h m.used)) refl (rw (stepped_own (body_of x p u B) g at.own.frame G (world_in B c l h m.used) at.own.newest) at e)
    where
      by : (R : Res Why Bool) → stepped_on at.own.frame (world_in B c l h m.used) ≡ R
          → bind (placed (λ i. i) R) (λ o z. when o (λ _. F.onward (body_of x p u B) G (F.into (body_of x p u B) G g z)) (λ _. F.onward (body_of x p u B) G (F.behind (body_of x p u B) G g z))) ≡ good a v → Advances (world_in B c l h m.used) v
      by (bad f i) q k = clash (cc)
      by (good o z) q k =
          let j : good (F.on (next_from (again_in t fs g o)) G) z ≡ good a v = sym (goes_on_lem deck s t rows names c l h w p fs u x m B sh ib G g at o z) ∙ k in
          let i : z ≡ v = cc in
          let d : Spends (world_in B c l h m.used) z = stepped_spends at.own.frame (world_in B c l h m.used) z o q in
          record { left = d.left; more = rw (← i) (omega (arith, d.used)) }

-- ---- THE LOOP. c₀ to w₀ and m₀ are the rooms and the meter that the body began with
module _ (deck s t rows names c₀ l₀ h₀ w₀ : List ℕ) (p : Place) (u : ℕ) (x : Scene) (m₀ : Meter) where
  abbrev whole : World → Res Why Val.Value
  whole B = body_run (run_in x) p.member p.row u (world_in B c₀ l₀ h₀ m₀.used)

  -- what is left of the definition's run is the whole of it
  pub record Going (B : World) (turns : ℕ) (y : Next) (fs : Frames) (m : Meter) (c l h w : List ℕ) : Type 0 where
    pub frames : List F.Frame
    pub fuel : ℕ
    pub turns_are : turns ≡ suc fuel
    pub enough : B.limit - m.used ≤ fuel
    pub same : Calls.value_of (F.run_on (body_of x p u B) fuel (next_from y) frames (world_in B c l h m.used)) ≡ whole B
    pub at : AtNext (body_of x p u B) t B.denotations fs frames y
    pub leaves : Leaves B u w₀ c l h w m

  pub record Runs (turns : ℕ) (y : Next) (fs : Frames) (m : Meter) (c l h w : List ℕ) : Type 0 where
    pub is : (B : World) → Shows deck rows names c₀ l₀ h₀ w₀ u x m₀ B → InBody deck s t rows x p B → Going B turns y fs m c l h w
    pub work_size : length w ≡ length w₀

  first_is : (a : D.Link) → next_from (C.first_of (link_of a)) ≡ Calls.first_of a
  unfolding C.first_of
  first_is D.nowhere = refl
  first_is (D.row n) = refl

  module _ (q : Row) (eq : q ≡ row_in t p.row) (y : Next) (ey : y ≡ C.first_of q.child) (fs : Frames) (ef : fs ≡ C.no_frames) (k : ℕ) (ek : k ≡ suc (m₀.limit - m₀.used)) where
    begun : (B : World) → Shows deck rows names c₀ l₀ h₀ w₀ u x m₀ B → InBody deck s t rows x p B → Going B k y fs m₀ c₀ l₀ h₀ w₀
    unfolding body_run body_machine
    begun B sh ib =
        let shown : Fl.Shown t (rows_of p.member B) = rw ib.part (sh.rowed.shown p.member) in
        let child : q.child ≡ link_of (row_of (rows_of p.member B) p.row).child = rw eq (shown.rows p.row ib.procedure.within).child in
        let ye : y ≡ C.first_of (link_of (row_of (rows_of p.member B) p.row).child) = ey ∙ ap C.first_of child in
        record {
          frames = [];
          fuel = B.limit - m₀.used;
          turns_are = ek ∙ ap (λ (i : ℕ). suc (i - m₀.used)) sh.limit;
          enough = omega arith;
          same = ap (λ (i : F.Next). Calls.value_of (F.run_on (body_of x p u B) (B.limit - m₀.used) i [] (world_in B c₀ l₀ h₀ m₀.used))) (ap next_from ye ∙ first_is (row_of (rows_of p.member B) p.row).child);
          at = rw (ye, ef) (first_stands (body_of x p u B) t B.denotations C.no_frames [] (row_of (rows_of p.member B) p.row).child (λ n e.
              record { within = ((sh.rowed.linked p.member).child p.row n ib.procedure.within e).within; framed = framed_start (body_of x p u B) t B.denotations n }));
          leaves = record { below = refl; limit = sh.limit; slots = sh.slots };
        }

    pub runs_start : Runs k y fs m₀ c₀ l₀ h₀ w₀
    runs_start = record { is = begun; work_size = refl }

  module _ (turns : ℕ) (y : Next) (fs : Frames) (m : Meter) (c l h w : List ℕ) (ru : Runs turns y fs m c l h w) (c' l' h' w' : List ℕ) (r : Turned) (ti : TurnIs deck s t rows names c l h w p y fs u x m c' l' h' w' r) where
    module _ (B : World) (sh : Shows deck rows names c₀ l₀ h₀ w₀ u x m₀ B) (ib : InBody deck s t rows x p B) where
      go : Going B turns y fs m c l h w
      go = ru.is B sh ib

      now_shows : Shows deck rows names c l h w u x m B
      now_shows = record { named = sh.named; rowed = sh.rowed; slots = go.leaves.slots; work = omega (arith, ru.work_size, sh.work); taken = sh.taken; limit = go.leaves.limit; left = sh.left }

      abbrev turned : Res Why F.Turn
      turned = F.turn (body_of x p u B) (next_from y) go.frames (world_in B c l h m.used)

      done : TurnsTo (body_of x p u B) t B u c' l' h' w' (returns_of turned) r.frames r.step × Leaves B u w c' l' h' w' (step_meter r.step)
      done = ti.is B now_shows ib go.frames go.at

      leaves_now : (k : Meter) → step_meter r.step ≡ k → Leaves B u w₀ c' l' h' w' k
      leaves_now k e = rw (← e) record { below = done.1.below ∙ go.leaves.below; limit = done.1.limit; slots = done.1.slots }

      advances : (z : Next) → y ≡ z → (a : F.Turn) (v : World) → F.turn (body_of x p u B) (next_from z) go.frames (world_in B c l h m.used) ≡ good a v → (a ≡ F.ended F.ran → ⊥) → Advances (world_in B c l h m.used) v
      unfolding F.turn
      advances (Begin n) i a v e ne = begin_advances x p u B n go.frames (world_in B c l h m.used) a v e
      advances (Again g) i a v e ne = again_advances deck s t rows names c l h w p fs u x m B now_shows ib go.frames g (go.at.again g i) a v e
      advances Over i a v e ne = absurd (ne (let j : F.ended F.ran ≡ a = cc in sym j))

      on_ran : (a : F.Next) (G : List F.Frame) → F.on a G ≡ F.ended F.ran → ⊥
      on_ran a G e = clash (cc)

      more_by : (z : Next) (k : Meter) → r.step ≡ Ok (St.On z k) → (f : ℕ) → go.fuel ≡ f → Going B (turns - 1) z r.frames k c' l' h' w'
      more_by z k e f ef =
          let d : (G : List F.Frame) × (returns_of turned ≡ good (F.on (next_from z) G) (world_in B c' l' h' k.used)) × AtNext (body_of x p u B) t B.denotations r.frames G z = subst (λ (i : Result Step (Why × Meter)). TurnsTo (body_of x p u B) t B u c' l' h' w' (returns_of turned) r.frames i) e done.0 in
          let T : turned ≡ good (F.on (next_from z) d.0) (world_in B c' l' h' k.used) = returns_on turned (next_from z) d.0 (world_in B c' l' h' k.used) d.1 in
          let ad : Advances (world_in B c l h m.used) (world_in B c' l' h' k.used) = advances y refl (F.on (next_from z) d.0) (world_in B c' l' h' k.used) T (on_ran (next_from z) d.0) in
          of f ef d T ad
        where
          of : (f : ℕ) → go.fuel ≡ f → (d : (G : List F.Frame) × (returns_of turned ≡ good (F.on (next_from z) G) (world_in B c' l' h' k.used)) × AtNext (body_of x p u B) t B.denotations r.frames G z)
              → turned ≡ good (F.on (next_from z) d.0) (world_in B c' l' h' k.used) → Advances (world_in B c l h m.used) (world_in B c' l' h' k.used) → Going B (turns - 1) z r.frames k c' l' h' w'
          of zero ef d T ad = absurd (omega (arith, go.enough, ef, ad.left))
          of (suc f) ef d T ad = record {
            frames = d.0;
            fuel = f;
            turns_are = omega (arith, go.turns_are, ef);
            enough = omega (arith, go.enough, ef, ad.more);
            same = ap (λ (i : Res Why F.Turn). Calls.value_of (F.continued (body_of x p u B) i (λ a H v. F.run_on (body_of x p u B) f a H v))) (sym T)
                ∙ sym (ap Calls.value_of (ap (λ (i : ℕ). F.run_on (body_of x p u B) i (next_from y) go.frames (world_in B c l h m.used)) ef ∙ run_step (body_of x p u B) f (next_from y) go.frames (world_in B c l h m.used))) ∙ go.same;
            at = d.2;
            leaves = leaves_now k (ap step_meter e);
          }

      gave_by : (v : Value) (k : Meter) → r.step ≡ Ok (St.Gave v k) → Gave B u w₀ c' l' h' w' (Ok (v, 0, k)) 0 (whole B)
      gave_by v k e =
          let d : (returns_of turned ≡ good (F.ended (F.returned (value_in w' u v))) (world_in B c' l' h' k.used)) × (u + size_for v ≤ 65536) = subst (λ (i : Result Step (Why × Meter)). TurnsTo (body_of x p u B) t B u c' l' h' w' (returns_of turned) r.frames i) e done.0 in
          let R : Calls.value_of (F.run_on (body_of x p u B) go.fuel (next_from y) go.frames (world_in B c l h m.used)) ≡ good (value_in w' u v) (world_in B c' l' h' k.used) =
          ends_as x p u B go.fuel (next_from y) go.frames (world_in B c l h m.used) _ go.enough (λ o. value_returned (body_of x p u B) turned o (value_in w' u v) (world_in B c' l' h' k.used) d.0) in
          let lv : Leaves B u w₀ c' l' h' w' k = leaves_now k (ap step_meter e) in
          record { is = sym R ∙ go.same; end = refl; below = lv.below; fits = d.1; limit = lv.limit; slots = lv.slots }

      bad_by : (f : Why) (k : Meter) → r.step ≡ Err (f, k) → Gave B u w₀ c' l' h' w' (Err (f, k)) 0 (whole B)
      bad_by f k e =
          let d : returns_of turned ≡ bad f k.used = subst (λ (i : Result Step (Why × Meter)). TurnsTo (body_of x p u B) t B u c' l' h' w' (returns_of turned) r.frames i) e done.0 in
          let R : Calls.value_of (F.run_on (body_of x p u B) go.fuel (next_from y) go.frames (world_in B c l h m.used)) ≡ bad f k.used =
          ends_as x p u B go.fuel (next_from y) go.frames (world_in B c l h m.used) _ go.enough (λ o. value_bad (body_of x p u B) turned o f k.used d) in
          let lv : Leaves B u w₀ c' l' h' w' k = leaves_now k (ap step_meter e) in
          record { is = sym R ∙ go.same; end = refl; below = lv.below; fits = omega (arith, sh.taken); limit = lv.limit; slots = lv.slots }

    pub runs_more : (z : Next) (k : Meter) → r.step ≡ Ok (St.On z k) → length w' ≡ length w → (fewer : ℕ) → fewer ≡ turns - 1 → Runs fewer z r.frames k c' l' h' w'
    runs_more z k e ew fewer ef = rw ef record {
      is = λ B sh ib. more_by B sh ib z k e (go B sh ib).fuel refl;
      work_size = ew ∙ ru.work_size;
    }

    pub runs_gave : (v : Value) (k : Meter) → r.step ≡ Ok (St.Gave v k) → BodyIs deck s t rows names c₀ l₀ h₀ w₀ u x m₀ p c' l' h' w' (Ok (v, 0, k))
    runs_gave v k e = record { is = λ B sh eo es et ip. gave_by B sh (record { owner = eo; body = es; part = et; procedure = ip }) v k e }

    pub runs_bad : (f : Why × Meter) → r.step ≡ Err f → BodyIs deck s t rows names c₀ l₀ h₀ w₀ u x m₀ p c' l' h' w' (Err f)
    runs_bad (f, k) e = record { is = λ B sh eo es et ip. bad_by B sh (record { owner = eo; body = es; part = et; procedure = ip }) f k e }

  -- the turns do not run out
  pub runs_end : (turns : ℕ) (y : Next) (fs : Frames) (m : Meter) (c l h w : List ℕ) → Runs turns y fs m c l h w → turns ≤ 0 → (a : Evaluated) → BodyIs deck s t rows names c₀ l₀ h₀ w₀ u x m₀ p c l h w a
  runs_end turns y fs m c l h w ru z a = record {
    is = λ B sh eo es et ip.
        let go : Going B turns y fs m c l h w = ru.is B sh (record { owner = eo; body = es; part = et; procedure = ip }) in
        absurd (omega (arith, z, go.turns_are));
  }
