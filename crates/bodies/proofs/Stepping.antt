-- An iterated group that is tested again: the variable is stepped, the step is charged, then it is tested.
-- Assumes nothing.
use Rattle.fixed.specs.declared.FixedError.TheVariants as Fe
use Rattle.fixed.specs.declared.FixedError.{FixedError}
use Rattle.bodies.specs.Types.{Tested}
use Rattle.std.proofs.Common.{Some, None, Option, Ok, Err, Result}
use mathlib.Core.Path.{◌≡◌, refl, sym, ap, ◌∙◌}
use mathlib.Core.Bool.{Bool, true, false, cond}
use mathlib.Core.List.{List, [], ◌∷◌}
use Prim.Native.Nat.{ℕ, ◌+◌}
use native.Mathlib.Nat.{zero-add}
use lib.IntN.{ℤ}
use lib.ListN.{get_or}
use Rattle.definition.specs.Room.{over}
use Rattle.definition.specs.Fixed as Fx
use Rattle.definition.specs.Steps.{is_left, used_after}
use Rattle.definition.specs.Values as Val
use Rattle.definition.specs.World as W
use Rattle.definition.specs.World.{World, Res, good, bad, bind}
use Rattle.definition.specs.Flow as F
use Rattle.definition.specs.declared.Why.{Why}
use Rattle.definition.specs.declared.Why.TheVariants.{NoValue, NoStep, OutOfRange}
use Rattle.definition.specs.declared.ValueType.TheVariants.{FixedType}
use Rattle.fixed.specs.declared.Fixed.{Fixed}
use Rattle.fixed.specs.Answer.{result_of}
use Rattle.fixed.specs.Signed.{stored_of, from_stored}
use Rattle.meter.specs.declared.Meter.{Meter}
use Rattle.meter.specs.Charges.{ChargedAs}
use Rattle.flow.specs.declared.Frame.{Frame}
use Rattle.flow.specs.Walks.{passes_by}
use Rattle.flow.specs.Shown.{number_of, stepped_on}
use Rattle.store.specs.Cells.{cell_in, number_cell}
use Rattle.callees.specs.Shown.{values_from, world_in, Slots}
use Rattle.bodies.specs.Deeds.{tested_in, tested_meter}
use Rattle.bodies.specs.Groups.{added_on, SummedIs, Framing, SteppedBy, SteppedIs}
use Rattle.operands.proofs.Leaves.{values_at}
use Rattle.bodies.proofs.Grouping.{number_world, number_slots, passes_shown}
use Rattle.operands.proofs.Trees.{clash}

-- ---- the sum
pub summed_some : (x : Fixed) (by : Result Fixed FixedError) (n : Fixed) → by ≡ Ok n → (r : Result Fixed FixedError) → result_of r ≡ Fx.sum x.value n.value → SummedIs x by r
summed_some x by n e r f = record { is = λ z g. let k : Fx.is n.value ≡ Fx.is z = ap result_of (sym e) ∙ g in let j : n.value ≡ z = cc in f ∙ ap (Fx.sum x.value) j }

pub summed_none : (x : Fixed) (by : Result Fixed FixedError) (f : FixedError) → by ≡ Err f → (r : Result Fixed FixedError) → SummedIs x by r
summed_none x by Fe.OutOfRange e r = record { is = λ z g. clash (let k : Fx.out_of_range ≡ Fx.is z = ap result_of (sym e) ∙ g in cc) }
summed_none x by Fe.ZeroDivisor e r = record { is = λ z g. clash (let k : Fx.zero_divisor ≡ Fx.is z = ap result_of (sym e) ∙ g in cc) }

sum_range : (x y z : ℤ) → Fx.is z ≡ Fx.sum x y → Fx.in_range z ≡ true
unfolding Fx.sum Fx.ranged
sum_range x y z e = by _ e
  where
    of : (v : ℤ) (b : Bool) → Fx.in_range v ≡ b → Fx.is z ≡ cond b (Fx.is v) Fx.out_of_range → Fx.in_range z ≡ true
    of v true f g = let h : z ≡ v = cc in rw h f
    of v false f g = clash (cc)

    by : (v : ℤ) → Fx.is z ≡ Fx.ranged v → Fx.in_range z ≡ true
    by v f = of v (Fx.in_range v) refl f

no_zero : (x y : ℤ) → Fx.zero_divisor ≡ Fx.sum x y → {T : Type 0} → T
unfolding Fx.sum Fx.ranged
no_zero x y e = by _ e
  where
    of : (v : ℤ) (b : Bool) → Fx.zero_divisor ≡ cond b (Fx.is v) Fx.out_of_range → {T : Type 0} → T
    of v true g = clash (cc)
    of v false g = clash (cc)

    by : (v : ℤ) → Fx.zero_divisor ≡ Fx.ranged v → {T : Type 0} → T
    by v f = of v (Fx.in_range v) f

pub after_none : (l n : ℕ) → is_left l n ≡ false → used_after l n ≡ n
unfolding used_after
after_none l n e = rw e

-- ---- the step
pub charge_left : (w : World) → is_left w.limit w.used ≡ true → W.charge w ≡ good tt (W.with_used (used_after w.limit w.used) w)
unfolding W.charge
charge_left w e = rw e

pub charge_none : (w : World) → is_left w.limit w.used ≡ false → W.charge w ≡ bad NoStep w.used
unfolding W.charge
charge_none w e = rw e

module _ (c : List ℕ) (f : Frame) (x : Fixed) (by : Result Fixed FixedError) (m : Meter) (y : Result Fixed FixedError) (su : SummedIs x by y) where
  sum_is : (B : World) (l h : List ℕ) (d : F.Frame) → Framing B c l h f m d → result_of by ≡ from_stored f.step → result_of y ≡ Fx.sum x.value d.step
  sum_is B l h d fr e = su.is d.step (e ∙ fr.frame.step)

  added_no : (d : F.Frame) (w : World) (g : Why) → Val.from_fixed (Fx.sum x.value d.step) ≡ Val.fails g → added_on d x.value w ≡ bad g w.used
  unfolding added_on
  added_no d w g e = rw e

  pub added_none : ((n : Fixed) → y ≡ Ok n → ⊥) → SteppedBy c f x by m c (Err (OutOfRange, m))
  added_none h = of y refl
    where
      of : (z : Result Fixed FixedError) → y ≡ z → SteppedBy c f x by m c (Err (OutOfRange, m))
      of (Ok n) e = absurd (h n e)
      of (Err Fe.OutOfRange) e = record {
        is = λ B l h d fr g.
            let k : Fx.out_of_range ≡ Fx.sum x.value d.step = ap result_of (sym e) ∙ sum_is B l h d fr g in
            (sym (added_no d (world_in B c l h m.used) OutOfRange (ap Val.from_fixed (sym k))), fr.limit, fr.slots);
      }
      of (Err Fe.ZeroDivisor) e = record { is = λ B l h d fr g. no_zero x.value d.step (ap result_of (sym e) ∙ sum_is B l h d fr g) }

  module _ (n : Fixed) (e : y ≡ Ok n) (c' : List ℕ) (ec : c' ≡ over c (f.address + 0) (stored_of n.value ∷ [])) where
    number : (B : World) (l h : List ℕ) (d : F.Frame) → Framing B c l h f m d → result_of by ≡ from_stored f.step → Fx.is n.value ≡ Fx.sum x.value d.step
    number B l h d fr g = ap result_of (sym e) ∙ sum_is B l h d fr g

    values : (B : World) (l h : List ℕ) (d : F.Frame) (fr : Framing B c l h f m d) → Fx.in_range n.value ≡ true → (k : ℕ) → world_in B c' l h k ≡ W.store d.at (Val.fixed n.value) (world_in B c l h k)
    values B l h d fr r k = number_world B c l h f.address n c' ec fr.slots fr.variable r k ∙ ap (λ (i : ℕ). W.store i (Val.fixed n.value) (world_in B c l h k)) fr.frame.address

    added_is : (d : F.Frame) (w : World) → Fx.is n.value ≡ Fx.sum x.value d.step → added_on d x.value w ≡ bind (W.charge (W.store d.at (Val.fixed n.value) w)) (λ _ z. good (F.passes d n.value) z)
    unfolding added_on
    added_is d w g = rw (← g)

    pub added_paid : (k : Meter) → ChargedAs m (Ok k) → (b : Bool) → b ≡ passes_by (from_stored f.limit) (from_stored f.step) n.value → SteppedBy c f x by m c' (Ok (b, k))
    added_paid k ch b eb = record {
      is = λ B l h d fr g.
          let nu : Fx.is n.value ≡ Fx.sum x.value d.step = number B l h d fr g in
          let rg : Fx.in_range n.value ≡ true = sum_range x.value d.step n.value nu in
          let W₁ : World = W.store d.at (Val.fixed n.value) (world_in B c l h m.used) in
          let lf : is_left B.limit m.used ≡ true = ap (λ (i : ℕ). is_left i m.used) (sym fr.limit) ∙ sym ch.is.paid in
          let us : used_after B.limit m.used ≡ k.used = ap (λ (i : ℕ). used_after i m.used) (sym fr.limit) ∙ sym ch.is.used in
          let ps : F.passes d n.value ≡ b = sym (eb ∙ passes_shown f d n.value fr.frame) in (
            sym (added_is d (world_in B c l h m.used) nu ∙ ap (λ (i : Res Why (Unit {0})). bind i (λ _ z. good (F.passes d n.value) z)) (charge_left W₁ lf) ∙ ap (λ (i : ℕ). good (F.passes d n.value) (W.with_used i W₁)) us ∙ ap (λ (i : Bool). good i (W.with_used k.used W₁)) ps ∙ ap (λ (i : World). good b i) (sym (values B l h d fr rg k.used))),
            ch.is.limit ∙ fr.limit,
            number_slots B c l h f.address n c' ec fr.slots fr.variable rg,
          );
    }

    pub added_due : (g : Why × Meter) → ChargedAs m (Err g) → SteppedBy c f x by m c' (Err g)
    added_due (q, k) ch = rw (ch.why q k refl) record {
      is = λ B l h d fr g.
          let nu : Fx.is n.value ≡ Fx.sum x.value d.step = number B l h d fr g in
          let rg : Fx.in_range n.value ≡ true = sum_range x.value d.step n.value nu in
          let W₁ : World = W.store d.at (Val.fixed n.value) (world_in B c l h m.used) in
          let lf : is_left m.limit m.used ≡ false = sym ch.is.paid in
          let lg : is_left B.limit m.used ≡ false = ap (λ (i : ℕ). is_left i m.used) (sym fr.limit) ∙ lf in
          let us : k.used ≡ m.used = ch.is.used ∙ after_none m.limit m.used lf in (
            sym (added_is d (world_in B c l h m.used) nu ∙ ap (λ (i : Res Why (Unit {0})). bind i (λ _ z. good (F.passes d n.value) z)) (charge_none W₁ lg) ∙ ap (λ (i : ℕ). bad NoStep i) (sym us)),
            ch.is.limit ∙ fr.limit,
            number_slots B c l h f.address n c' ec fr.slots fr.variable rg,
          );
    }

-- ---- by the frame
stepped_cell : (d : F.Frame) (w : World) (v : W.Cell) → W.value_at d.at w ≡ v → stepped_on d w ≡ number_of v w (λ z. added_on d z w)
unfolding stepped_on added_on
stepped_cell d w v e = rw e

module _ (c : List ℕ) (f : Frame) (m : Meter) where
  pub stepped_nowhere : ((g : ℕ) → f.group ≡ Some g → ⊥) → (r : Tested) → SteppedIs c f m c r
  stepped_nowhere k r = record { is = λ B l h d fr. absurd (k d.group fr.frame.group) }

  module _ (x : Option Fixed) (e : number_cell x ≡ cell_in c [] [] FixedType f.address) where
    cell : (B : World) (l h : List ℕ) (d : F.Frame) → Framing B c l h f m d → W.value_at d.at (world_in B c l h m.used) ≡ number_cell x
    unfolding cell_in
    cell B l h d fr = ap (λ (i : ℕ). get_or (values_from B.denotations 0 c l h) i W.no_value) (sym fr.frame.address) ∙ rw zero-add at (values_at B.denotations 0 f.address FixedType c l h fr.variable) ∙ sym e

    pub stepped_none : x ≡ None → SteppedIs c f m c (Err (NoValue, m))
    stepped_none g = record { is = λ B l h d fr. (sym (stepped_cell d (world_in B c l h m.used) W.no_value (cell B l h d fr ∙ rw g)), fr.limit, fr.slots) }

    pub stepped_some : (n : Fixed) → x ≡ Some n → (by : Result Fixed FixedError) → result_of by ≡ from_stored f.step → (c' : List ℕ) (r : Tested) → SteppedBy c f n by m c' r → SteppedIs c f m c' r
    stepped_some n g by eb c' r sb = record {
      is = λ B l h d fr.
          let k : (tested_in B c' l h r ≡ added_on d n.value (world_in B c l h m.used)) × ((tested_meter r).limit ≡ B.limit) × Slots B.denotations c' l h = sb.is B l h d fr eb in
          (k.0 ∙ sym (stepped_cell d (world_in B c l h m.used) (W.holds (Val.fixed n.value)) (cell B l h d fr ∙ rw g)), k.1, k.2);
    }
