-- The replacement of an active name in program text: its line is asked for before it, and put behind its outcome.
-- Assumes nothing.
use Rattle.texts.specs.Types.{Ran, Passed}
use Rattle.std.proofs.Common.{Ok, Err}
use Rattle.outcomes.specs.Types.{Replaced}
use mathlib.Core.Path.{◌≡◌, refl, sym, ap, subst, ◌∙◌}
use mathlib.Core.Bool.{false}
use mathlib.Core.List.{List}
use Prim.Native.Nat.{ℕ, ◌+◌, ◌-◌, ◌<◌, ◌≤◌}
use native.Mathlib.Omega.{arith}
use borrow.Author.Tests.{le-leb, lt-leb}
use lib.ListN.{length}
use Rattle.definition.specs.Bytes.{mixed}
use Rattle.definition.specs.Room.{over}
use Rattle.definition.specs.Events.{replaced}
use Rattle.definition.specs.World as W
use Rattle.definition.specs.World.{Pass, World, Res, good, bad, bind, placed, with_event}
use Rattle.definition.specs.Calls.{call_out}
use Rattle.definition.specs.Evaluate.{Call}
use Rattle.definition.specs.Scan as D
use Rattle.definition.specs.Expansion.{size_in}
use Rattle.definition.specs.Run.{stop, replace_here}
use Rattle.definition.specs.declared.Why.{Why}
use Rattle.definition.specs.declared.Why.TheVariants.{RoomFull}
use Rattle.meter.specs.declared.Meter.{Meter}
use Rattle.names.specs.declared.Activity.{Activity}
use Rattle.names.specs.Table.{activity_of}
use Rattle.callees.specs.Shown.{world_in}
use Rattle.operands.specs.declared.Scene.{Scene}
use Rattle.outcomes.specs.declared.Src.{Src}
use Rattle.outcomes.specs.declared.Dest.{Dest}
use Rattle.outcomes.specs.Texts.{text_of}
use Rattle.outcomes.specs.Places.{into_of, out_in}
use Rattle.scanning.specs.Cycle.{Stage, replaced_in, ReplacedPut, meter_in, Left, Gone, replacer_in, ReplaceIs}
use Rattle.scanning.proofs.Common.{with_text, out_length}
use Rattle.sums.specs.Numbers.{greatest, sum_to}
use Rattle.sums.proofs.Laws.{sum_fits}
use Rattle.texts.specs.declared.Progress.{Progress}
use Rattle.texts.specs.declared.Here.{Here}
use Rattle.texts.specs.declared.Stop.{Stop}
use Rattle.texts.specs.Shown.{with_meter, with_out, halted_at, SceneIs, Onstage, PassedAs, Lies}
use Rattle.texts.specs.Promises.{PutMore, LineIs, ReplacementAs, ReplacementIs, ReplacingIs}
use Rattle.texts.proofs.Common.{body_sourced, runs_out, stage_event, stage_scene, stage_awake, goes_event}

same_ok : (g k : Progress) → ◌≡◌ {A = Ran} (Ok g) (Ok k) → g ≡ k
same_ok g k e = cc

-- ---- the outcome with its line
module _ (t ls ls' : List ℕ) (g k : Progress) (m size p : ℕ) (r : Replaced) (j : Meter) (e : k ≡ with_meter g j) where
  pub replacement_good : (n q : ℕ) (x : Progress) → r ≡ Ok (n, q, j) → LineIs t ls k m size p n ls' x → ReplacementIs t ls g m size p r ls' (Ok (q, x))
  replacement_good n q x a i = record { is = subst (λ (v : Replaced). ReplacementAs v t ls g m size p ls' (Ok (q, x))) (sym a) (x, subst (λ (v : Progress). LineIs t ls v m size p n ls' x) e i, refl) }

  pub replacement_bad : (y : Why) (b : Stop × Progress) → r ≡ Err (y, j) → b ≡ halted_at k y m p → ReplacementIs t ls g m size p r ls' (Err b)
  replacement_bad y b a i = record { is = subst (λ (v : Replaced). ReplacementAs v t ls g m size p ls' (Err b)) (sym a) (ap Err (i ∙ ap (λ (v : Progress). halted_at v y m p) e)) }

-- ---- the definition's replacement
abbrev finish : ℕ → ℕ → (List ℕ → ℕ → Pass) → D.Replaced → World → Res Why ℕ
finish m p z r v = good r.to (with_event (replaced m p r.bytes) (z r.bytes r.to) 1 v)

here_some : (m p : ℕ) (t : List ℕ) (q a : ℕ) (y : W.Activity) (z : List ℕ → ℕ → Pass) (v : World) → 1 ≤ v.lines_left → replace_here mixed m p t q a y z v ≡ bind (D.replacer mixed call_out 32 t q a y (D.to_text v.text_left) 0 v) (λ r x. finish m p z r x)
unfolding replace_here
here_some m p t q a y z v h = rw (le-leb 1 v.lines_left h)

here_none : (m p : ℕ) (t : List ℕ) (q a : ℕ) (y : W.Activity) (z : List ℕ → ℕ → Pass) (v : World) → v.lines_left < 1 → replace_here mixed m p t q a y z v ≡ bad RoomFull v.used
unfolding replace_here
here_none m p t q a y z v h = rw (lt-leb 1 v.lines_left h)

-- as scanning says it
replacer_is : (sc : Scene) (o : Dest) (n : ℕ) (t : List ℕ) (q a : ℕ) (y : W.Activity) (room : ℕ) (v : World) → sc.running.left ≡ 16 → o.to_work ≡ false → o.room ≡ room
    → replacer_in sc n t q a y (into_of o) 0 v ≡ D.replacer mixed call_out n t q a y (D.to_text room) 0 v
unfolding replacer_in into_of
replacer_is sc o n t q a y room v e f i = rw f (ap (λ (k : Call). D.replacer mixed k n t q a y (D.to_text o.room) 0 v) (runs_out sc e) ∙ ap (λ (k : ℕ). D.replacer mixed call_out n t q a y (D.to_text k) 0 v) i)

module _ (deck s rows names c l h w t ls : List ℕ) (x : Src) (p to a : ℕ) (y : Activity) (here : Here) (g : Progress) (place : ℕ) (pl : place ≡ sum_to greatest x.from p) where
  abbrev dest : Dest
  dest = record { to_work = false; at = g.out.text; room = g.out.room }

  place_is : Lies deck here.member s x.from x.to → p < x.to - x.from → place ≡ x.from + p
  place_is k lt = pl ∙ sum_fits x.from p (omega (arith, k.within, k.short))

  pub replacing_full : (b : Stop × Progress) → g.out.free < 1 → b ≡ halted_at g RoomFull here.member place → ReplacingIs deck s rows names c l h w t ls x p to a y here g c l h w t ls (Err b)
  replacing_full b f e = record {
    is = λ B st li wk lt mm lo on z.
        let none : B.lines_left < 1 = omega (arith, f, st.written.lines) in
        let is : b ≡ halted_at g RoomFull here.member (x.from + p) = e ∙ rw (place_is li lt) in
        rw is (ap (placed (stop here.member (x.from + p))) (here_none here.member (x.from + p) (text_of s w x) to a (activity_of y) z (world_in B c l h g.meter.used) none));
  }

  module _ (c' l' h' w' t' ls' : List ℕ) (r : Passed) (B : World) (st : Onstage deck rows names c l h w t ls here.starts g B) (z : List ℕ → ℕ → Pass) (m q : ℕ) (mm : m < 32) (qq : q < 65536) (some : 1 ≤ g.out.free) (sz : size_in deck m ≡ length s) where
    gone_by : (rr : Replaced) (R : Res Why D.Replaced) → replaced_in B dest 0 c' l' h' w' t' rr ≡ R → ReplacedPut B dest 0 t w' t' rr → Left B 0 w t c' l' h' w' t' (meter_in rr) → ReplacementAs rr t' ls g m (length s) q ls' r
        → PassedAs deck rows names here.starts g B c' l' h' w' t' ls' r (placed (stop m q) (bind R (λ v u. finish m q z v u)))
    gone_by (Ok (n, k, j)) R e pt lf ro =
        let bytes : List ℕ = out_in dest t' w' 0 n in
        let written : t' ≡ over t g.out.text bytes = pt.text ∙ with_text dest bytes t refl in
        let pm : PutMore (size_in deck) (replaced m q bytes) (with_meter g j) B t' ls' (Ok ro.0) = ro.1.is (size_in deck) B t bytes sz st.written written (out_length dest t' w' 0 n) pt.room some mm qq in
        let is : r ≡ Ok (k, (with_out (with_meter g j) pm.out)) = ro.2 ∙ ap (λ (v : Progress). Ok (k, v)) (same_ok ro.0 (with_out (with_meter g j) pm.out) pm.is) in
        rw is (record {
          world = with_event (replaced m q bytes) (z bytes k) 1 B;
          stage = stage_event deck rows names c l h w t ls here.starts g B st c' l' h' w' t' ls' j pm.out (replaced m q bytes) (z bytes k) 1 lf.slots lf.work lf.limit (pm.written (z bytes k));
          goes = goes_event B (replaced m q bytes) (z bytes k) 1;
          is = ap (λ (v : Res Why D.Replaced). placed (stop m q) (bind v (λ u y₁. finish m q z u y₁))) (sym e);
          tabled = refl;
          named = refl;
        })
    gone_by (Err (b, j)) R e pt lf ro = rw ro (ap (λ (v : Res Why D.Replaced). placed (stop m q) (bind v (λ u y₁. finish m q z u y₁))) (sym e))

  pub replacing_done : (sc : Scene) (rr : Replaced) (c' l' h' w' t' ls' : List ℕ) (r : Passed) → 1 ≤ g.out.free → SceneIs here.starts g sc → ReplaceIs deck s rows names c l h w t x to a y dest 0 32 sc g.meter c' l' h' w' t' rr
      → ReplacementIs t' ls g here.member (length s) place rr ls' r → ReplacingIs deck s rows names c l h w t ls x p to a y here g c' l' h' w' t' ls' r
  replacing_done sc rr c' l' h' w' t' ls' r some si ri ro = record {
    is = λ B st li wk lt mm lo on z.
        let v : World = world_in B c l h g.meter.used in
        let stage : Stage deck rows names c l h w 0 sc g.meter t dest B = record {
          shows = stage_scene deck rows names c l h w t ls here.starts g B st sc si;
          awake = stage_awake deck rows names c l h w t ls here.starts g B st sc si;
          aims = record { room = λ _. st.written.fine.text; short = λ _. st.written.fine.most };
        } in
        let gone : Gone B dest 0 w t c' l' h' w' t' rr (replacer_in sc 32 (text_of s w x) to a (activity_of y) (into_of dest) 0 v) = ri.is B stage (body_sourced s w x wk li) (omega (arith, lo, si.names)) on in
        let e : replaced_in B dest 0 c' l' h' w' t' rr ≡ D.replacer mixed call_out 32 (text_of s w x) to a (activity_of y) (D.to_text B.text_left) 0 v =
        gone.is ∙ replacer_is sc dest 32 (text_of s w x) to a (activity_of y) B.text_left v si.left refl (sym st.written.text) in
        let ra : ReplacementAs rr t' ls g here.member (length s) (x.from + p) ls' r = subst (λ (k : ℕ). ReplacementAs rr t' ls g here.member (length s) k ls' r) (place_is li lt) ro.is in
        rw (here_some here.member (x.from + p) (text_of s w x) to a (activity_of y) z v (omega (arith, some, st.written.lines)))
        (gone_by c' l' h' w' t' ls' r B st z here.member (x.from + p) mm (omega (arith, li.within, li.short)) some (sym li.sized) rr (D.replacer mixed call_out 32 (text_of s w x) to a (activity_of y) (D.to_text B.text_left) 0 v) e gone.put gone.left ra);
  }
