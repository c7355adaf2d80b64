-- A call: 12, then 15, then the body.
-- Assumes nothing.
use Rattle.std.proofs.Common.{Err}
use Rattle.operands.specs.Types.{Evaluated}
use mathlib.Core.Path.{◌≡◌, refl, sym, ap, ◌∙◌}
use mathlib.Core.Bool.{Bool, true, false}
use mathlib.Core.List.{List, [], ◌∷◌}
use Prim.Native.Nat.{ℕ, zero, suc, ◌-◌, ◌<◌, ◌≤◌}
use native.Mathlib.Omega.{arith}
use lib.ListN.{set}
use Rattle.definition.specs.Values as Val
use Rattle.definition.specs.World as W
use Rattle.definition.specs.World.{World, Res, bad}
use Rattle.definition.specs.Evaluate as Ev
use Rattle.definition.specs.Calls as C
use Rattle.definition.specs.Calls.{is_running, store_all, body_run, calls}
use Rattle.definition.specs.declared.Why.{Why}
use Rattle.definition.specs.declared.Why.TheVariants.{WronglyRun, TooDeep}
use Rattle.deck.specs.Answer.{body_in}
use Rattle.rows.specs.Parts.{part_in}
use Rattle.meter.specs.declared.Meter.{Meter}
use Rattle.names.specs.declared.Owner.TheVariants.{Procedure}
use Rattle.callees.specs.declared.Callee.{Callee}
use Rattle.callees.specs.declared.Held.{Held}
use Rattle.callees.specs.declared.Running.{Running}
use Rattle.callees.specs.Shown.{denotations_from, values_from, with_values, world_in, Slots}
use Rattle.callees.specs.Answer.{on_of, place_of, StartedIs, Waiting, held_from, store_cells, AllStored}
use Rattle.operands.specs.declared.Scene.{Scene}
use Rattle.operands.specs.Shown.{Shows}
use Rattle.operands.specs.Answer.{Gave, run_in}
use Rattle.evaluating.specs.Cycle.{CalleeShown, CallIs, BodyIs}
use Rattle.operands.proofs.Leaves.{below_same}

store_all_is : (ps : List Ev.Parameter) (vs : List Val.Value) (xs : List W.Cell) (n : ℕ) (B : World) → store_all ps vs (with_values xs n B) ≡ with_values (store_cells ps vs xs) n B
store_all_is [] vs xs n B = refl
store_all_is (p ∷ ps) [] xs n B = refl
store_all_is (p ∷ ps) (v ∷ vs) xs n B = store_all_is ps vs (set xs p.at (W.holds v)) n B

module _ (on : List C.Place) (b : Ev.Callee) (vs : List Val.Value) (u : ℕ) (w : World) where
  calls_running : (n : ℕ) → is_running b.member b.row on ≡ true → calls n on b vs u w ≡ bad WronglyRun w.used
  unfolding calls
  calls_running zero e = rw e
  calls_running (suc n) e = rw e

  calls_deep : (n : ℕ) → is_running b.member b.row on ≡ false → n < 1 → calls n on b vs u w ≡ bad TooDeep w.used
  unfolding calls
  calls_deep zero e h = rw e
  calls_deep (suc n) e h = absurd (omega (arith, h))

  calls_body : (n : ℕ) → is_running b.member b.row on ≡ false → calls (suc n) on b vs u w ≡ body_run (calls n (record { member = b.member; row = b.row } ∷ on)) b.member b.row u (store_all b.parameters vs w)
  unfolding calls
  calls_body n e = rw e

module _ (deck rows names c l h w : List ℕ) (u : ℕ) (x : Scene) (m : Meter) (y : Callee) (k : Held) (v : Bool) (e : v ≡ is_running y.place.member y.place.row (on_of x.running)) where
  runs : (b : Ev.Callee) (B : World) → CalleeShown deck names x.names y b B → (o : Bool) → v ≡ o → is_running b.member b.row (on_of x.running) ≡ o
  runs b B s o f = rw (s.member, s.row) (sym e ∙ f)

  gave_no : (B : World) → Shows deck rows names c l h w u x m B → (f : Why) (R : Res Why Val.Value) → R ≡ bad f m.used → Gave B u w c l h w (Err (f, m)) 0 R
  gave_no B sh f R q = record { is = sym q; end = refl; below = below_same u w; fits = omega (arith, sh.taken); limit = sh.limit; slots = sh.slots }

  pub call_running : v ≡ true → CallIs deck rows names c l h w u x m y k c l h w (Err (WronglyRun, m))
  call_running f = record { is = λ B sh b s wa. gave_no B sh WronglyRun _ (calls_running (on_of x.running) b (held_from w k 0 u b.parameters) u (world_in B c l h m.used) x.running.left (runs b B s true f)) }

  module _ (f : v ≡ false) where
    pub call_deep : x.running.left < 1 → CallIs deck rows names c l h w u x m y k c l h w (Err (TooDeep, m))
    call_deep g = record { is = λ B sh b s wa. gave_no B sh TooDeep _ (calls_deep (on_of x.running) b (held_from w k 0 u b.parameters) u (world_in B c l h m.used) x.running.left (runs b B s false f) g) }

    module _ (some : 1 ≤ x.running.left) (c₁ l₁ h₁ : List ℕ) (st : AllStored deck names c l h w x.names y k u c₁ l₁ h₁) (g : Running) (sg : StartedIs x.running y.place g) (c₂ l₂ h₂ w₂ : List ℕ) (r : Evaluated)
        (s t : List ℕ) (es : s ≡ body_in deck y.place.member) (et : t ≡ part_in rows x.starts y.place.member)
        (bo : BodyIs deck s t rows names c₁ l₁ h₁ w u (record { names = x.names; starts = x.starts; owner = Procedure y.place; running = g }) m y.place c₂ l₂ h₂ w₂ r) where
      abbrev inner : Scene
      inner = record { names = x.names; starts = x.starts; owner = Procedure y.place; running = g }

      body_by : (B : World) → Shows deck rows names c l h w u x m B → (b : Ev.Callee) → CalleeShown deck names x.names y b B → Waiting k 0 u b.parameters
          → (values_from (denotations_from names 0 x.names) 0 c₁ l₁ h₁ ≡ store_cells b.parameters (held_from w k 0 u b.parameters) (values_from (denotations_from names 0 x.names) 0 c l h)) × Slots (denotations_from names 0 x.names) c₁ l₁ h₁
          → Gave B u w c₂ l₂ h₂ w₂ r 0 (run_in x b (held_from w k 0 u b.parameters) u (world_in B c l h m.used))
      body_by B sh b cs wa (va, sl) =
          let d : B.denotations ≡ denotations_from names 0 x.names = sh.named.denotations in
          let sh' : Shows deck rows names c₁ l₁ h₁ w u inner m B = record { named = sh.named; rowed = sh.rowed; slots = rw d sl; work = sh.work; taken = sh.taken; limit = sh.limit; left = omega (arith, sg.left, sh.left) } in
          let G : Gave B u w c₂ l₂ h₂ w₂ r 0 (body_run (run_in inner) y.place.member y.place.row u (world_in B c₁ l₁ h₁ m.used)) = bo.is B sh' refl es et cs.within in
          let W₁ : world_in B c₁ l₁ h₁ m.used ≡ store_all b.parameters (held_from w k 0 u b.parameters) (world_in B c l h m.used) =
          ap (λ (i : List W.Cell). with_values i m.used B) (rw d va) ∙ sym (store_all_is b.parameters (held_from w k 0 u b.parameters) (values_from B.denotations 0 c l h) m.used B) in
          let n : x.running.left ≡ suc (x.running.left - 1) = omega (arith, some) in
          let Q : run_in x b (held_from w k 0 u b.parameters) u (world_in B c l h m.used) ≡ body_run (calls (x.running.left - 1) (record { member = b.member; row = b.row } ∷ on_of x.running)) b.member b.row u (store_all b.parameters (held_from w k 0 u b.parameters) (world_in B c l h m.used)) =
          ap (λ (i : ℕ). calls i (on_of x.running) b (held_from w k 0 u b.parameters) u (world_in B c l h m.used)) n ∙ calls_body (on_of x.running) b (held_from w k 0 u b.parameters) u (world_in B c l h m.used) (x.running.left - 1) (runs b B cs false f) in
          let P : body_run (run_in inner) y.place.member y.place.row u (world_in B c₁ l₁ h₁ m.used) ≡ body_run (calls (x.running.left - 1) (record { member = b.member; row = b.row } ∷ on_of x.running)) b.member b.row u (store_all b.parameters (held_from w k 0 u b.parameters) (world_in B c l h m.used)) =
          ap (λ (i : Ev.Call). body_run i y.place.member y.place.row u (world_in B c₁ l₁ h₁ m.used)) (ap (calls g.left) (sg.on (omega (arith, some)) sh.left) ∙ ap (λ (i : ℕ). calls i (place_of y.place ∷ on_of x.running)) sg.left)
          ∙ rw (cs.member, cs.row) (ap (body_run (calls (x.running.left - 1) (place_of y.place ∷ on_of x.running)) y.place.member y.place.row u) W₁) in
          record { is = G.is ∙ P ∙ sym Q; end = G.end; below = G.below; fits = G.fits; limit = G.limit; slots = G.slots }

      pub call_body : CallIs deck rows names c l h w u x m y k c₂ l₂ h₂ w₂ r
      call_body = record { is = λ B sh b cs wa. body_by B sh b cs wa (st.is cs.listed b.parameters (rw (← sh.named.denotations) sh.slots) cs.placed cs.asked cs.count wa) }
