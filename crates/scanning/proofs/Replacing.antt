-- The replacement of a name: a variable's value, or an entry.
-- Assumes nothing.
use Rattle.outcomes.specs.Types.{Scanned, Replaced}
use Rattle.operators.specs.declared.Value.{Value}
use Rattle.std.proofs.Common.{Option, Some, None, Result, Ok, Err}
use mathlib.Core.Logic.{◌⊎◌, inl, inr}
use mathlib.Core.Path.{◌≡◌, refl, sym, ap, subst, ◌∙◌}
use mathlib.Core.Bool.{Bool, true, false}
use mathlib.Core.List.{List, [], ◌∷◌}
use Prim.Native.Nat.{ℕ, zero, suc, ◌+◌, ◌-◌, ◌<◌, ◌≤◌}
use native.Mathlib.Nat.{zero-add, add-zero}
use native.Mathlib.Omega.{arith}
use lib.ListN.{length, get_or}
use Rattle.definition.specs.Bytes.{mixed}
use Rattle.definition.specs.Values as Val
use Rattle.definition.specs.World as W
use Rattle.definition.specs.World.{World, bad, bind, ask, variable_of, entry_of, builtin_name}
use Rattle.definition.specs.Evaluate as Ev
use Rattle.definition.specs.Evaluate.{callee}
use Rattle.definition.specs.Scan as D
use Rattle.definition.specs.declared.Why.{Why}
use Rattle.definition.specs.declared.Why.TheVariants.{TooDeep, WrongName}
use Rattle.definition.specs.declared.ValueType.{ValueType}
use Rattle.meter.specs.declared.Meter.{Meter}
use Rattle.store.specs.Cells.{cell_in}
use Rattle.names.specs.declared.Place.{Place}
use Rattle.names.specs.declared.Name.{Name}
use Rattle.names.specs.declared.Entry.{Entry}
use Rattle.names.specs.declared.Label.{Label}
use Rattle.names.specs.declared.Denotation.TheVariants as N
use Rattle.names.specs.declared.Activity.{Activity}
use Rattle.names.specs.Table.{name_in, denotation_of, activity_of, body_of}
use Rattle.operators.specs.Stands.{given_in}
use Rattle.callees.specs.declared.Callee.{Callee}
use Rattle.callees.specs.Shown.{denotations_from, names_world, world_in, values_from, cell_as}
use Rattle.callees.specs.Answer.{owner_at, CalleeOf, VariableIs}
use Rattle.callees.proofs.Naming.{denotations_length}
use Rattle.outcomes.specs.declared.Src.{Src}
use Rattle.outcomes.specs.declared.Dest.{Dest}
use Rattle.outcomes.specs.Texts.{text_of}
use Rattle.outcomes.specs.Places.{into_of}
use Rattle.outcomes.specs.Copies.{is_rescanned, held_by, CopiedFrom}
use Rattle.operands.specs.declared.Scene.{Scene}
use Rattle.operands.specs.Answer.{run_in}
use Rattle.evaluating.specs.Cycle.{CalleeShown}
use Rattle.scanning.specs.Cycle.{Sourced, Stage, Came, Gone, scanner_in, replacer_in, is_on, ReplaceIs, EntryIs, outcome_of, RescanIs}
use Rattle.scanning.proofs.Common.{up_to_of, never, stage_on, gone_bad, left_same, up_gone}
use Rattle.scanning.proofs.Values.{came_over, outcome_read, copied_came, rescanned_is, copied_only_lem}
use Rattle.scanning.proofs.Finding.{Found, found, Got, called_fails, called_is, callee_none}

-- ---- what the world has at an address
denotations_at : (t : List ℕ) (b n i : ℕ) → i < n → get_or (denotations_from t b n) i builtin_name ≡ denotation_of (name_in t (b + i)).denotation
unfolding denotations_from
denotations_at t b zero i h = absurd (omega arith)
denotations_at t b (suc n) zero h = rw add-zero
denotations_at t b (suc n) (suc i) h = let e : b + suc i ≡ suc b + i = omega arith in rw e (denotations_at t (suc b) n i (omega arith))

values_at : (ds : List W.Denotation) (b i : ℕ) (c l h : List ℕ) → i < length ds → get_or (values_from ds b c l h) i W.no_value ≡ cell_as (get_or ds i builtin_name) (b + i) c l h
unfolding values_from
values_at [] b i c l h k = absurd (omega arith)
values_at (d ∷ ds) b zero c l h k = rw add-zero
values_at (d ∷ ds) b (suc i) c l h k = let e : b + suc i ≡ suc b + i = omega arith in rw e (values_at ds (suc b) i c l h (omega arith))

-- ---- the ways out of replace
module _ (deck s rows names c l h w t : List ℕ) (x : Src) (p a : ℕ) (y : Activity) (o : Dest) (u left : ℕ) (sc : Scene) (m : Meter) where
  pub replace_deep : left < 1 → ReplaceIs deck s rows names c l h w t x p a y o u left sc m c l h w t (Err (TooDeep, m))
  unfolding replacer_in D.replacer
  replace_deep k = let e : left ≡ 0 = omega arith in rw e (record { is = λ B g so lt on. gone_bad B o u w t c l h w t TooDeep m _ refl (left_same deck rows names c l h w u sc m t o B g) })

  module _ (k : 1 ≤ left) (nm : Name) (e : nm ≡ name_in names a) where
    abbrev n : ℕ
    n = left - 1

    replacer_suc : (j : ℕ) (T : List ℕ) (W₁ : World) → replacer_in sc (suc j) T p a (activity_of y) (into_of o) u W₁ ≡ D.replace_as mixed (W.denotation a W₁) (run_in sc) (scanner_in sc j) T p a (activity_of y) (into_of o) u W₁
    unfolding replacer_in D.replacer scanner_in
    replacer_suc j T W₁ = refl

    replacer_is : (T : List ℕ) (W₁ : World) → replacer_in sc left T p a (activity_of y) (into_of o) u W₁ ≡ D.replace_as mixed (W.denotation a W₁) (run_in sc) (scanner_in sc n) T p a (activity_of y) (into_of o) u W₁
    replacer_is T W₁ = let q : left ≡ suc (left - 1) = omega arith in ap (λ (z : ℕ). replacer_in sc z T p a (activity_of y) (into_of o) u W₁) q ∙ replacer_suc (left - 1) T W₁

    module _ (B : World) (g : Stage deck rows names c l h w u sc m t o B) (lt : a < sc.names) where
      abbrev world : World
      world = world_in B c l h m.used

      denotation_is : get_or B.denotations a builtin_name ≡ denotation_of nm.denotation
      denotation_is = rw g.shows.named.denotations (denotations_at names 0 sc.names a lt ∙ rw (zero-add, e))

      as_is : (T : List ℕ) (d : W.Denotation) → denotation_of nm.denotation ≡ d → replacer_in sc left T p a (activity_of y) (into_of o) u world ≡ D.replace_as mixed d (run_in sc) (scanner_in sc n) T p a (activity_of y) (into_of o) u world
      as_is T d f = replacer_is T world ∙ rw (denotation_is ∙ f)

      wrong : (T : List ℕ) (f : Why) → replacer_in sc left T p a (activity_of y) (into_of o) u world ≡ bad f m.used → Gone B o u w t c l h w t (Err (f, m)) (replacer_in sc left T p a (activity_of y) (into_of o) u world)
      wrong T f q = gone_bad B o u w t c l h w t f m _ (sym q) (left_same deck rows names c l h w u sc m t o B g)

      value_is : (ty : ValueType) → nm.denotation ≡ N.Variable ty → W.value_at a world ≡ cell_in c l h ty a
      value_is ty f =
          let q : get_or B.denotations a builtin_name ≡ variable_of ty = denotation_is ∙ ap denotation_of f in
          let lo : a < length B.denotations = omega (arith, ap (λ (z : List W.Denotation). length z) g.shows.named.denotations, denotations_length names 0 sc.names) in
          values_at B.denotations 0 a c l h lo ∙ rw (q, zero-add)

      cell_is : (cl : W.Cell) (k₁ : World) → D.replace_cell cl (scanner_in sc n) p (activity_of y) (into_of o) u k₁ ≡ D.up_to p (outcome_of sc n (activity_of y) o u (held_by cl) k₁)
      unfolding outcome_of
      cell_is W.no_value k₁ = refl
      cell_is (W.holds v) k₁ = refl

      variable_is : (T : List ℕ) (ty : ValueType) → nm.denotation ≡ N.Variable ty → replacer_in sc left T p a (activity_of y) (into_of o) u world ≡ D.up_to p (outcome_of sc n (activity_of y) o u (held_by (cell_in c l h ty a)) world)
      variable_is T ty f = as_is T (variable_of ty) (ap denotation_of f) ∙ rw (value_is ty f) (cell_is (cell_in c l h ty a) world)

    module _ (ty : ValueType) (f : nm.denotation ≡ N.Variable ty) (bb : Bool) (ib : bb ≡ is_rescanned y) where
      rescanned_by : (w₁ : List ℕ) (gv : Result Value Why) (z : Scanned) (c' l' h' w' t' : List ℕ) → bb ≡ true → VariableIs c l h w a ty u w₁ gv → RescanIs deck s rows names c l h w₁ t gv o u (left - 1) sc m c' l' h' w' t' z → length w₁ ≡ length w
          → (B : World) (g : Stage deck rows names c l h w u sc m t o B) (lt : a < sc.names) → Gone B o u w t c' l' h' w' t' (up_to_of z p) (replacer_in sc left (text_of s w x) p a (activity_of y) (into_of o) u (world_in B c l h m.used))
      rescanned_by w₁ gv z c' l' h' w' t' ie va re e₁ B g lt =
          let st : Stage deck rows names c l h w₁ u sc m t o B = stage_on deck rows names c l h w u sc m t o B c l h w₁ u m t o g g.shows.slots e₁ g.shows.taken g.shows.limit g.aims in
          let C : Came B o u w t c' l' h' w' t' z (outcome_of sc (left - 1) W.rescanned o u (given_in w₁ u gv) (world_in B c l h m.used)) = came_over B o u w w₁ t c' l' h' w' t' z _ va.below e₁ (re.is B st) in
          let q : outcome_of sc (left - 1) (activity_of y) o u (held_by (cell_in c l h ty a)) (world_in B c l h m.used) ≡ outcome_of sc (left - 1) W.rescanned o u (given_in w₁ u gv) (world_in B c l h m.used) =
          rw (rescanned_is y (sym ib ∙ ie), va.is g.shows.work g.shows.taken) (sym (outcome_read sc (left - 1) o u (world_in B c l h m.used) (cell_in c l h ty a))) in
          let Q : replacer_in sc left (text_of s w x) p a (activity_of y) (into_of o) u (world_in B c l h m.used) ≡ D.up_to p (outcome_of sc (left - 1) W.rescanned o u (given_in w₁ u gv) (world_in B c l h m.used)) = variable_is B g lt (text_of s w x) ty f ∙ ap (D.up_to p) q in
          rw Q (up_gone B o u w t c' l' h' w' t' z p _ C)

      pub replace_rescanned : (w₁ : List ℕ) (gv : Result Value Why) (z : Scanned) (c' l' h' w' t' : List ℕ) (r : Replaced) → bb ≡ true → VariableIs c l h w a ty u w₁ gv → RescanIs deck s rows names c l h w₁ t gv o u (left - 1) sc m c' l' h' w' t' z
          → length w₁ ≡ length w → r ≡ up_to_of z p → ReplaceIs deck s rows names c l h w t x p a y o u left sc m c' l' h' w' t' r
      replace_rescanned w₁ gv z c' l' h' w' t' r ie va re e₁ i = rw i (record { is = λ B g so lt on. rescanned_by w₁ gv z c' l' h' w' t' ie va re e₁ B g lt })

      copied_by : (z : Scanned) (w' t' : List ℕ) → bb ≡ false → CopiedFrom (held_by (cell_in c l h ty a)) w t o u m w' t' z → (B : World) (g : Stage deck rows names c l h w u sc m t o B) (lt : a < sc.names) → is_on y ≡ true
          → Gone B o u w t c l h w' t' (up_to_of z p) (replacer_in sc left (text_of s w x) p a (activity_of y) (into_of o) u (world_in B c l h m.used))
      copied_by z w' t' ie cf B g lt on =
          let C : Came B o u w t c l h w' t' z (outcome_of sc (left - 1) W.copied_only o u (held_by (cell_in c l h ty a)) (world_in B c l h m.used)) = copied_came deck rows names c l h w t o u (left - 1) sc m w' t' z B g (held_by (cell_in c l h ty a)) cf in
          let Q : replacer_in sc left (text_of s w x) p a (activity_of y) (into_of o) u (world_in B c l h m.used) ≡ D.up_to p (outcome_of sc (left - 1) W.copied_only o u (held_by (cell_in c l h ty a)) (world_in B c l h m.used)) =
          variable_is B g lt (text_of s w x) ty f ∙ ap (λ (i : W.Activity). D.up_to p (outcome_of sc (left - 1) i o u (held_by (cell_in c l h ty a)) (world_in B c l h m.used))) (copied_only_lem y (sym ib ∙ ie) on) in
          rw Q (up_gone B o u w t c l h w' t' z p _ C)

      pub replace_copied : (z : Scanned) (w' t' : List ℕ) (r : Replaced) → bb ≡ false → CopiedFrom (held_by (cell_in c l h ty a)) w t o u m w' t' z → r ≡ up_to_of z p → ReplaceIs deck s rows names c l h w t x p a y o u left sc m c l h w' t' r
      replace_copied z w' t' r ie cf i = rw i (record { is = λ B g so lt on. copied_by z w' t' ie cf B g lt on })

    pub replace_wrong : ((d : Label) × (nm.denotation ≡ N.LabelName d)) ⊎ (nm.denotation ≡ N.Builtin) → ReplaceIs deck s rows names c l h w t x p a y o u left sc m c l h w t (Err (WrongName, m))
    replace_wrong (inl (d, f)) = record { is = λ B g so lt on. wrong B g lt (text_of s w x) WrongName (as_is B g lt (text_of s w x) _ (ap denotation_of f)) }
    replace_wrong (inr f) = record { is = λ B g so lt on. wrong B g lt (text_of s w x) WrongName (as_is B g lt (text_of s w x) _ (ap denotation_of f)) }

    module _ (en : Entry) (f : nm.denotation ≡ N.EntryName en) (yc : Result Callee Why) (co : CalleeOf deck rows sc.starts names sc.names en.body yc) where
      entry_is : (B : World) (g : Stage deck rows names c l h w u sc m t o B) (lt : a < sc.names) (T : List ℕ) (b : Option Place) → en.body ≡ b → (q : Val.Answer Ev.Callee) → callee (body_of b) (world_in B c l h m.used) ≡ q
          → replacer_in sc left T p a (activity_of y) (into_of o) u (world_in B c l h m.used) ≡ bind (ask q (world_in B c l h m.used)) (λ z v. D.replace_entry mixed (run_in sc) (scanner_in sc (left - 1)) T p (activity_of y) (into_of o) u z v)
      entry_is B g lt T b i q j = as_is B g lt T (entry_of en.declared (body_of en.body)) (ap denotation_of f) ∙ rw (i, j)

      place_is : (B : World) (g : Stage deck rows names c l h w u sc m t o B) (lt : a < sc.names) (pl : Place) → en.body ≡ Some pl → Found deck rows names sc.names pl yc (world_in B c l h m.used) B
      place_is B g lt pl i = found deck rows names c l h w u sc m en.body yc co B g.shows pl i a en.declared (denotation_is B g lt ∙ ap denotation_of f ∙ ap (λ (z : Option Place). entry_of en.declared (body_of z)) i)

      fails_by : (fl : Why) → yc ≡ Err fl → (B : World) (g : Stage deck rows names c l h w u sc m t o B) (lt : a < sc.names) (T : List ℕ) (b : Option Place) → en.body ≡ b → Gone B o u w t c l h w t (Err (fl, m)) (replacer_in sc left T p a (activity_of y) (into_of o) u (world_in B c l h m.used))
      fails_by fl j B g lt T None i =
          let d : Err fl ≡ Err WrongName = sym j ∙ co.none i in
          let d₂ : WrongName ≡ fl = cc in
          wrong B g lt T fl (entry_is B g lt T None i (Val.fails WrongName) (callee_none (world_in B c l h m.used)) ∙ ap (λ (z : Why). bad z m.used) d₂)
      fails_by fl j B g lt T (Some pl) i =
          let F : Found deck rows names sc.names pl yc (world_in B c l h m.used) B = place_is B g lt pl i in
          let d : Ev.parameters (owner_at pl) F.listed (names_world deck names sc.names) ≡ Val.fails fl = called_fails pl F.list _ fl (sym j ∙ F.called) in
          wrong B g lt T fl (entry_is B g lt T (Some pl) i (Val.fails fl) (F.value ∙ rw d))

      pub replace_fails : (fl : Why) → yc ≡ Err fl → ReplaceIs deck s rows names c l h w t x p a y o u left sc m c l h w t (Err (fl, m))
      replace_fails fl j = record { is = λ B g so lt on. fails_by fl j B g lt (text_of s w x) en.body refl }

      some_by : (z : Callee) (c' l' h' w' t' : List ℕ) (r : Replaced) → yc ≡ Ok z → EntryIs deck s rows names c l h w t x p z y o u (left - 1) sc m c' l' h' w' t' r → (B : World) (g : Stage deck rows names c l h w u sc m t o B) → Sourced s w x u → (lt : a < sc.names) → is_on y ≡ true
          → (b : Option Place) → en.body ≡ b → Gone B o u w t c' l' h' w' t' r (replacer_in sc left (text_of s w x) p a (activity_of y) (into_of o) u (world_in B c l h m.used))
      some_by z c' l' h' w' t' r j ei B g so lt on None i = never _ (let d : Ok z ≡ Err WrongName = sym j ∙ co.none i in cc)
      some_by z c' l' h' w' t' r j ei B g so lt on (Some pl) i =
          let F : Found deck rows names sc.names pl yc (world_in B c l h m.used) B = place_is B g lt pl i in
          let G : Got pl F.list z (Ev.parameters (owner_at pl) F.listed (names_world deck names sc.names)) = called_is pl F.list _ z (sym j ∙ F.called) in
          let bb : Ev.Callee = record { member = pl.member; row = pl.row; parameters = G.parameters } in
          let cs₀ : CalleeShown deck names sc.names (record { place = pl; list = F.list; count = length G.parameters }) bb B = record { member = refl; row = refl; listed = F.listed; placed = F.placed; asked = G.is; count = refl; few = F.few G.parameters G.is; within = F.within } in
          let cs : CalleeShown deck names sc.names z bb B = subst (λ (i : Callee). CalleeShown deck names sc.names i bb B) (sym G.callee) cs₀ in
          let v : callee (body_of (Some pl)) (world_in B c l h m.used) ≡ Val.gives bb = F.value ∙ ap (λ (i : Val.Answer (List Ev.Parameter)). Val.and_then i (λ ps. Val.gives (record { member = pl.member; row = pl.row; parameters = ps }))) G.is in
          rw (entry_is B g lt (text_of s w x) (Some pl) i (Val.gives bb) v) (ei.is B g so on bb cs)

      pub replace_some : (z : Callee) (c' l' h' w' t' : List ℕ) (r : Replaced) → yc ≡ Ok z → EntryIs deck s rows names c l h w t x p z y o u (left - 1) sc m c' l' h' w' t' r → ReplaceIs deck s rows names c l h w t x p a y o u left sc m c' l' h' w' t' r
      replace_some z c' l' h' w' t' r j ei = record { is = λ B g so lt on. some_by z c' l' h' w' t' r j ei B g so lt on en.body refl }
