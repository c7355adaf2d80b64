-- Statements that evaluate: assignment and IF.
-- Assumes nothing.
use Rattle.bodies.specs.Types.{Done, Tested}
use Rattle.operands.specs.Types.{Evaluated}
use Rattle.std.proofs.Common.{Option, Some, None, Err}
use mathlib.Core.Path.{◌≡◌, refl, sym, ap, ◌∙◌}
use mathlib.Core.Bool.{Bool, true, false, cond}
use mathlib.Core.List.{List}
use Prim.Native.Nat.{ℕ, ◌-◌, ◌≤◌}
use native.Mathlib.Omega.{arith}
use lib.ListN.{length, get_or}
use Rattle.definition.specs.Bytes.{mixed, folded}
use Rattle.definition.specs.Lists.{part}
use Rattle.definition.specs.Tokens.{token_at}
use Rattle.definition.specs.Expressions.{read, Tree, parsed, Named, name_at, expect_sign, whole_expression}
use Rattle.definition.specs.Values as Val
use Rattle.definition.specs.World as W
use Rattle.definition.specs.World.{World, Res, good, bad, bind, variable_of, entry_of, label_at, builtin_name, seen_from}
use Rattle.definition.specs.Evaluate as Ev
use Rattle.definition.specs.Evaluate.{put, meant}
use Rattle.definition.specs.Flow as F
use Rattle.definition.specs.Flow.{Machine}
use Rattle.definition.specs.declared.Why.{Why}
use Rattle.definition.specs.declared.Why.TheVariants.{WrongName}
use Rattle.definition.specs.declared.ValueType.{ValueType}
use Rattle.meter.specs.declared.Meter.{Meter}
use Rattle.tokens.specs.declared.Lexeme.{Lexeme}
use Rattle.tokens.specs.Answer.{Lexed}
use Rattle.names.specs.Table.{owner_of}
use Rattle.callees.specs.declared.Meant.{Meant}
use Rattle.callees.specs.declared.Meant.TheVariants as M
use Rattle.callees.specs.Answer.{meant_for}
use Rattle.callees.proofs.Naming.{meant_there}
use Rattle.callees.specs.Shown.{names_world, world_in}
use Rattle.callees.proofs.Listing.{name_is}
use Rattle.operands.specs.declared.Scene.{Scene}
use Rattle.operands.specs.Shown.{Shows}
use Rattle.operands.specs.Answer.{res_in, Gave, value_of}
use Rattle.evaluating.specs.Cycle.{Evaluates}
use Rattle.bodies.specs.Deeds.{scene_machine, Leaves, variable_for, TargetIs, done_in, done_meter, stored_on, StoredIs, tested_in, tested_meter, truth_on, TruthIs}
use Rattle.evaluating.specs.Statements.{AssignIs, TestIs}
use Rattle.operands.proofs.Trees.{clash, expect_is}
use Rattle.bodies.proofs.Doing.{gave_fine}
use Rattle.operands.proofs.Leaves.{variable_denotes}

-- ---- IF
module _ (deck s rows names c l h w : List ℕ) (at u : ℕ) (x : Scene) (m : Meter) (c₁ l₁ h₁ w₁ : List ℕ) (z₁ : length w₁ ≡ length w) (y : Evaluated)
    (ev : Evaluates deck rows names c l h w u x m c₁ l₁ h₁ w₁ y (whole_expression mixed s at)) where
  truth_is : (t : Tree) (W₁ : World) → F.truth (scene_machine x u) t W₁ ≡ truth_on u (value_of x t u W₁)
  unfolding F.truth truth_on
  truth_is t W₁ = refl

  pub test_done : (w₂ : List ℕ) (r : Tested) → TruthIs w₁ u y w₂ r → TestIs deck s rows names c l h w at u x m c₁ l₁ h₁ w₂ r
  test_done w₂ r ti = record { is = λ B sh t st. by B sh t st.0 st.1 }
    where
      by : (B : World) → Shows deck rows names c l h w u x m B → (t : Tree) (e : ℕ) → whole_expression mixed s at ≡ read (parsed t e) → (tested_in B c₁ l₁ h₁ r ≡ F.truth (scene_machine x u) t (world_in B c l h m.used)) × Leaves B u w c₁ l₁ h₁ w₂ (tested_meter r)
      by B sh t e q =
          let G : Gave B u w c₁ l₁ h₁ w₁ y e (value_of x t u (world_in B c l h m.used)) = ev.is B sh t e q in
          let i : 65536 ≤ length w₁ = omega (arith, z₁, sh.work) in (
            ti.is i G.fits B c₁ l₁ h₁ ∙ ap (truth_on u) G.is ∙ sym (truth_is t (world_in B c l h m.used)),
            record { below = ti.below i G.fits ∙ G.below; limit = ap (λ (k : Meter). k.limit) ti.limit ∙ G.limit; slots = G.slots },
          )

abbrev pub on_meant : {A : Type 0} → Ev.Meant → (ℕ → ValueType → Res Why A) → World → Res Why A
on_meant (Ev.a_variable a k) f w = f a k
on_meant (Ev.an_entry b) f w = bad WrongName w.used
on_meant Ev.the_substr f w = bad WrongName w.used
on_meant Ev.no_such f w = bad WrongName w.used

pub meant_cond : {A : Type 0} (b : Bool) (f : ℕ → ValueType → Res Why A) (w : World) → bad WrongName w.used ≡ on_meant (cond b Ev.the_substr Ev.no_such) f w
meant_cond true f w = refl
meant_cond false f w = refl

module _ {E : Type 0} (M₁ : Machine E) (n : List ℕ) (f : ℕ → ValueType → Res Why (Unit {0})) (w : World) where
  target_as_lem : (d : W.Denotation) (a : ℕ) → F.target_as M₁ d a f w ≡ on_meant (Ev.meant_by d a n) f w
  target_as_lem (variable_of k) a = refl
  target_as_lem (entry_of e b) a = refl
  target_as_lem (label_at m r q) a = refl
  target_as_lem builtin_name a = meant_cond (Ev.is_substr n) f w

  target_at_lem : (x : W.Address) → F.target_at M₁ x f w ≡ on_meant (Ev.meant_at x n w) f w
  target_at_lem (W.address a) = target_as_lem (W.denotation a w) a
  target_at_lem W.unknown = meant_cond (Ev.is_substr n) f w

module _ (x : Scene) (u : ℕ) (n : List ℕ) (t : Tree) (w : World) where
  assigned_is : F.assigned (scene_machine x u) n t w ≡ on_meant (meant (owner_of x.owner) n w) (λ a k. stored_on k a u (value_of x t u w)) w
  unfolding F.assigned stored_on meant
  assigned_is = target_at_lem (scene_machine x u) n (λ a k. bind (value_of x t u w) λ v y. bind (put u (Val.convert k v) y) λ c z. good tt (W.store a c z)) w (seen_from (owner_of x.owner) n w)

pub at_by : (a : ℕ) (k : ValueType) (v : Meant) → Some (a, k) ≡ variable_for v → v ≡ M.AVariable a k
at_by a k (M.AVariable a₁ k₁) e = let h : ◌≡◌ {A = ℕ × ValueType} (a, k) (a₁, k₁) = cc in let f : a ≡ a₁ = ap (λ (i : ℕ × ValueType). i.0) h in let q : k ≡ k₁ = ap (λ (i : ℕ × ValueType). i.1) h in rw (f, q)
at_by a k (M.AnEntry d) e = clash (cc)
at_by a k M.TheSubstr e = clash (cc)
at_by a k M.NoSuch e = clash (cc)

-- ---- assignment
module _ (deck s rows names c l h w : List ℕ) (at u : ℕ) (x : Scene) (m : Meter) (t : Lexeme) (lex : Lexed s at t) (y : Option (ℕ × ValueType)) (ti : TargetIs deck s names x.names x.owner t y) where
  pub spelled : (nm : Named) → name_at mixed s at ≡ read nm → folded mixed (part (t.to - t.from) t.from s) ≡ nm.spelling
  spelled nm q = rw (lex.from, lex.to) (sym (name_is s at nm q).spelling)

  pub means : (B : World) → Shows deck rows names c l h w u x m B → (n : List ℕ) → folded mixed (part (t.to - t.from) t.from s) ≡ n → meant_for ti.name ≡ meant (owner_of x.owner) n B
  means B sh n e = ti.is ∙ ap (λ (i : List ℕ). meant (owner_of x.owner) i (names_world deck names x.names)) e ∙ sym (meant_there deck names x.names B sh.named.identifiers sh.named.denotations (owner_of x.owner) n)

  pub meant_now : (B : World) → Shows deck rows names c l h w u x m B → (n : List ℕ) → folded mixed (part (t.to - t.from) t.from s) ≡ n → meant_for ti.name ≡ meant (owner_of x.owner) n (world_in B c l h m.used)
  meant_now B sh n e = ti.is ∙ ap (λ (i : List ℕ). meant (owner_of x.owner) i (names_world deck names x.names)) e ∙ sym (meant_there deck names x.names (world_in B c l h m.used) sh.named.identifiers sh.named.denotations (owner_of x.owner) n)

  pub none_by : {A : Type 0} (v : Meant) → None ≡ variable_for v → (f : ℕ → ValueType → Res Why A) (W₁ : World) → on_meant (meant_for v) f W₁ ≡ bad WrongName W₁.used
  none_by (M.AVariable a k) e f W₁ = clash (cc)
  none_by (M.AnEntry b) e f W₁ = refl
  none_by M.TheSubstr e f W₁ = refl
  none_by M.NoSuch e f W₁ = refl

  pub assign_none : y ≡ None → AssignIs deck s rows names c l h w at u x m c l h w (Err (WrongName, m))
  assign_none ey = record {
    is = λ B sh n tr st.
        let e : folded mixed (part (t.to - t.from) t.from s) ≡ n = spelled st.0 st.1 ∙ st.2 in
        let W₁ : World = world_in B c l h m.used in (
          sym (assigned_is x u n tr W₁ ∙ ap (λ (i : Ev.Meant). on_meant i (λ a k. stored_on k a u (value_of x tr u W₁)) W₁) (sym (meant_now B sh n e)) ∙ none_by ti.name (sym ey ∙ ti.variable) (λ a k. stored_on k a u (value_of x tr u W₁)) W₁),
          record { below = refl; limit = sh.limit; slots = sh.slots },
        );
  }

  module _ (a : ℕ) (k : ValueType) (ey : y ≡ Some (a, k)) (g : Lexeme) (lg : Lexed s t.to g) (c₁ l₁ h₁ w₁ : List ℕ) (z₁ : length w₁ ≡ length w) (b : Evaluated)
      (ev : Evaluates deck rows names c l h w u x m c₁ l₁ h₁ w₁ b (whole_expression mixed s g.to)) (c₂ l₂ h₂ w₂ : List ℕ) (r : Done) (si : StoredIs c₁ l₁ h₁ w₁ a k u b c₂ l₂ h₂ w₂ r) where
    is_at : ti.name ≡ M.AVariable a k
    is_at = at_by a k ti.name (sym ey ∙ ti.variable)

    done_by : (B : World) → Shows deck rows names c l h w u x m B → (n : List ℕ) (tr : Tree) (nm : Named) → name_at mixed s at ≡ read nm → nm.spelling ≡ n → (q e : ℕ) → expect_sign mixed "=" s nm.to ≡ read q → whole_expression mixed s q ≡ read (parsed tr e) → (done_in B c₂ l₂ h₂ r ≡ F.assigned (scene_machine x u) n tr (world_in B c l h m.used)) × Leaves B u w c₂ l₂ h₂ w₂ (done_meter r)
    done_by B sh n tr nm q₁ q₂ q e q₃ q₄ =
        let W₁ : World = world_in B c l h m.used in
        let es : folded mixed (part (t.to - t.from) t.from s) ≡ n = spelled nm q₁ ∙ q₂ in
        let gq : g.to ≡ q = lg.to ∙ ap (λ (i : ℕ). (token_at mixed s i).to) (lex.to ∙ sym (name_is s at nm q₁).to) ∙ sym (expect_is "=" s nm.to q q₃) in
        let G : Gave B u w c₁ l₁ h₁ w₁ b e (value_of x tr u W₁) = ev.is B sh tr e (ap (whole_expression mixed s) gq ∙ q₄) in
        let dn : get_or B.denotations a builtin_name ≡ variable_of k = variable_denotes a k B (record { scope = owner_of x.owner; spelling = n; is = ap meant_for (sym is_at) ∙ means B sh n es }) in
        let S₁ : (done_in B c₂ l₂ h₂ r ≡ stored_on k a u (res_in B c₁ l₁ h₁ w₁ u b)) × Leaves B u w₁ c₂ l₂ h₂ w₂ (done_meter r) = si.is B G.slots dn (omega (arith, z₁, sh.work)) G.fits (gave_fine B c l h x tr u m.used w c₁ l₁ h₁ w₁ b e sh.slots G) G.limit in
        let Q : F.assigned (scene_machine x u) n tr W₁ ≡ stored_on k a u (value_of x tr u W₁) = assigned_is x u n tr W₁ ∙ ap (λ (i : Ev.Meant). on_meant i (λ a k. stored_on k a u (value_of x tr u W₁)) W₁) (sym (meant_now B sh n es) ∙ ap meant_for is_at) in
        (S₁.0 ∙ ap (stored_on k a u) G.is ∙ sym Q, record { below = S₁.1.below ∙ G.below; limit = S₁.1.limit; slots = S₁.1.slots })

    pub assign_done : AssignIs deck s rows names c l h w at u x m c₂ l₂ h₂ w₂ r
    assign_done = record { is = λ B sh n tr st. done_by B sh n tr st.0 st.1 st.2 st.3.0 st.3.1 st.3.2 st.3.3 }
