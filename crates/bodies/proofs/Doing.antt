-- What statements do with the value of their expression: assignment, IF, a number of DO, RETURN.
-- Assumes nothing.
use Rattle.operands.specs.Types.{Evaluated}
use Rattle.std.proofs.Common.{Option, Result, Ok, Err, Some, None}
use Rattle.names.specs.declared.Place.{Place}
use mathlib.Core.Path.{◌≡◌, refl, sym, ap, ◌∙◌}
use mathlib.Core.Bool.{Bool, true}
use mathlib.Core.List.{List, [], ◌∷◌}
use mathlib.Core.Logic.{◌⊎◌, inl, inr}
use Prim.Native.Nat.{ℕ, ◌+◌, ◌-◌, ◌≤◌}
use native.Mathlib.Omega.{arith}
use lib.IntN.{ℤ, pos}
use lib.ListN.{length, set}
use Rattle.definition.specs.Bytes.{mixed, folded}
use Rattle.definition.specs.Fixed as Fx
use Rattle.definition.specs.Lists.{part}
use Rattle.definition.specs.Expressions.{Tree}
use Rattle.definition.specs.Program as D
use Rattle.definition.specs.Values as Val
use Rattle.definition.specs.World as W
use Rattle.definition.specs.World.{World, Res, good, bad, bind, ask, variable_of, entry_of, label_at, builtin_name, seen_from}
use Rattle.definition.specs.Evaluate.{put, meant}
use Rattle.definition.specs.Flow as F
use Rattle.definition.specs.Flow.{Machine}
use Rattle.definition.specs.declared.Why.{Why}
use Rattle.definition.specs.declared.ValueType.{ValueType}
use Rattle.definition.specs.declared.ValueType.TheVariants.{FixedType, CharacterType}
use Rattle.definition.proofs.Keeping as Gv
use Rattle.definition.proofs.Ranges.{Small, Fine, to_fixed_small}
use Rattle.fixed.specs.declared.Fixed.{Fixed}
use Rattle.meter.specs.declared.Meter.{Meter}
use Rattle.tokens.specs.declared.Lexeme.{Lexeme}
use Rattle.names.specs.Table.{owner_of}
use Rattle.names.specs.declared.Owner.{Owner as Owned}
use Rattle.callees.specs.declared.Meant.{Meant}
use Rattle.callees.specs.declared.Meant.TheVariants as M
use Rattle.callees.specs.Answer.{meant_for, ValueStored}
use Rattle.callees.specs.Shown.{names_world, values_from, with_values, world_in, Slots, Typed}
use Rattle.operators.specs.declared.Value.{Value}
use Rattle.operators.specs.Stands.{size_for, value_in, given_in, number_for, truth_for, stacked, Stood, Told}
use Rattle.operators.specs.Stands as O
use Rattle.operators.proofs.Callers as R
use Rattle.flow.specs.declared.Frames.{Frames}
use Rattle.operands.specs.declared.Scene.{Scene}
use Rattle.operands.specs.declared.Wish.TheVariants as Wi
use Rattle.operands.specs.Answer.{Gave, value_of}
use Rattle.operands.proofs.Leaves.{end_is}
use Rattle.operands.proofs.Ranging.{value_fine, convert_typed}
use Rattle.operands.specs.Takes.{WithWish}
use Rattle.bodies.specs.declared.Turned.{Turned}
use Rattle.bodies.specs.Deeds.{Serves, scene_machine, TargetIs, stored_on, FineIn, StoredIs, truth_on, TruthIs, number_on, BoundIs}
use Rattle.bodies.specs.Ways.{turned_by, step_of, ReturnIs}

-- ---- an answer of an evaluation is in its range
pub gave_fine : (B : World) (c l h : List ℕ) (x : Scene) (t : Tree) (u n : ℕ) (w c' l' h' w' : List ℕ) (r : Evaluated) (e : ℕ) → Slots B.denotations c l h → Gave B u w c' l' h' w' r e (value_of x t u (world_in B c l h n)) → FineIn w' u r
gave_fine B c l h x t u n w c' l' h' w' (Ok (v, q, m)) e s g = value_fine B c l h x t u n (value_in w' u v) (world_in B c' l' h' m.used) s (sym g.is)
gave_fine B c l h x t u n w c' l' h' w' (Err (q, m)) e s g = tt

-- ---- what is stored
pub stored_world : (B : World) (c l h c' l' h' : List ℕ) (a n : ℕ) (v : Val.Value) → values_from B.denotations 0 c' l' h' ≡ set (values_from B.denotations 0 c l h) a (W.holds v) → world_in B c' l' h' n ≡ W.store a v (world_in B c l h n)
stored_world B c l h c' l' h' a n v e = ap (λ (i : List W.Cell). with_values i n B) e

module _ (c l h w : List ℕ) (a : ℕ) (k : ValueType) (u : ℕ) (x : Evaluated) where
  pub stored_none : (f : Why × Meter) → x ≡ Err f → StoredIs c l h w a k u x c l h w (Err f)
  unfolding stored_on
  stored_none (f, m) e = rw e record { is = λ B s g i j y lm. (refl, record { below = refl; limit = lm; slots = s }) }

  module _ (v : Value) (q : ℕ) (m : Meter) (e : x ≡ Ok (v, q, m)) (w' : List ℕ) (g : Result Value Why) (ga : O.Gave w u (size_for v) (stacked u (Val.convert k (value_in w u v))) w' g) where
    stood : 65536 ≤ length w → u + size_for v ≤ 65536 → Stood w u (stacked u (Val.convert k (value_in w u v))) w' g
    stood i j = ga.so (record { room = i; top = j })

    bad_by : (f : Why) → g ≡ Err f → 65536 ≤ length w → u + size_for v ≤ 65536 → (W₁ : World) → stored_on k a u (good (value_in w u v) W₁) ≡ bad f W₁.used
    unfolding stored_on given_in
    bad_by f eg i j W₁ =
        let d : Val.fails f ≡ stacked u (Val.convert k (value_in w u v)) = rw eg at (stood i j).is in
        ap (λ (r : Res Why Val.Value). bind r (λ c z. good tt (W.store a c z))) (R.put_is u (Val.convert k (value_in w u v)) W₁ ∙ ap (λ (r : Val.Answer Val.Value). ask r W₁) (sym d))

    pub stored_fails : (f : Why) → g ≡ Err f → StoredIs c l h w a k u x c l h w' (Err (f, m))
    stored_fails f eg = rw e record { is = λ B s d i j y lm. (sym (bad_by f eg i j (world_in B c l h m.used)), record { below = (stood i j).below; limit = lm; slots = s }) }

    good_by : (y : Value) → g ≡ Ok y → 65536 ≤ length w → u + size_for v ≤ 65536 → (W₁ : World) → stored_on k a u (good (value_in w u v) W₁) ≡ good tt (W.store a (value_in w' u y) W₁)
    unfolding stored_on given_in
    good_by y eg i j W₁ =
        let d : Val.gives (value_in w' u y) ≡ stacked u (Val.convert k (value_in w u v)) = rw eg at (stood i j).is in
        ap (λ (r : Res Why Val.Value). bind r (λ c z. good tt (W.store a c z))) (R.put_is u (Val.convert k (value_in w u v)) W₁ ∙ ap (λ (r : Val.Answer Val.Value). ask r W₁) (sym d))

    typed : (y : Value) → g ≡ Ok y → 65536 ≤ length w → u + size_for v ≤ 65536 → Fine (value_in w u v) → Typed k y
    unfolding given_in
    typed y eg i j f = convert_typed k (value_in w u v) w' u y f (rw eg at (stood i j).is)

    pub stored_some : (y : Value) → g ≡ Ok y → (c' l' h' : List ℕ) → ValueStored c l h w' a u y c' l' h' → StoredIs c l h w a k u x c' l' h' w' (Ok m)
    stored_some y eg c' l' h' vs = rw e record {
      is = λ B s d i j f lm.
          let ty : Typed k y = typed y eg i j f in (
            ap (λ (W₁ : World). good tt W₁) (stored_world B c l h c' l' h' a m.used (value_in w' u y) (vs.is B.denotations k s d ty)) ∙ sym (good_by y eg i j (world_in B c l h m.used)),
            record { below = (stood i j).below; limit = lm; slots = vs.slots B.denotations k s d ty },
          );
    }

-- ---- a truth
module _ (w : List ℕ) (u : ℕ) (x : Evaluated) where
  pub truth_none : (f : Why × Meter) → x ≡ Err f → TruthIs w u x w (Err f)
  unfolding truth_on
  truth_none (f, m) e = rw e record { is = λ i j B c l h. refl; below = λ i j. refl; limit = refl }

  module _ (v : Value) (q : ℕ) (m : Meter) (e : x ≡ Ok (v, q, m)) (w' : List ℕ) (t : Result Bool Why) (ga : Told w u (size_for v) (Val.holds u (value_in w u v)) w' t) where
    told : 65536 ≤ length w → u + size_for v ≤ 65536 → (W₁ : World) → truth_on u (good (value_in w u v) W₁) ≡ ask (truth_for t) W₁
    unfolding truth_on
    told i j W₁ = ap (λ (r : Val.Answer Bool). ask r W₁) (sym (ga.is (record { room = i; top = j })))

    pub truth_some : (b : Bool) → t ≡ Ok b → TruthIs w u x w' (Ok (b, m))
    unfolding truth_for
    truth_some b et = rw e record { is = λ i j B c l h. sym (told i j (world_in B c l h m.used) ∙ rw et); below = λ i j. ga.below (record { room = i; top = j }); limit = refl }

    pub truth_fails : (f : Why) → t ≡ Err f → TruthIs w u x w' (Err (f, m))
    unfolding truth_for
    truth_fails f et = rw e record { is = λ i j B c l h. sym (told i j (world_in B c l h m.used) ∙ rw et); below = λ i j. ga.below (record { room = i; top = j }); limit = refl }

-- ---- a number
module _ (w : List ℕ) (u : ℕ) (x : Evaluated) where
  pub bound_none : (f : Why × Meter) → x ≡ Err f → BoundIs w u x (Err f)
  unfolding number_on
  bound_none (f, m) e = rw e record { is = λ B c l h. refl; end = λ q j. refl; limit = refl }

  module _ (v : Value) (q : ℕ) (m : Meter) (e : x ≡ Ok (v, q, m)) (n : Result Fixed Why) (ga : number_for n ≡ Val.to_fixed (value_in w u v)) where
    pub bound_some : (y : Fixed) → n ≡ Ok y → BoundIs w u x (Ok (y, q, m))
    unfolding number_on number_for
    bound_some y en = rw e record { is = λ B c l h. ap (λ (r : Val.Answer ℤ). ask r (world_in B c l h m.used)) (rw en at ga); end = λ p j. let d : q ≡ p = end_is v q p m j in rw (← d); limit = refl }

    pub bound_fails : (f : Why) → n ≡ Err f → BoundIs w u x (Err (f, m))
    unfolding number_on number_for
    bound_fails f en = rw e record { is = λ B c l h. ap (λ (r : Val.Answer ℤ). ask r (world_in B c l h m.used)) (rw en at ga); end = λ p j. refl; limit = refl }

-- a number that was evaluated is in its range
given_it : {A : Type 0} {P : A → Type 0} {a : A} → Gv.Gives P (Val.gives a) → P a
given_it (Gv.given h) = h

bound_by : (a : Val.Answer ℤ) → Gv.Gives Small a → (z : ℤ) (W₁ W₂ : World) → good z W₁ ≡ ask a W₂ → Fx.in_range z ≡ true
bound_by (Val.gives y) k z W₁ W₂ e = let f : z ≡ y = cc in rw f (given_it k)
bound_by (Val.fails q) k z W₁ W₂ e = absurd (let f : ◌≡◌ {A = ℕ} 0 1 = cc in omega arith)

pub bound_range : (B : World) (c l h w : List ℕ) (u : ℕ) (x : Evaluated) (y : Fixed) (q : ℕ) (m : Meter) → BoundIs w u x (Ok (y, q, m)) → FineIn w u x → Fx.in_range y.value ≡ true
unfolding number_on
bound_range B c l h w u (Ok (v, e, k)) y q m b f = bound_by (Val.to_fixed (value_in w u v)) (to_fixed_small (value_in w u v) f) y.value (world_in B c l h m.used) (world_in B c l h k.used) (b.is B c l h)
bound_range B c l h w u (Err (e, k)) y q m b f = absurd (let g : good y.value (world_in B c l h m.used) ≡ bad e k.used = b.is B c l h in let z : ◌≡◌ {A = ℕ} 0 1 = cc in omega arith)

-- ---- any machine that serves the scene
pub truth_same : {E : Type 0} (M₁ : Machine E) (x : Scene) (u : ℕ) → Serves M₁ x u → (t : Tree) (W₁ : World) → F.truth M₁ t W₁ ≡ F.truth (scene_machine x u) t W₁
unfolding F.truth
truth_same M₁ x u sv t W₁ = rw (sv.value t W₁, sv.waiting)

pub assigned_same : {E : Type 0} (M₁ : Machine E) (x : Scene) (u : ℕ) → Serves M₁ x u → (n : List ℕ) (t : Tree) (W₁ : World) → F.assigned M₁ n t W₁ ≡ F.assigned (scene_machine x u) n t W₁
unfolding F.assigned
assigned_same M₁ x u sv n t W₁ = rw (sv.value t W₁, sv.waiting, sv.owner) (by (seen_from (owner_of x.owner) n W₁))
  where
    by : (a : W.Address) → F.target_at M₁ a (λ a k. bind (value_of x t u W₁) λ v y. bind (put u (Val.convert k v) y) λ c z. good tt (W.store a c z)) W₁ ≡ F.target_at (scene_machine x u) a (λ a k. bind (value_of x t u W₁) λ v y. bind (put u (Val.convert k v) y) λ c z. good tt (W.store a c z)) W₁
    by (W.address a) = of (W.denotation a W₁)
      where
        of : (d : W.Denotation) → F.target_as M₁ d a (λ a k. bind (value_of x t u W₁) λ v y. bind (put u (Val.convert k v) y) λ c z. good tt (W.store a c z)) W₁ ≡ F.target_as (scene_machine x u) d a (λ a k. bind (value_of x t u W₁) λ v y. bind (put u (Val.convert k v) y) λ c z. good tt (W.store a c z)) W₁
        of (variable_of k) = refl
        of (entry_of e b) = refl
        of (label_at m r q) = refl
        of builtin_name = refl
    by W.unknown = refl

module _ {E : Type 0} (M₁ : Machine E) (x : Scene) (u : ℕ) (sv : Serves M₁ x u) where
  number_same : (t : Tree) (w : World) → F.number M₁ t w ≡ F.number (scene_machine x u) t w
  unfolding F.number
  number_same t w = rw (sv.value t w)

  bounded_same : (b : D.Bound) (f : F.Frame) (w : World) → F.bounded M₁ b f w ≡ F.bounded (scene_machine x u) b f w
  bounded_same (D.by t) f w = rw (number_same t w)
  bounded_same (D.upto t) f w = rw (number_same t w)

  bounds_same : (bs : List D.Bound) (f : F.Frame) (w : World) → F.bounds M₁ bs f w ≡ F.bounds (scene_machine x u) bs f w
  unfolding F.bounds
  bounds_same [] f w = refl
  bounds_same (b ∷ bs) f w = rw (bounded_same b f w) (by (λ g y. bounds_same bs g y) (F.bounded (scene_machine x u) b f w))
    where
      by : ((g : F.Frame) (y : World) → F.bounds M₁ bs g y ≡ F.bounds (scene_machine x u) bs g y) → (R : Res Why F.Frame) → bind R (λ g y. F.bounds M₁ bs g y) ≡ bind R (λ g y. F.bounds (scene_machine x u) bs g y)
      by h (good g y) = h g y
      by h (bad e n) = refl

  start_as_lem : (k : ValueType) (g a : ℕ) (t : Tree) (bs : List D.Bound) (w : World) → F.start_as M₁ k g a t bs w ≡ F.start_as (scene_machine x u) k g a t bs w
  start_as_lem CharacterType g a t bs w = refl
  start_as_lem FixedType g a t bs w = rw (number_same t w) (by (F.number (scene_machine x u) t w))
    where
      by : (R : Res Why ℤ) → bind {B = F.Started} R (λ z y. bind (F.bounds M₁ bs (record { group = g; at = a; step = pos 1; to = F.no_to; is_once = true }) y) λ f v. good (record { frame = f; begins = F.passes f z }) (W.store a (Val.fixed z) v))
          ≡ bind {B = F.Started} R (λ z y. bind (F.bounds (scene_machine x u) bs (record { group = g; at = a; step = pos 1; to = F.no_to; is_once = true }) y) λ f v. good (record { frame = f; begins = F.passes f z }) (W.store a (Val.fixed z) v))
      by (good z y) = rw (bounds_same bs (record { group = g; at = a; step = pos 1; to = F.no_to; is_once = true }) y)
      by (bad e n) = refl

  start_in_lem : (d : W.Denotation) (a g : ℕ) (t : Tree) (bs : List D.Bound) (w : World) → F.start_in M₁ d a g t bs w ≡ F.start_in (scene_machine x u) d a g t bs w
  start_in_lem (variable_of k) a g t bs w = start_as_lem k g a t bs w
  start_in_lem (entry_of e b) a g t bs w = refl
  start_in_lem (label_at m r q) a g t bs w = refl
  start_in_lem builtin_name a g t bs w = refl

  pub start_same : (y : W.Address) (g : ℕ) (t : Tree) (bs : List D.Bound) (w : World) → F.start_at M₁ y g t bs w ≡ F.start_at (scene_machine x u) y g t bs w
  start_same (W.address a) g t bs w = start_in_lem (W.denotation a w) a g t bs w
  start_same W.unknown g t bs w = refl

-- ---- the target of a name
module _ (deck s names : List ℕ) (n : ℕ) (o : Owned) (t : Lexeme) (y : Meant) (e : meant_for y ≡ meant (owner_of o) (folded mixed (part (t.to - t.from) t.from s)) (names_world deck names n)) where
  pub target_variable : (a : ℕ) (k : ValueType) → y ≡ M.AVariable a k → TargetIs deck s names n o t (Some (a, k))
  target_variable a k f = record { name = y; is = e; variable = rw f }

  pub target_none : ((b : Option Place) × (y ≡ M.AnEntry b)) ⊎ ((y ≡ M.TheSubstr) ⊎ (y ≡ M.NoSuch)) → TargetIs deck s names n o t None
  target_none (inl (b, f)) = record { name = y; is = e; variable = rw f }
  target_none (inr (inl f)) = record { name = y; is = e; variable = rw f }
  target_none (inr (inr f)) = record { name = y; is = e; variable = rw f }

-- ---- RETURN
pub return_is : (w : List ℕ) (u : ℕ) (fs : Frames) (t : ValueType) (x : Evaluated) (w' : List ℕ) (y : Evaluated) → WithWish w u (Wi.As t) x w' y → (r : Turned) → r ≡ turned_by fs (step_of y) → ReturnIs w u fs t x w' r
return_is w u fs t x w' y i r e = rw e record { answer = y; frames = refl; step = refl; is = i }
