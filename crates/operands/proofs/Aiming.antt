-- A name with a list: whose arguments it takes, the call, and SUBSTR.
-- Assumes nothing.
use Rattle.operands.specs.Types.{Evaluated}
use Rattle.operands.specs.declared.Target.{Target}
use Rattle.std.proofs.Common.{Option, Result, Ok, Err}
use Rattle.names.specs.declared.Place.{Place}
use mathlib.Core.Path.{◌≡◌, refl, sym, ap, ◌∙◌}
use mathlib.Core.List.{List, [], ◌∷◌}
use mathlib.Core.Logic.{◌⊎◌, inl, inr}
use Prim.Native.Nat.{ℕ, ◌+◌, ◌<◌, ◌≤◌}
use native.Mathlib.Omega.{arith}
use borrow.Author.Tests.{lt-ltb, le-ltb}
use lib.ListN.{length}
use Rattle.definition.specs.Values as Val
use Rattle.definition.specs.World.{ask}
use Rattle.definition.specs.Evaluate.{put}
use Rattle.definition.specs.declared.Why.{Why}
use Rattle.definition.specs.declared.Why.TheVariants.{WrongName}
use Rattle.definition.specs.declared.ValueType.{ValueType}
use Rattle.fixed.specs.declared.Fixed.{Fixed}
use Rattle.meter.specs.declared.Meter.{Meter}
use Rattle.operators.specs.declared.Value.{Value}
use Rattle.operators.specs.Stands.{size_for, value_in, stacked, Stood}
use Rattle.operators.specs.Stands as O
use Rattle.operators.proofs.Callers as R
use Rattle.callees.specs.declared.Held.{Held}
use Rattle.callees.specs.declared.Callee.{Callee}
use Rattle.callees.specs.Shown.{world_in}
use Rattle.callees.specs.Answer.{FixedHeld}
use Rattle.operands.specs.declared.Target.TheVariants as T
use Rattle.operands.specs.Answer.{size_of, evaluated_for}
use Rattle.operands.specs.Takes.{substr_values, SubstrDone}
use Rattle.operands.proofs.Leaves.{res_given, given_end, given_meter}
use borrow.Author.Tests.{eq-eqb, ne_eqb}
use Rattle.definition.specs.declared.Why.TheVariants.{WrongArguments}
use Rattle.rows.specs.declared.Starts.{Starts}
use Rattle.callees.specs.declared.Meant.{Meant}
use Rattle.callees.specs.declared.Meant.TheVariants as M
use Rattle.callees.specs.Answer.{CalleeOf}
use Rattle.operands.specs.Takes.{aim_for, AimIs}

-- ---- SUBSTR
given_fits : (w : List ℕ) (u to : ℕ) (m : Meter) (a : Val.Answer Val.Value) (w' : List ℕ) (g : Result Value Why) → u ≤ 65536 → Stood w u (stacked u a) w' g → u + size_of (evaluated_for g to m) ≤ 65536
given_fits w u to m a w' (Ok y) h s = R.stood_fits w u a w' y s
given_fits w u to m a w' (Err y) h s = omega (arith, h)

module _ (w : List ℕ) (u n : ℕ) (k : Held) (f : Value) (to : ℕ) (m : Meter) (w' : List ℕ) (g : Result Value Why) (vs : List Val.Value) (e : substr_values w u n f k ≡ vs) (ga : O.Gave w u (size_for f) (stacked u (Val.substr vs)) w' g) where
  stood : 65536 ≤ length w → u + size_for f ≤ 65536 → Stood w u (stacked u (Val.substr vs)) w' g
  stood i j = ga.so (record { room = i; top = j })

  substr_done : SubstrDone w u n k f to m w' (evaluated_for g to m)
  substr_done = record {
    is = λ i j B c l h. res_given B c l h w' u g to m ∙ ap (λ (a : Val.Answer Val.Value). ask a (world_in B c l h m.used)) (stood i j).is ∙ sym (R.put_is u (Val.substr vs) (world_in B c l h m.used)) ∙ ap (λ (a : List Val.Value). put u (Val.substr a) (world_in B c l h m.used)) (sym e);
    end = given_end g to m;
    below = λ i j. (stood i j).below;
    fits = λ i j. given_fits w u to m (Val.substr vs) w' g (omega (arith, j)) (stood i j);
    limit = given_meter g to m;
  }

module _ (w : List ℕ) (u n : ℕ) (k : Held) (f : Value) (to : ℕ) (m : Meter) (a : Fixed) (fa : FixedHeld k 1 a) (w' : List ℕ) (g : Result Value Why) (r : Evaluated) (re : r ≡ evaluated_for g to m) where
  pub substr_two : n < 3 → O.Gave w u (size_for f) (stacked u (Val.substr (value_in w u f ∷ Val.fixed a.value ∷ []))) w' g → SubstrDone w u n k f to m w' r
  substr_two h ga = rw re (substr_done w u n k f to m w' g (value_in w u f ∷ Val.fixed a.value ∷ []) (rw (lt-ltb n 3 h, fa.is)) ga)

  pub substr_three : 3 ≤ n → (b : Fixed) → FixedHeld k 2 b → O.Gave w u (size_for f) (stacked u (Val.substr (value_in w u f ∷ Val.fixed a.value ∷ Val.fixed b.value ∷ []))) w' g → SubstrDone w u n k f to m w' r
  substr_three h b fb ga = rw re (substr_done w u n k f to m w' g (value_in w u f ∷ Val.fixed a.value ∷ Val.fixed b.value ∷ []) (rw (le-ltb n 3 h, fa.is, fb.is)) ga)

-- ---- the aim
module _ (deck rows : List ℕ) (starts : Starts) (names : List ℕ) (k : ℕ) (x : Meant) (n : ℕ) where
  pub aim_none : ((a : ℕ) × (t : ValueType) × (x ≡ M.AVariable a t)) ⊎ (x ≡ M.NoSuch) → AimIs deck rows starts names k x n (Err WrongName)
  aim_none (inl (a, t, e)) = rw e record { is = refl }
  aim_none (inr e) = rw e record { is = refl }

  pub aim_substr : x ≡ M.TheSubstr → (n ≡ 2) ⊎ ((n ≡ 2 → ⊥) × (n ≡ 3)) → AimIs deck rows starts names k x n (Ok (T.Substr n))
  aim_substr e (inl f) = rw e record { is = rw f }
  aim_substr e (inr f) = rw e record { is = rw f.1 }

  pub aim_wrong : x ≡ M.TheSubstr → (n ≡ 2 → ⊥) × (n ≡ 3 → ⊥) → AimIs deck rows starts names k x n (Err WrongArguments)
  aim_wrong e f = rw e record { is = rw (ne_eqb n 2 f.0, ne_eqb n 3 f.1) }

  module _ (b : Option Place) (e : x ≡ M.AnEntry b) (y : Result Callee Why) (co : CalleeOf deck rows starts names k b y) where
    entry_by : (r : Result Target Why) → r ≡ aim_for y n → AimIs deck rows starts names k x n r
    entry_by r f = rw e record { is = (y, co, f) }

    pub aim_fails : (w : Why) → y ≡ Err w → AimIs deck rows starts names k x n (Err w)
    aim_fails w f = entry_by (Err w) (rw f)

    pub aim_entry : (z : Callee) → y ≡ Ok z → z.count ≡ n → AimIs deck rows starts names k x n (Ok (T.Entry z))
    aim_entry z f g = entry_by (Ok (T.Entry z)) (rw (f, eq-eqb z.count n g))

    pub aim_other : (z : Callee) → y ≡ Ok z → (z.count ≡ n → ⊥) → AimIs deck rows starts names k x n (Err WrongArguments)
    aim_other z f g = entry_by (Err WrongArguments) (rw (f, ne_eqb z.count n g))
