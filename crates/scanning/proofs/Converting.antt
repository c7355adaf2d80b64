-- The outcome of an argument made of its parameter's type.
-- Assumes nothing.
use Rattle.outcomes.specs.Types.{Scanned}
use Rattle.std.proofs.Common.{Result, Ok, Err}
use mathlib.Core.Path.{◌≡◌, refl, ap}
use mathlib.Core.List.{List}
use Prim.Native.Nat.{ℕ, ◌+◌, ◌≤◌}
use lib.ListN.{length}
use Rattle.definition.specs.Lists.{part}
use Rattle.definition.specs.Values as Val
use Rattle.definition.specs.World.{ask}
use Rattle.definition.specs.declared.Why.{Why}
use Rattle.definition.specs.declared.ValueType.{ValueType}
use Rattle.meter.specs.declared.Meter.{Meter}
use Rattle.operators.specs.declared.Value.{Value}
use Rattle.operators.specs.declared.Value.TheVariants.{Characters}
use Rattle.operators.specs.Stands as O
use Rattle.operators.specs.Stands.{value_in, given_in, size_for, stacked}
use Rattle.callees.specs.Shown.{world_in}
use Rattle.scanning.specs.Cycle.{converted_by, ConvertedIs}

module _ (w : List ℕ) (u : ℕ) (t : ValueType) (x : Scanned) where
  pub converted_bad : (e : Why) (m : Meter) → x ≡ Err (e, m) → ConvertedIs w u t x w (Err (e, m))
  converted_bad e m f = rw f (record { is = λ l tf B c k h. refl; below = λ l tf. refl; meter = refl })

  module _ (n : ℕ) (m : Meter) (f : x ≡ Ok (n, m)) (w' : List ℕ) (g : Result Value Why) (gv : O.Gave w u (size_for (Characters n)) (stacked u (Val.convert t (value_in w u (Characters n)))) w' g) where
    given : 65536 ≤ length w → u + n ≤ 65536 → given_in w' u g ≡ converted_by u t (part n u w)
    unfolding size_for value_in converted_by
    given l tf = (gv.so (record { room = l; top = tf })).is

    below : 65536 ≤ length w → u + n ≤ 65536 → lib.ListN.take u w' ≡ lib.ListN.take u w
    unfolding size_for
    below l tf = (gv.so (record { room = l; top = tf })).below

    pub converted_is : (v : Value) → g ≡ Ok v → ConvertedIs w u t x w' (Ok (v, 0, m))
    unfolding given_in
    converted_is v e = rw f (record { is = λ l tf B c k h. ap (λ (z : Val.Answer Val.Value). ask z (world_in B c k h m.used)) (rw e at (given l tf)); below = λ l tf. below l tf; meter = refl })

    pub converted_fails : (y : Why) → g ≡ Err y → ConvertedIs w u t x w' (Err (y, m))
    unfolding given_in
    converted_fails y e = rw f (record { is = λ l tf B c k h. ap (λ (z : Val.Answer Val.Value). ask z (world_in B c k h m.used)) (rw e at (given l tf)); below = λ l tf. below l tf; meter = refl })
