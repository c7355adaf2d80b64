-- What a caller makes of the contracts: what is given lies within the limit, and what still stands below.
-- Assumes nothing.
use Rattle.std.proofs.Common.{Ok}
use mathlib.Core.Path.{◌≡◌, refl, sym, ap, ◌∙◌}
use mathlib.Core.Bool.{Bool, true, false, cond}
use mathlib.Core.List.{List}
use Prim.Native.Nat.{ℕ, ◌+◌, ◌≤◌}
use borrow.Author.Tests.{leb-true}
use lib.Dec.{leb}
use lib.ListN.{take}
use lib.Seq.{take-take}
use Rattle.definition.specs.declared.Why.TheVariants.{TooLong as too_long}
use Rattle.definition.specs.Values as D
use Rattle.definition.specs.World.{World, ask}
use Rattle.definition.specs.Evaluate.{put}
use Rattle.operators.specs.declared.Value.{Value}
use Rattle.operators.specs.declared.Value.TheVariants.{Number, Characters, Bits}
use Rattle.operators.specs.Stands.{value_in, given_in, size_for, stacked, Stood}
use Rattle.operators.proofs.Room.{part_below}
use Rattle.operators.proofs.Answers.{size_is}
use Rattle.operators.proofs.Texts.{never}

-- the definition's `put` asks for what is stacked
pub put_is : (u : ℕ) (a : D.Answer D.Value) (w : World) → put u a w ≡ ask (stacked u a) w
unfolding put stacked
put_is u a w = refl

-- ---- what is given lies within the limit
stacked_fits : (u : ℕ) (a : D.Answer D.Value) (v : D.Value) → D.gives v ≡ stacked u a → u + D.size_of v ≤ 65536
unfolding stacked D.unfinished
stacked_fits u (D.fails y) v e = never _ (cc)
stacked_fits u (D.gives x) v e = go (leb (u + D.size_of x) 65536) refl e
  where
    go : (t : Bool) → leb (u + D.size_of x) 65536 ≡ t → D.gives v ≡ cond t (D.gives x) (D.fails too_long) → u + D.size_of v ≤ 65536
    go true f g = let h : v ≡ x = cc in rw h (leb-true (u + D.size_of x) 65536 f)
    go false f g = never _ (cc)

module _ (w : List ℕ) (u : ℕ) (a : D.Answer D.Value) (w' : List ℕ) (v : Value) (s : Stood w u (stacked u a) w' (Ok v)) where
  pub stood_fits : u + size_for v ≤ 65536
  unfolding given_in
  stood_fits = rw size_is at (stacked_fits u a (value_in w' u v) s.is)

-- ---- what stands below stays
pub below_less : (k u : ℕ) (w w' : List ℕ) → k ≤ u → take u w' ≡ take u w → take k w' ≡ take k w
below_less k u w w' h e = sym (take-take k u w' h) ∙ ap (take k) e ∙ take-take k u w h

pub value_below : (k u : ℕ) (w w' : List ℕ) (v : Value) → take k w' ≡ take k w → u + size_for v ≤ k → value_in w' u v ≡ value_in w u v
unfolding value_in size_for
value_below k u w w' (Number x) e h = refl
value_below k u w w' (Characters n) e h = ap D.characters (part_below n u k w w' e h)
value_below k u w w' (Bits n) e h = ap D.bit_value (part_below n u k w w' e h)
