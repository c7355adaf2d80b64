-- Arguments that are held: one more behind those that wait already. For scan_arguments.
-- Assumes nothing.
use mathlib.Core.Path.{◌≡◌, refl, ap, ◌∙◌}
use mathlib.Core.List.{List, [], ◌∷◌, ◌++◌}
use Prim.Native.Nat.{ℕ, suc, ◌+◌, ◌<◌, ◌≤◌}
use native.Mathlib.Nat.{add-zero}
use native.Mathlib.Omega.{arith}
use borrow.Author.Tests.{lt-ltb}
use lib.ListN.{length, take}
use lib.Seq.{get_or-set_same, get_or-set_other}
use Rattle.definition.specs.Lists.{part}
use Rattle.definition.specs.Values as Val
use Rattle.definition.specs.Evaluate as Ev
use Rattle.definition.specs.declared.ValueType.{ValueType}
use Rattle.definition.specs.declared.ValueType.TheVariants.{FixedType, CharacterType}
use Rattle.operators.specs.declared.Value.{Value}
use Rattle.operators.proofs.Room.{part_below}
use Rattle.fixed.specs.Signed.{from_stored}
use Rattle.callees.specs.declared.Held.{Held}
use Rattle.callees.specs.Answer.{held_number, HeldWith, held_at, number_of, fixed_in, held_in, held_size, held_from, Waiting}

-- the place above the arguments from number j on, which lie above u
unfoldable pub held_end : Held → ℕ → ℕ → List Ev.Parameter → ℕ
held_end h j u [] = u
held_end h j u (p ∷ ps) = held_end h (suc j) (u + held_size h j p.type) ps

pub end_low : (h : Held) (j u : ℕ) (ps : List Ev.Parameter) → u ≤ held_end h j u ps
unfolding held_end
end_low h j u [] = omega arith
end_low h j u (p ∷ ps) = let k : u + held_size h j p.type ≤ held_end h (suc j) (u + held_size h j p.type) ps = end_low h (suc j) (u + held_size h j p.type) ps in omega arith

-- one more is held, at i
module _ (h r : Held) (i : ℕ) (v : Value) (hw : HeldWith h i v r) (lt : i < 256) (size : length h.numbers ≡ 256) where
  pub held_here : held_at r i ≡ held_number v
  held_here = rw (lt-ltb i 256 lt, hw.is lt) (get_or-set_same h.numbers i (held_number v) 0 (omega (arith, size)))

  pub held_there : (j : ℕ) → j < i → held_at r j ≡ held_at h j
  held_there j k = rw (lt-ltb j 256 (omega arith), hw.is lt) (get_or-set_other h.numbers i j (held_number v) 0 (λ e. omega arith))

  fixed_there : (j : ℕ) → j < i → fixed_in r j ≡ fixed_in h j
  unfolding fixed_in
  fixed_there j k = ap (λ (z : ℕ). number_of (from_stored z)) (held_there j k)

  size_there : (j : ℕ) (t : ValueType) → j < i → held_size r j t ≡ held_size h j t
  size_there j FixedType k = refl
  size_there j CharacterType k = held_there j k

  in_there : (w w' : List ℕ) (top j u : ℕ) (t : ValueType) → j < i → take top w' ≡ take top w → u + held_size h j t ≤ top → held_in w' r j u t ≡ held_in w h j u t
  in_there w w' top j u FixedType k e f = ap Val.fixed (fixed_there j k)
  in_there w w' top j u CharacterType k e f = ap Val.characters (ap (λ (z : ℕ). part z u w') (held_there j k) ∙ part_below (held_at h j) u top w w' e f)

  pub end_there : (j u : ℕ) (ps : List Ev.Parameter) → j + length ps ≤ i → held_end r j u ps ≡ held_end h j u ps
  unfolding held_end
  end_there j u [] k = refl
  end_there j u (p ∷ ps) k = rw (size_there j p.type (omega arith)) (end_there (suc j) (u + held_size h j p.type) ps (omega arith))

  pub from_there : (w w' : List ℕ) (top j u : ℕ) (ps : List Ev.Parameter) → j + length ps ≤ i → take top w' ≡ take top w → held_end h j u ps ≤ top → held_from w' r j u ps ≡ held_from w h j u ps
  unfolding held_from held_end
  from_there w w' top j u [] k e f = refl
  from_there w w' top j u (p ∷ ps) k e f =
      let lo : u + held_size h j p.type ≤ held_end h (suc j) (u + held_size h j p.type) ps = end_low h (suc j) (u + held_size h j p.type) ps in
      let a : held_in w' r j u p.type ≡ held_in w h j u p.type = in_there w w' top j u p.type (omega arith) e (omega arith) in
      let b : held_from w' r (suc j) (u + held_size h j p.type) ps ≡ held_from w h (suc j) (u + held_size h j p.type) ps = from_there w w' top (suc j) (u + held_size h j p.type) ps (omega arith) e f in
      rw (size_there j p.type (omega arith), a, b)

  pub waiting_there : (j u : ℕ) (ps : List Ev.Parameter) → j + length ps ≤ i → Waiting h j u ps → Waiting r j u ps
  waiting_there j u [] k x = tt
  waiting_there j u (p ∷ ps) k x = rw (size_there j p.type (omega arith)) (x.0, x.1, waiting_there (suc j) (u + held_size h j p.type) ps (omega arith) x.2)

-- the one behind the others
pub from_more : (w : List ℕ) (h : Held) (j u : ℕ) (ps : List Ev.Parameter) (q : Ev.Parameter) → held_from w h j u (ps ++ q ∷ []) ≡ held_from w h j u ps ++ held_in w h (j + length ps) (held_end h j u ps) q.type ∷ []
unfolding held_from held_end
from_more w h j u [] q = rw add-zero
from_more w h j u (p ∷ ps) q = let e : j + suc (length ps) ≡ suc j + length ps = omega arith in rw e (ap (λ (l : List Val.Value). held_in w h j u p.type ∷ l) (from_more w h (suc j) (u + held_size h j p.type) ps q))

pub end_more : (h : Held) (j u : ℕ) (ps : List Ev.Parameter) (q : Ev.Parameter) → held_end h j u (ps ++ q ∷ []) ≡ held_end h j u ps + held_size h (j + length ps) q.type
unfolding held_end
end_more h j u [] q = rw add-zero
end_more h j u (p ∷ ps) q = let e : j + suc (length ps) ≡ suc j + length ps = omega arith in rw e (end_more h (suc j) (u + held_size h j p.type) ps q)

pub waiting_more : (h : Held) (j u : ℕ) (ps : List Ev.Parameter) (q : Ev.Parameter) → Waiting h j u ps → held_size h (j + length ps) q.type ≤ 512 → held_end h j u ps + held_size h (j + length ps) q.type ≤ 65536 → Waiting h j u (ps ++ q ∷ [])
unfolding held_end
waiting_more h j u [] q x a b = let e : j + 0 ≡ j = omega arith in (rw e at a, rw e at b, tt)
waiting_more h j u (p ∷ ps) q x a b = let e : j + suc (length ps) ≡ suc j + length ps = omega arith in (x.0, x.1, waiting_more h (suc j) (u + held_size h j p.type) ps q x.2 (rw e at a) (rw e at b))
