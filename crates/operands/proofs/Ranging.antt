-- Values in the rooms are in their range, as the definition's theorem says, so what is converted is of its type.
-- Assumes nothing.
use mathlib.Core.Path.{◌≡◌, refl, sym, ap, ◌∙◌}
use mathlib.Core.Bool.{Bool, true, false, cond}
use mathlib.Core.List.{List, [], ◌∷◌}
use Prim.Native.Nat.{ℕ, zero, suc, ◌+◌, ◌≤◌}
use native.Mathlib.Nat.{add-zero, zero-add}
use native.Mathlib.Omega.{arith}
use lib.Dec.{leb}
use lib.IntN.{ℤ}
use lib.ListN.{length, get_or}
use Rattle.definition.specs.Lists.{part}
use Rattle.definition.specs.Fixed as F
use Rattle.definition.specs.Expressions.{Tree}
use Rattle.definition.specs.Values as Val
use Rattle.definition.specs.World as W
use Rattle.definition.specs.World.{World, good, variable_of, entry_of, label_at, builtin_name}
use Rattle.definition.specs.declared.Why.TheVariants.{TooLong}
use Rattle.definition.specs.declared.ValueType.{ValueType}
use Rattle.definition.specs.declared.ValueType.TheVariants.{FixedType, CharacterType}
use Rattle.definition.proofs.Parts.{length_part}
use Rattle.definition.proofs.Keeping.{Gives, given, OfCell}
use Rattle.definition.proofs.Ranges.{Small, Fine, FineWorld, to_fixed_small, to_characters_short, evaluate_fine}
use Rattle.fixed.specs.Signed.{from_stored}
use Rattle.names.specs.Table.{owner_of}
use Rattle.store.specs.Cells.{slot, half, fixed_cell, character_cell, cell_in}
use Rattle.operators.specs.declared.Value.{Value}
use Rattle.operators.specs.declared.Value.TheVariants.{Number, Characters, Bits}
use Rattle.operators.specs.Stands.{value_in, stacked}
use Rattle.callees.specs.Shown.{cell_as, values_from, world_in, Slots, Typed}
use Rattle.callees.specs.Answer.{on_of}
use Rattle.operands.specs.declared.Scene.{Scene}
use Rattle.operands.specs.Answer.{value_of}

-- ---- the cells
fixed_fine : (z : ℤ) → OfCell Fine (fixed_cell (F.ranged z))
unfolding F.ranged
fixed_fine z = by (F.in_range z) refl
  where
    by : (b : Bool) → F.in_range z ≡ b → OfCell Fine (fixed_cell (cond b (F.is z) F.out_of_range))
    by true e = e
    by false e = tt

text_fine : (n at : ℕ) (l : List ℕ) → n ≤ 513 → OfCell Fine (character_cell n at l)
text_fine zero at l h = tt
text_fine (suc n) at l h = omega (arith, h, length_part n at l)

cell_fine : (c l h : List ℕ) (a : ℕ) (d : W.Denotation) → (d ≡ variable_of CharacterType → get_or c a 0 ≤ 513) → OfCell Fine (cell_as d a c l h)
unfolding cell_in from_stored
cell_fine c l h a (variable_of FixedType) s = fixed_fine _
cell_fine c l h a (variable_of CharacterType) s = text_fine (get_or c a 0) (slot a) (half a l h) (s refl)
cell_fine c l h a (entry_of x y) s = tt
cell_fine c l h a (label_at m r x) s = tt
cell_fine c l h a builtin_name s = tt

cells_fine : (c l h : List ℕ) (ds : List W.Denotation) (b : ℕ) → ((j : ℕ) → get_or ds j builtin_name ≡ variable_of CharacterType → get_or c (b + j) 0 ≤ 513) → (a : ℕ) → OfCell Fine (get_or (values_from ds b c l h) a W.no_value)
unfolding values_from
cells_fine c l h [] b s a = tt
cells_fine c l h (d ∷ ds) b s zero = cell_fine c l h b d (λ e. rw add-zero at (s 0 e))
cells_fine c l h (d ∷ ds) b s (suc a) = cells_fine c l h ds (suc b) (λ j e. let f : suc b + j ≡ b + suc j = omega arith in rw f (s (suc j) e)) a

pub slots_fine : (B : World) (c l h : List ℕ) (n : ℕ) → Slots B.denotations c l h → FineWorld (world_in B c l h n)
slots_fine B c l h n s = record { cells = cells_fine c l h B.denotations 0 (λ j e. rw zero-add (s.short j e)) }

-- ---- the value of a tree
pub value_fine : (B : World) (c l h : List ℕ) (x : Scene) (t : Tree) (u n : ℕ) (v : Val.Value) (y : World) → Slots B.denotations c l h → value_of x t u (world_in B c l h n) ≡ good v y → Fine v
unfolding value_of
value_fine B c l h x t u n v y s e = (evaluate_fine x.running.left (on_of x.running) (owner_of x.owner) t u (world_in B c l h n) (slots_fine B c l h n s) e).0

-- ---- what is converted
pub stacked_gives : (u : ℕ) (v x : Val.Value) → Val.gives v ≡ stacked u (Val.gives x) → v ≡ x
unfolding stacked Val.unfinished
stacked_gives u v x e = by (leb (u + Val.size_of x) 65536) e
  where
    by : (b : Bool) → Val.gives v ≡ cond b (Val.gives x) (Val.fails TooLong) → v ≡ x
    by true f = cc
    by false f = absurd (let z : ◌≡◌ {A = ℕ} 0 1 = cc in omega arith)

given_it : {A : Type 0} {P : A → Type 0} {a : A} → Gives P (Val.gives a) → P a
given_it (given h) = h

number_typed : (w : List ℕ) (u : ℕ) (y : Value) (z : ℤ) → value_in w u y ≡ Val.fixed z → Small z → Typed FixedType y
unfolding value_in
number_typed w u (Number x) z e h = let f : x.value ≡ z = cc in rw f h
number_typed w u (Characters n) z e h = absurd (let q : ◌≡◌ {A = ℕ} 0 1 = cc in omega arith)
number_typed w u (Bits n) z e h = absurd (let q : ◌≡◌ {A = ℕ} 0 1 = cc in omega arith)

text_typed : (w : List ℕ) (u : ℕ) (y : Value) (l : List ℕ) → value_in w u y ≡ Val.characters l → length l ≤ 512 → Typed CharacterType y
unfolding value_in
text_typed w u (Number x) l e h = absurd (let q : ◌≡◌ {A = ℕ} 0 1 = cc in omega arith)
text_typed w u (Characters n) l e h = let f : part n u w ≡ l = cc in let g : n ≡ length l = sym (length_part n u w) ∙ ap length f in omega (arith, g, h)
text_typed w u (Bits n) l e h = absurd (let q : ◌≡◌ {A = ℕ} 0 1 = cc in omega arith)

no_value_lem : (u : ℕ) (v : Val.Value) (f : Rattle.definition.specs.declared.Why.Why) {A : Type 0} → Val.gives v ≡ stacked u (Val.fails f) → A
unfolding stacked
no_value_lem u v f e = absurd (let q : ◌≡◌ {A = ℕ} 0 1 = cc in omega arith)

pub convert_typed : (t : ValueType) (o : Val.Value) (w : List ℕ) (u : ℕ) (y : Value) → Fine o → Val.gives (value_in w u y) ≡ stacked u (Val.convert t o) → Typed t y
unfolding Val.convert
convert_typed FixedType o w u y f e = by (Val.to_fixed o) (to_fixed_small o f) e
  where
    by : (a : Val.Answer ℤ) → Gives Small a → Val.gives (value_in w u y) ≡ stacked u (Val.and_then a (λ z. Val.gives (Val.fixed z))) → Typed FixedType y
    by (Val.gives z) k g = number_typed w u y z (stacked_gives u (value_in w u y) (Val.fixed z) g) (given_it k)
    by (Val.fails q) k g = no_value_lem u (value_in w u y) q g
convert_typed CharacterType o w u y f e = text_typed w u y (Val.to_characters o) (stacked_gives u (value_in w u y) (Val.characters (Val.to_characters o)) e) (to_characters_short o f)
