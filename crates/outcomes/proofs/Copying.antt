-- Values that are copied, each from where it lies.
-- Assumes nothing.
use Rattle.outcomes.specs.Types.{Scanned}
use Rattle.std.proofs.Common.{Option, Some, None, Result, Ok, Err}
use mathlib.Core.Path.{◌≡◌, refl, sym, ◌∙◌}
use mathlib.Core.Bool.{Bool, true, false}
use mathlib.Core.List.{List, []}
use mathlib.Core.Logic.{◌⊎◌, inl, inr}
use Prim.Native.Nat.{ℕ}
use lib.ListN.{length}
use Rattle.definition.specs.Limits.{fixed_width}
use Rattle.definition.specs.Lists.{part}
use Rattle.definition.specs.Room.{over}
use Rattle.definition.specs.Values as Val
use Rattle.definition.specs.Scan as D
use Rattle.definition.specs.declared.Why.{Why}
use Rattle.definition.specs.declared.Why.TheVariants.{NoValue}
use Rattle.definition.specs.declared.ValueType.{ValueType}
use Rattle.definition.specs.declared.ValueType.TheVariants.{FixedType, CharacterType}
use Rattle.definition.proofs.Parts.{length_part}
use Rattle.definition.proofs.Ranges.{text_wide}
use Rattle.fixed.specs.declared.Fixed.{Fixed}
use Rattle.meter.specs.declared.Meter.{Meter}
use Rattle.operators.specs.declared.Value.{Value}
use Rattle.operators.specs.declared.Value.TheVariants as O
use Rattle.operators.specs.Stands.{value_in, given_in}
use Rattle.operators.proofs.Room.{over_self}
use Rattle.store.specs.Cells.{cell_in, number_cell, LengthAt, slot, half}
use Rattle.outcomes.specs.declared.Dest.{Dest}
use Rattle.outcomes.specs.Places.{into_of}
use Rattle.outcomes.specs.Copies.{copied_value, work_copied, text_copied, CopiedValue, held_by, CopiedFrom}

-- ---- bytes, n of them, that fit or do not
module _ (w t bs : List ℕ) (d : Dest) (u n : ℕ) (m : Meter) (k : n ≡ length bs) (b : Bool) (g : b ≡ D.fits (into_of d) u 0 n) where
  fits_is : (c : Bool) → b ≡ c → D.fits (into_of d) u 0 (length bs) ≡ c
  fits_is c e = rw (← k, ← g) e

  pub went_up : (w' : List ℕ) → b ≡ true → d.to_work ≡ true → w' ≡ over w u bs → CopiedValue w t bs d u m w' t (Ok (n, m))
  unfolding copied_value work_copied text_copied
  went_up w' e f h = record { is = rw (fits_is true e, k); work = h ∙ rw (fits_is true e, f); text = rw (fits_is true e, f) }

  pub went_out : (t' : List ℕ) → b ≡ true → d.to_work ≡ false → t' ≡ over t d.at bs → CopiedValue w t bs d u m w t' (Ok (n, m))
  unfolding copied_value work_copied text_copied
  went_out t' e f h = record { is = rw (fits_is true e, k); work = rw (fits_is true e, f); text = h ∙ rw (fits_is true e, f) }

  pub went_nowhere : (y : Why) → b ≡ false → y ≡ D.full (into_of d) → CopiedValue w t bs d u m w t (Err (y, m))
  unfolding copied_value work_copied text_copied
  went_nowhere y e h = record { is = rw (fits_is false e, h); work = rw (fits_is false e); text = rw (fits_is false e) }

-- ---- bytes that lie at u
module _ (w t : List ℕ) (n : ℕ) (d : Dest) (u : ℕ) (m : Meter) (b : Bool) (g : b ≡ D.fits (into_of d) u 0 n) where
  pub value_work : b ≡ true → d.to_work ≡ true → CopiedValue w t (part n u w) d u m w t (Ok (n, m))
  value_work e f = went_up w t (part n u w) d u n m (sym (length_part n u w)) b g w e f (sym (over_self n u w))

  pub value_text : (t' : List ℕ) → b ≡ true → d.to_work ≡ false → t' ≡ over t d.at (part n u w) → CopiedValue w t (part n u w) d u m w t' (Ok (n, m))
  value_text t' e f h = went_out w t (part n u w) d u n m (sym (length_part n u w)) b g t' e f h

  pub value_full : (y : Why) → b ≡ false → y ≡ D.full (into_of d) → CopiedValue w t (part n u w) d u m w t (Err (y, m))
  value_full y e h = went_nowhere w t (part n u w) d u n m (sym (length_part n u w)) b g y e h

-- ---- a number
module _ (w t : List ℕ) (x : Fixed) (d : Dest) (u : ℕ) (m : Meter) (b : Bool) (g : b ≡ D.fits (into_of d) u 0 fixed_width) where
  wide : fixed_width ≡ length (Val.fixed_text x.value)
  wide = sym (text_wide x.value)

  pub number_work : (w' : List ℕ) → b ≡ true → d.to_work ≡ true → w' ≡ over w u (Val.fixed_text x.value) → CopiedValue w t (Val.fixed_text x.value) d u m w' t (Ok (fixed_width, m))
  number_work w' e f h = went_up w t (Val.fixed_text x.value) d u fixed_width m wide b g w' e f h

  pub number_text_lem : (t' : List ℕ) → b ≡ true → d.to_work ≡ false → t' ≡ over t d.at (Val.fixed_text x.value) → CopiedValue w t (Val.fixed_text x.value) d u m w t' (Ok (fixed_width, m))
  number_text_lem t' e f h = went_out w t (Val.fixed_text x.value) d u fixed_width m wide b g t' e f h

  pub number_full : (y : Why) → b ≡ false → y ≡ D.full (into_of d) → CopiedValue w t (Val.fixed_text x.value) d u m w t (Err (y, m))
  number_full y e h = went_nowhere w t (Val.fixed_text x.value) d u fixed_width m wide b g y e h

-- ---- the bytes of a variable, which lie at a place of the room s
module _ (w t s : List ℕ) (at n : ℕ) (d : Dest) (u : ℕ) (m : Meter) (b : Bool) (g : b ≡ D.fits (into_of d) u 0 n) where
  pub slot_work : (w' : List ℕ) → b ≡ true → d.to_work ≡ true → w' ≡ over w u (part n at s) → CopiedValue w t (part n at s) d u m w' t (Ok (n, m))
  slot_work w' e f h = went_up w t (part n at s) d u n m (sym (length_part n at s)) b g w' e f h

  pub slot_text : (t' : List ℕ) → b ≡ true → d.to_work ≡ false → t' ≡ over t d.at (part n at s) → CopiedValue w t (part n at s) d u m w t' (Ok (n, m))
  slot_text t' e f h = went_out w t (part n at s) d u n m (sym (length_part n at s)) b g t' e f h

  pub slot_full : (y : Why) → b ≡ false → y ≡ D.full (into_of d) → CopiedValue w t (part n at s) d u m w t (Err (y, m))
  slot_full y e h = went_nowhere w t (part n at s) d u n m (sym (length_part n at s)) b g y e h

-- ---- the value of a variable
module _ (c l h w t : List ℕ) (a : ℕ) (z : ValueType) (d : Dest) (u : ℕ) (m : Meter) where
  number_cell_lem : (x : Option Fixed) → number_cell x ≡ cell_in c [] [] FixedType a → number_cell x ≡ cell_in c l h FixedType a
  unfolding cell_in
  number_cell_lem x f = f

  module _ (e : z ≡ FixedType) (x : Option Fixed) (f : number_cell x ≡ cell_in c [] [] FixedType a) where
    pub variable_number : (n : Fixed) → x ≡ Some n → (w' t' : List ℕ) (r : Scanned) → CopiedValue w t (Val.fixed_text n.value) d u m w' t' r → CopiedFrom (held_by (cell_in c l h z a)) w t d u m w' t' r
    unfolding Val.to_characters
    variable_number n g w' t' r k = record { is = rw (e, ← number_cell_lem x f, g) k }

    pub variable_none : x ≡ None → CopiedFrom (held_by (cell_in c l h z a)) w t d u m w t (Err (NoValue, m))
    variable_none g = record { is = rw (e, ← number_cell_lem x f, g) (refl, refl, refl) }

  module _ (e : z ≡ CharacterType) (x : Option ℕ) (f : LengthAt c a x) where
    pub variable_text : (n : ℕ) → x ≡ Some n → (w' t' : List ℕ) (r : Scanned) → CopiedValue w t (part n (slot a) (half a l h)) d u m w' t' r → CopiedFrom (held_by (cell_in c l h z a)) w t d u m w' t' r
    unfolding Val.to_characters
    variable_text n g w' t' r k = record { is = rw (e, ← f.is l h, g) k }

    pub variable_empty : x ≡ None → CopiedFrom (held_by (cell_in c l h z a)) w t d u m w t (Err (NoValue, m))
    variable_empty g = record { is = rw (e, ← f.is l h, g) (refl, refl, refl) }

-- ---- what a procedure returned
module _ (w t : List ℕ) (y : Result Value Why) (d : Dest) (u : ℕ) (m : Meter) where
  pub result_none : (e : Why) → y ≡ Err e → CopiedFrom (given_in w u y) w t d u m w t (Err (e, m))
  unfolding given_in
  result_none e f = record { is = rw f (refl, refl, refl) }

  module _ (v : Value) (e : y ≡ Ok v) (w' t' : List ℕ) (r : Scanned) where
    pub result_number : (x : Fixed) → v ≡ O.Number x → CopiedValue w t (Val.fixed_text x.value) d u m w' t' r → CopiedFrom (given_in w u y) w t d u m w' t' r
    unfolding given_in value_in Val.to_characters
    result_number x f k = record { is = rw (e, f) k }

    pub result_text : (n : ℕ) → (v ≡ O.Characters n) ⊎ (v ≡ O.Bits n) → CopiedValue w t (part n u w) d u m w' t' r → CopiedFrom (given_in w u y) w t d u m w' t' r
    unfolding given_in value_in Val.to_characters
    result_text n (inl f) k = record { is = rw (e, f) k }
    result_text n (inr f) k = record { is = rw (e, f) k }
