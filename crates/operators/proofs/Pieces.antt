-- SUBSTR of a value where it stands.
-- Assumes nothing.
use Rattle.std.proofs.Common.{Result, Err, Option, Some, None}
use Rattle.definition.specs.declared.Why.{Why}
use mathlib.Core.Path.{◌≡◌, refl, sym, ap, ◌∙◌}
use mathlib.Core.Bool.{Bool, true, false, cond}
use mathlib.Core.List.{List, [], ◌∷◌}
use Prim.Native.Nat.{ℕ, zero, suc, ◌+◌, ◌-◌, ◌≤◌}
use native.Mathlib.Omega.{arith}
use borrow.Author.Tests.{leb-true}
use lib.Dec.{leb}
use lib.IntN.{ℤ, pos, negsuc}
use lib.ListN.{length}
use Rattle.definition.specs.Lists.{part}
use Rattle.definition.specs.Room.{over}
use Rattle.definition.specs.declared.Why.TheVariants.{SubstrOutside as substr_outside}
use Rattle.definition.specs.Values as D
use Rattle.definition.proofs.Parts.{length_part}
use Rattle.values.specs.Substr.{stretch, cut_at, cut_part, cut_rest}
use Rattle.values.proofs.Substr.{substr_rest, substr_part, piece_part}
use Rattle.operators.specs.declared.Value.{Value}
use Rattle.operators.specs.declared.Value.TheVariants.{Number, Characters, Bits}
use Rattle.operators.specs.Stands.{value_in, given_in, size_for, stacked, Gave, top_of, among_for, MovedDown}
use Rattle.operators.specs.Sides.{same_kind, Within, piece_of, Took}
use Rattle.operators.proofs.Room.{part_written, below_over, top_in_lem}
use Rattle.operators.proofs.Answers.{size_is, among_is}

-- n bytes that came down to u are the piece
piece_is : (w w' : List ℕ) (u : ℕ) (v : Value) (i n : ℕ) → i + n ≤ size_for v → part n u w' ≡ part n (u + i) w → value_in w' u (same_kind v n) ≡ D.piece (value_in w u v) i n
unfolding value_in same_kind size_for
piece_is w w' u (Number x) i n h e =
    let a : i ≡ 0 = omega arith in
    let b : n ≡ 0 = omega arith in
    rw (a, b)
piece_is w w' u (Characters k) i n h e = ap D.characters (e ∙ sym (piece_part k i n u w h))
piece_is w w' u (Bits k) i n h e = ap D.bit_value (e ∙ sym (piece_part k i n u w h))

pub took_piece : (w : List ℕ) (u : ℕ) (v : Value) (c : Option (ℕ × ℕ)) (i n t : ℕ) (w' : List ℕ) (k : Value) (g : Result Value Why) → c ≡ Some (i, n) → t ≡ top_of u i
    → MovedDown w t n u w' → k ≡ same_kind v n → g ≡ among_for u k → Took w u v c w' g
unfolding Within piece_of stacked
took_piece w u v c i n t w' k g e et d ek eg = rw e (record {
  so = λ h r.
      let place : t ≡ u + i = et ∙ top_in_lem u i (omega (arith, h, r.top)) in
      let moved : w' ≡ over w u (part n (u + i) w) = rw place at (d.is (omega (arith, place))) in
      let l : length (part n (u + i) w) ≡ n = length_part n (u + i) w in
      let bytes : part n u w' ≡ part n (u + i) w = part_written n u w w' (part n (u + i) w) (sym l) moved (omega (arith, l, h, r.top, r.room)) in
      record {
        is = rw (eg, ek) (among_is w' u (same_kind v n) ∙ ap (D.unfinished u) (piece_is w w' u v i n h bytes));
        below = below_over u u w w' (part n (u + i) w) (omega arith) moved;
      };
})

pub took_none : (w : List ℕ) (u : ℕ) (v : Value) (c : Option (ℕ × ℕ)) → ((i n : ℕ) → c ≡ Some (i, n) → ⊥) → Took w u v c w (Err substr_outside)
unfolding piece_of stacked given_in
took_none w u v (Some (i, n)) e = absurd (e i n refl)
took_none w u v None e = record { so = λ h r. record { is = refl; below = refl } }

-- a cut of the definition's lies within
within_stretch : (size i n : ℕ) → Within size (stretch size i n)
unfolding Within stretch
within_stretch size i n = go (leb (i + n) size) refl
  where
    go : (t : Bool) → leb (i + n) size ≡ t → Within size (cond t (Some (i, n)) None)
    go true e = leb-true (i + n) size e
    go false e = tt

within_at : (size i n : ℕ) → Within size (cut_at size i n)
unfolding Within cut_at
within_at size zero n = tt
within_at size (suc i) n = within_stretch size i n

within_part : (size : ℕ) (z y : ℤ) → Within size (cut_part size z y)
unfolding Within cut_part
within_part size (pos i) (pos n) = within_at size i n
within_part size (pos i) (negsuc n) = tt
within_part size (negsuc i) y = tt

within_rest : (size : ℕ) (z : ℤ) → Within size (cut_rest size z)
unfolding Within cut_rest
within_rest size (pos i) = within_at size i (size - (i - 1))
within_rest size (negsuc i) = tt

module _ (w : List ℕ) (u : ℕ) (v : Value) (size : ℕ) (es : size ≡ size_for v) (c : Option (ℕ × ℕ)) (w' : List ℕ) (g : Result Value Why) (d : Took w u v c w' g) where
  pub rest_took : (z : ℤ) → c ≡ cut_rest size z → Gave w u (size_for v) (stacked u (D.substr (value_in w u v ∷ D.fixed z ∷ []))) w' g
  unfolding piece_of
  rest_took z e = record {
    so = λ h.
        let s : c ≡ cut_rest (size_for v) z = rw es at e in
        rw (substr_rest (value_in w u v) (D.fixed z), size_is, ← s) (d.so (rw s (within_rest (size_for v) z)) h);
  }

  pub part_took : (z y : ℤ) → c ≡ cut_part size z y → Gave w u (size_for v) (stacked u (D.substr (value_in w u v ∷ D.fixed z ∷ D.fixed y ∷ []))) w' g
  unfolding piece_of
  part_took z y e = record {
    so = λ h.
        let s : c ≡ cut_part (size_for v) z y = rw es at e in
        rw (substr_part (value_in w u v) (D.fixed z) (D.fixed y) [], size_is, ← s) (d.so (rw s (within_part (size_for v) z y)) h);
  }
