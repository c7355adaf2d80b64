-- Names that are active.
-- Assumes nothing.
use Rattle.names.specs.declared.Activity.{Activity}
use Rattle.std.proofs.Common.{Option, Some, None}
use mathlib.Core.Path.{◌≡◌, refl, sym, ap, ◌∙◌}
use mathlib.Core.Bool.{Bool, true, false}
use mathlib.Core.Logic.{◌⊎◌, inl, inr}
use mathlib.Core.List.{List, [], ◌∷◌}
use Prim.Native.Nat.{ℕ, zero, suc, ◌+◌, ◌-◌, ◌<◌, ◌≤◌}
use native.Mathlib.Nat.{zero-add, add-zero}
use native.Mathlib.Omega.{arith}
use lib.ListN.{length, get_or}
use Rattle.definition.specs.Bytes.{mixed, folded}
use Rattle.definition.specs.Choice.{when}
use Rattle.definition.specs.Lists.{part}
use Rattle.definition.specs.Tokens as T
use Rattle.definition.specs.World as W
use Rattle.definition.specs.World.{World, address_in, is_identifier}
use Rattle.definition.specs.Scan as D
use Rattle.definition.proofs.Parts.{part_of_part}
use Rattle.definition.proofs.Ends.{piece_at_past}
use Rattle.tokens.specs.declared.Piece.{Piece}
use Rattle.tokens.specs.declared.PieceKind.TheVariants as K
use Rattle.tokens.specs.Answer.{piece_kind, piece_of}
use Rattle.tokens.proofs.Pieces.{piece_is}
use Rattle.names.specs.declared.Address.{Address}
use Rattle.names.specs.declared.Name.{Name}
use Rattle.names.specs.Table.{name_in, activity_of, identifiers_from, found_for}
use Rattle.sums.specs.Numbers.{greatest, sum_to}
use Rattle.sums.proofs.Laws.{sum_fits}
use Rattle.outcomes.specs.declared.Src.{Src}
use Rattle.outcomes.specs.Texts.{stretch_of, active_for, activities_from, ActiveIs, ActiveHere}
use Rattle.outcomes.proofs.Sources.{stretch_length}

pub never : (A : Type 0) → ◌≡◌ {A = ℕ} 0 1 → A
never A e = absurd (omega arith)

-- ---- addresses are numbers of the table
ids_length : (d t : List ℕ) (a n : ℕ) → length (identifiers_from d t a n) ≡ n
unfolding identifiers_from
ids_length d t a zero = refl
ids_length d t a (suc n) = ap suc (ids_length d t (suc a) n)

address_low : (l : List ℕ) (k : W.Owner) (b : ℕ) (is : List W.Identifier) (a : ℕ) → address_in l k b is ≡ W.address a → a < b + length is
unfolding address_in
address_low l k b [] a e = never _ (cc)
address_low l k b (i ∷ is) a e = by (is_identifier l k i) (λ g. address_low l k (suc b) is a g) e
  where
    by : (v : Bool) → (address_in l k (suc b) is ≡ W.address a → a < suc b + length is) → when v (λ _. W.address b) (λ _. address_in l k (suc b) is) ≡ W.address a → a < b + length (i ∷ is)
    by true f g = let h : b ≡ a = cc in omega arith
    by false f g = omega (arith, f g)

activities_at : (t : List ℕ) (b n i : ℕ) → i < n → get_or (activities_from t b n) i W.inactive ≡ activity_of (name_in t (b + i)).activity
unfolding activities_from
activities_at t b zero i h = absurd (omega arith)
activities_at t b (suc n) zero h = rw add-zero
activities_at t b (suc n) (suc i) h = let e : b + suc i ≡ suc b + i = omega arith in rw e (activities_at t (suc b) n i (omega arith))

found_known : (x : W.Address) (a : Address) → Some a ≡ found_for x → x ≡ W.address a.0
found_known (W.address b) a e = let h : a ≡ record { 0 = b } = cc in ap W.address (sym (ap (λ (y : Address). y.0) h))
found_known W.unknown a e = never _ (cc)

found_unknown : (x : W.Address) → None ≡ found_for x → x ≡ W.unknown
found_unknown (W.address b) e = never _ (cc)
found_unknown W.unknown e = refl

module _ (d t : List ℕ) (n : ℕ) (l : List ℕ) (f : Option Address) (g : f ≡ found_for (address_in l W.everyone 0 (identifiers_from d t 0 n))) where
  pub name_unknown : f ≡ None → ActiveIs d t n l None
  unfolding D.active_name
  name_unknown e = record { is = λ B k. rw (k.identifiers, found_unknown (address_in l W.everyone 0 (identifiers_from d t 0 n)) (sym e ∙ g)) }

  pub name_known : (a : Address) (x : Name) (r : Option (Address × Activity)) → f ≡ Some a → x ≡ name_in t a.0 → active_for r ≡ D.active_as (activity_of x.activity) a.0 → ActiveIs d t n l r
  unfolding D.active_name
  name_known a x r e h q = record {
    is = λ B k.
        let z : address_in l W.everyone 0 (identifiers_from d t 0 n) ≡ W.address a.0 = found_known (address_in l W.everyone 0 (identifiers_from d t 0 n)) a (sym e ∙ g) in
        let low : a.0 < n = omega (arith, address_low l W.everyone 0 (identifiers_from d t 0 n) a.0 z, ids_length d t 0 n) in
        let v : get_or B.activities a.0 W.inactive ≡ activity_of x.activity =
        rw k.activities (activities_at t 0 n a.0 low ∙ rw (zero-add, h)) in
        q ∙ sym (rw (k.identifiers, z, v));
  }

-- ---- the token at a place of a source
not_active_lem : (x : T.Piece) (B : World) → (piece_kind x ≡ K.Plain) ⊎ (piece_kind x ≡ K.Unclosed) → D.active_in x B ≡ D.not_active
not_active_lem (T.name w) B (inl e) = never _ (cc)
not_active_lem (T.name w) B (inr e) = never _ (cc)
not_active_lem T.plain B e = refl
not_active_lem T.unclosed B e = refl

module _ (d names : List ℕ) (n : ℕ) (t : List ℕ) (x : Src) (p : ℕ) (y : Piece) where
  abbrev here : List ℕ
  here = stretch_of t x.from x.to

  pub here_plain : (y.kind ≡ K.Plain) ⊎ (y.kind ≡ K.Unclosed) → ActiveHere d names n t x p y None
  here_plain e = record { is = λ B k w h g. sym (not_active_lem (T.piece_at mixed here p).piece B (rw g at e)) }

  pub here_name : (l : List ℕ) (from m : ℕ) (r : Option (Address × Activity)) → y.kind ≡ K.Name → l ≡ t → from ≡ sum_to greatest x.from p → m ≡ y.to - p → ActiveIs d names n (folded mixed (part m from l)) r → ActiveHere d names n t x p y r
  unfolding stretch_of
  here_name l from m r e f i j a = record {
    is = λ B k w h g.
        let q : T.piece_at mixed here p ≡ T.cut (piece_of y.kind (part (y.to - p) p here)) y.to = piece_is here p y (record { is = λ _. g }) (rw (stretch_length t x.from x.to) h) in
        let past = piece_at_past here p (rw (stretch_length t x.from x.to) h) in
        let top : y.to ≡ (T.piece_at mixed here p).to = ap (λ (z : Piece). z.to) g in
        let up : y.to ≤ x.to - x.from = omega (arith, past.within, stretch_length t x.from x.to) in
        let lower : p < y.to = omega (arith, past.above) in
        let u : from ≡ x.from + p = i ∙ sum_fits x.from p (omega (arith, w.short)) in
        let v : part (y.to - p) p here ≡ part m from l = part_of_part (y.to - p) p (x.to - x.from) x.from t (omega arith) ∙ rw (u, j, f) in
        a.is B k ∙ sym (ap (λ (z : T.Cut). D.active_in z.piece B) q ∙ rw (e, v));
  }
