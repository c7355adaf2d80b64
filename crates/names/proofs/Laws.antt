-- One law for each way out of a function on names; a record reads back as it was written.
-- Assumes nothing.
use Rattle.names.specs.declared.Place.{Place}
use Rattle.std.proofs.Common.{Option, Some, None}
use mathlib.Core.Path.{◌≡◌, refl, sym, ap, ◌∙◌}
use mathlib.Core.Bool.{Bool, true, false}
use mathlib.Core.List.{List, [], ◌∷◌, ◌++◌}
use Prim.Native.Nat.{ℕ, suc, ◌+◌, ◌*◌, ◌-◌, ◌<◌, ◌≤◌}
use native.Mathlib.Numerals.{add-one}
use native.Mathlib.Omega.{arith}
use borrow.Author.Tests.{ltb-true, ltb-false, eqb-false}
use lib.Dec.{eqb, ltb, lit<}
use lib.ListN.{length, get_or}
use Rattle.definition.specs.Bytes.{mixed, folded}
use Rattle.definition.specs.Lists.{part, same}
use Rattle.definition.specs.World as W
use Rattle.definition.specs.World.{same_owner, is_identifier, address_in}
use Rattle.definition.specs.Room.{over}
use Rattle.definition.proofs.Rooms.{over_next_at, get_d_over_at, get_d_over_low, get_d_over_high}
use Rattle.definition.proofs.Folded.{length_folded}
use Rattle.definition.proofs.Parts.{length_part, same_length}
use Rattle.types.proofs.Laws.{type_back}
use Rattle.names.specs.declared.Owner.{Owner}
use Rattle.names.specs.declared.Owner.TheVariants.{Everyone, Procedure}
use Rattle.names.specs.declared.Denotation.{Denotation}
use Rattle.names.specs.declared.Denotation.TheVariants.{Variable, EntryName, LabelName, Builtin}
use Rattle.names.specs.declared.Activity.{Activity}
use Rattle.names.specs.declared.Activity.TheVariants.{Inactive, Rescanned, CopiedOnly}
use Rattle.names.specs.declared.Name.{Name}
use Rattle.names.specs.Table.{owner_of, owner_tag, owner_place, owner_numbers, body_tag, body_place, body_in, flag, activity_number, denotation_tag, denotation_flag, denotation_body, denotation_place, denotation_numbers, numbers_of, spelled, identifier_of, found_for, owner_in, denotation_in, activity_in, name_in, identifiers_from}

-- ---- whether a record is that of an identifier
module _ (d : List ℕ) (x : Name) (s : List ℕ) (from n : ℕ) (o : Owner) where
  pub other_length : (m : ℕ) → m ≡ x.identifier.1 → (m ≡ n → ⊥) → false ≡ is_identifier (folded mixed (part n from s)) (owner_of o) (identifier_of d x)
  other_length m q h =
      let z : false ≡ same (spelled d x.identifier) (folded mixed (part n from s)) =
      same_length (spelled d x.identifier) (folded mixed (part n from s)) (λ e. h (q ∙ sym (length_folded mixed (part x.identifier.1 x.identifier.0 d) ∙ length_part x.identifier.1 x.identifier.0 d) ∙ e ∙ length_folded mixed (part n from s) ∙ length_part n from s)) in
      rw (← z)

  pub other_spelling : (m p : ℕ) (g : Bool) → m ≡ x.identifier.1 → m ≡ n → p ≡ x.identifier.0 → g ≡ same (folded mixed (part n p d)) (folded mixed (part n from s)) → g ≡ false
      → false ≡ is_identifier (folded mixed (part n from s)) (owner_of o) (identifier_of d x)
  other_spelling m p g q e k f y = rw (← q, e, ← k, ← f, y)

-- ---- whether the record of an address is that of an identifier
module _ (d t s : List ℕ) (a from n : ℕ) (o : Owner) where
  pub not_there : (b : Bool) → b ≡ eqb (name_in t a).identifier.1 n → b ≡ false → false ≡ is_identifier (folded mixed (part n from s)) (owner_of o) (identifier_of d (name_in t a))
  not_there b e f = other_length d (name_in t a) s from n o (name_in t a).identifier.1 refl (eqb-false (name_in t a).identifier.1 n (sym e ∙ f))

-- ---- the search: what is left to look at decides
ids_next : (d t : List ℕ) (n a : ℕ) → a < n → identifiers_from d t a (n - a) ≡ identifier_of d (name_in t a) ∷ identifiers_from d t (a + 1) (n - (a + 1))
unfolding identifiers_from
ids_next d t n a h = let e : n - a ≡ suc (n - (a + 1)) = omega arith in rw (e, add-one)

ids_none : (d t : List ℕ) (n a : ℕ) → n ≤ a → identifiers_from d t a (n - a) ≡ []
unfolding identifiers_from
ids_none d t n a h = let e : n - a ≡ 0 = omega arith in rw e

pub record Searching (d t w : List ℕ) (k : W.Owner) (n a : ℕ) : Type 0 where
  pub low : a ≤ n
  pub is : address_in w k a (identifiers_from d t a (n - a)) ≡ address_in w k 0 (identifiers_from d t 0 n)

pub search_start : (d t w : List ℕ) (k : W.Owner) (n : ℕ) → Searching d t w k n 0
search_start d t w k n = let e : n - 0 ≡ n = omega arith in record { low = omega arith; is = rw e }

module _ (d t w : List ℕ) (k : W.Owner) (n a : ℕ) (s : Searching d t w k n a) where
  pub search_more : (x : Name) (g : Bool) → a < n → x ≡ name_in t a → g ≡ is_identifier w k (identifier_of d x) → g ≡ false → Searching d t w k n (a + 1)
  unfolding address_in
  search_more x g h e f y = record { low = omega arith; is = rw (add-one a) (rw (add-one a) at (rw (ids_next d t n a h, ← e, ← f, y) at s.is)) }

  pub search_here : (x : Name) (g : Bool) → a < n → x ≡ name_in t a → g ≡ is_identifier w k (identifier_of d x) → g ≡ true
      → Some (record { 0 = a }) ≡ found_for (address_in w k 0 (identifiers_from d t 0 n))
  unfolding address_in
  search_here x g h e f y = ap found_for (rw (ids_next d t n a h, ← e, ← f, y) at s.is)

  pub search_none : n ≤ a → None ≡ found_for (address_in w k 0 (identifiers_from d t 0 n))
  unfolding address_in
  search_none h = ap found_for (rw (ids_none d t n a h) at s.is)

-- ---- a record is written
pub whole : (r r₁ r₂ r₃ r₄ : List ℕ) (a at n0 n1 n10 : ℕ) (o : Owner) (x : Denotation) (os ds : List ℕ) → at ≡ 16 * a → os ≡ owner_numbers o → ds ≡ denotation_numbers x
    → r₁ ≡ over r at (n0 ∷ n1 ∷ []) → r₂ ≡ over r₁ (at + 2) os → r₃ ≡ over r₂ (at + 5) ds → r₄ ≡ over r₃ (at + 10) (n10 ∷ [])
    → r₄ ≡ over r (16 * a) (n0 ∷ n1 ∷ (owner_numbers o ++ (denotation_numbers x ++ (n10 ∷ []))))
whole r r₁ r₂ r₃ r₄ a at n0 n1 n10 o x os ds p g h e1 e2 e3 e4 =
    e4 ∙ rw (
      e3,
      e2,
      e1,
      g,
      h,
      over_next_at r at (at + 2) (n0 ∷ n1 ∷ []) (owner_numbers o) refl,
      over_next_at r at (at + 5) (n0 ∷ n1 ∷ owner_numbers o) (denotation_numbers x) refl,
      over_next_at r at (at + 10) (n0 ∷ n1 ∷ (owner_numbers o ++ denotation_numbers x)) (n10 ∷ []) refl,
      p,
    )

-- ---- a record reads back as it was written, and others stay
owner_back : (o : Owner) → owner_in (owner_tag o) (owner_place o).member (owner_place o).row ≡ o
owner_back Everyone = refl
owner_back (Procedure p) = refl

activity_back : (x : Activity) → activity_in (activity_number x) ≡ x
activity_back Inactive = refl
activity_back Rescanned = refl
activity_back CopiedOnly = refl

flag_back : (b : Bool) → eqb (flag b) 1 ≡ b
flag_back true = refl
flag_back false = refl

body_back : (b : Option Place) → body_in (body_tag b) (body_place b).member (body_place b).row ≡ b
body_back None = refl
body_back (Some p) = refl

denotation_back : (x : Denotation) → denotation_in (denotation_tag x) (denotation_flag x) (body_tag (denotation_body x)) (denotation_place x).member (denotation_place x).row ≡ x
denotation_back (Variable t) = ap Variable (type_back t)
denotation_back (EntryName e) = rw (flag_back e.declared, body_back e.body)
denotation_back (LabelName l) = rw (flag_back l.is_end)
denotation_back Builtin = refl

pub name_back : (t : List ℕ) (a : ℕ) (x : Name) → 16 * a + 11 ≤ length t → name_in (over t (16 * a) (numbers_of x)) a ≡ x
unfolding name_in
name_back t a x h =
    let back : (i : ℕ) → i < 11 → get_or (over t (16 * a) (numbers_of x)) (16 * a + i) 0 ≡ get_or (numbers_of x) i 0 = λ i k. get_d_over_at t (16 * a) i (numbers_of x) k (omega arith) in
    rw (
      back 0 (lit< tt),
      back 1 (lit< tt),
      back 2 (lit< tt),
      back 3 (lit< tt),
      back 4 (lit< tt),
      back 5 (lit< tt),
      back 6 (lit< tt),
      back 7 (lit< tt),
      back 8 (lit< tt),
      back 9 (lit< tt),
      back 10 (lit< tt),
      owner_back x.owner,
      denotation_back x.denotation,
      activity_back x.activity,
    )

pub name_other : (t : List ℕ) (a b : ℕ) (x : Name) → (a ≡ b → ⊥) → name_in (over t (16 * a) (numbers_of x)) b ≡ name_in t b
unfolding name_in
name_other t a b x h =
    let other : (i : ℕ) → i < 16 → get_or (over t (16 * a) (numbers_of x)) (16 * b + i) 0 ≡ get_or t (16 * b + i) 0 = λ i k. apart (ltb a b) refl i k in
    rw (other 0 (lit< tt), other 1 (lit< tt), other 2 (lit< tt), other 3 (lit< tt), other 4 (lit< tt), other 5 (lit< tt), other 6 (lit< tt), other 7 (lit< tt), other 8 (lit< tt), other 9 (lit< tt), other 10 (lit< tt))
  where
    apart : (g : Bool) → ltb a b ≡ g → (i : ℕ) → i < 16 → get_or (over t (16 * a) (numbers_of x)) (16 * b + i) 0 ≡ get_or t (16 * b + i) 0
    apart true e i k = let l : a < b = ltb-true a b e in get_d_over_high t (16 * a) (16 * b + i) (numbers_of x) (omega (arith, l))
    apart false e i k =
        let l : b ≤ a = ltb-false a b e in
        let n : b < a = omega arith in
        get_d_over_low t (16 * a) (16 * b + i) (numbers_of x) (omega (arith, n, k))
