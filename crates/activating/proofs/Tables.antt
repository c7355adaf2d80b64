-- The table of names, one of which gets another activity.
-- Assumes nothing.
use Rattle.std.proofs.Common.{Option, Some, None}
use mathlib.Core.Path.{◌≡◌, refl, sym, ap, ◌∙◌}
use mathlib.Core.Bool.{Bool, true, false}
use mathlib.Core.List.{List, ◌∷◌}
use Prim.Native.Nat.{ℕ, zero, suc, ◌+◌, ◌-◌, ◌*◌, ◌<◌, ◌≤◌}
use native.Mathlib.Omega.{arith}
use borrow.Author.Tests.{eqb-true, eqb-false}
use lib.Dec.{eqb}
use lib.ListN.{length, set}
use Rattle.definition.specs.Bytes.{mixed, folded}
use Rattle.definition.specs.Lists.{part}
use Rattle.definition.specs.Room.{over}
use Rattle.definition.specs.Run.{activate_name, activated}
use Rattle.definition.specs.World as W
use Rattle.definition.specs.World.{World, good, bad, address_in, address_of, everyone, set_activity, variable_of, entry_of, label_at, builtin_name}
use Rattle.definition.specs.declared.Why.TheVariants.{WrongName}
use Rattle.definition.proofs.Rooms.{length_over}
use Rattle.names.specs.declared.Activity.{Activity}
use Rattle.names.specs.declared.Address.{Address}
use Rattle.names.specs.declared.Name.{Name}
use Rattle.names.specs.declared.Owner.TheVariants.{Everyone}
use Rattle.names.specs.Table.{owner_of, denotation_of, activity_of, identifier_of, name_in, numbers_of, identifiers_from, found_for}
use Rattle.names.proofs.Laws.{name_back, name_other}
use Rattle.tokens.specs.declared.Lexeme.{Lexeme}
use Rattle.callees.specs.Shown.{names_world, denotations_from, Named}
use Rattle.callees.proofs.Naming.{denotation_is, low_own, known_is, unknown_is}
use Rattle.outcomes.specs.Texts.{activities_from}
use Rattle.activating.specs.Sets.{can_wake, Kept, SetsName}

cons_eq : {A : Type 0} {x y : A} {xs ys : List A} → x ≡ y → xs ≡ ys → x ∷ xs ≡ y ∷ ys
cons_eq e f = rw (e, f)

-- ---- a record that is written
module _ (d t u : List ℕ) (a : ℕ) (x : Name) (h : u ≡ over t (16 * a) (numbers_of x)) (r : 16 * a + 11 ≤ length t) where
  here : name_in u a ≡ x
  here = rw h (name_back t a x r)

  elsewhere : (i : ℕ) → (a ≡ i → ⊥) → name_in u i ≡ name_in t i
  elsewhere i e = rw h (name_other t a i x e)

  same_at : {A : Type 0} (f : Name → A) → f x ≡ f (name_in t a) → (i : ℕ) → f (name_in u i) ≡ f (name_in t i)
  same_at f q i = by (eqb a i) refl
    where
      by : (b : Bool) → eqb a i ≡ b → f (name_in u i) ≡ f (name_in t i)
      by true e = rw (← eqb-true a i e, here) q
      by false e = ap f (elsewhere i (eqb-false a i e))

  ids_kept : identifier_of d x ≡ identifier_of d (name_in t a) → (b n : ℕ) → identifiers_from d u b n ≡ identifiers_from d t b n
  unfolding identifiers_from
  ids_kept q b zero = refl
  ids_kept q b (suc n) = cons_eq (same_at (λ y. identifier_of d y) q b) (ids_kept q (suc b) n)

  dens_kept : denotation_of x.denotation ≡ denotation_of (name_in t a).denotation → (b n : ℕ) → denotations_from u b n ≡ denotations_from t b n
  unfolding denotations_from
  dens_kept q b zero = refl
  dens_kept q b (suc n) = cons_eq (same_at (λ y. denotation_of y.denotation) q b) (dens_kept q (suc b) n)

  acts_above : (b n : ℕ) → a < b → activities_from u b n ≡ activities_from t b n
  unfolding activities_from
  acts_above b zero l = refl
  acts_above b (suc n) l = cons_eq (ap (λ (y : Name). activity_of y.activity) (elsewhere b (λ e. omega (arith, e, l)))) (acts_above (suc b) n (omega arith))

  acts_set : (b n j : ℕ) → j < n → b + j ≡ a → activities_from u b n ≡ set (activities_from t b n) j (activity_of x.activity)
  unfolding activities_from
  acts_set b zero j l e = absurd (omega arith)
  acts_set b (suc n) zero l e =
      let q : b ≡ a = omega arith in
      cons_eq (ap (λ (y : Name). activity_of y.activity) (ap (name_in u) q ∙ here)) (acts_above (suc b) n (omega arith))
  acts_set b (suc n) (suc j) l e = cons_eq (ap (λ (y : Name). activity_of y.activity) (elsewhere b (λ q. omega (arith, q, e)))) (acts_set (suc b) n j (omega arith) (omega arith))

-- ---- one name
same_kept : (d t : List ℕ) (n : ℕ) → Kept d t t n
same_kept d t n = record { size = refl; identifiers = λ _. refl; denotations = λ _. refl }

wakes : (v : W.Denotation) (x : W.Activity) (a : ℕ) (w : World) → can_wake v ≡ true → activated v x a w ≡ good tt (set_activity x a w)
wakes (variable_of t) x a w e = refl
wakes (entry_of p b) x a w e = refl
wakes (label_at m r q) x a w e = absurd (let z : ◌≡◌ {A = ℕ} 0 1 = cc in omega arith)
wakes builtin_name x a w e = absurd (let z : ◌≡◌ {A = ℕ} 0 1 = cc in omega arith)

sleeps : (v : W.Denotation) (x : W.Activity) (a : ℕ) (w : World) → can_wake v ≡ false → activated v x a w ≡ bad WrongName w.used
sleeps (variable_of t) x a w e = absurd (let z : ◌≡◌ {A = ℕ} 0 1 = cc in omega arith)
sleeps (entry_of p b) x a w e = absurd (let z : ◌≡◌ {A = ℕ} 0 1 = cc in omega arith)
sleeps (label_at m r q) x a w e = refl
sleeps builtin_name x a w e = refl

module _ (d s t : List ℕ) (n : ℕ) (l : Lexeme) (x : Activity) (len : ℕ) (hl : len ≡ l.to - l.from) (f : Option Address)
    (e : f ≡ found_for (address_in (folded mixed (part len l.from s)) (owner_of Everyone) 0 (identifiers_from d t 0 n))) where
  abbrev name : List ℕ
  name = folded mixed (part (l.to - l.from) l.from s)

  abbrev found : W.Address
  found = address_in name everyone 0 (identifiers_from d t 0 n)

  is_found : f ≡ found_for found
  is_found = rw hl at e

  address_there : (B : World) → Named d t n B → address_of name everyone B ≡ found
  address_there B nd = rw nd.identifiers

  pub name_unknown : f ≡ None → SetsName d s t t n l x false
  name_unknown u = record { kept = same_kept d t n; does = record { is = λ B nd aw room. rw (address_there B nd, unknown_is d t n found f is_found u) } }

  module _ (a : Address) (g : f ≡ Some a) (y : Name) (h : y ≡ name_in t a.0) (b : Bool) (k : b ≡ can_wake (denotation_of y.denotation)) where
    at_known : found ≡ W.address a.0
    at_known = known_is d t n found f a is_found g

    low : a.0 < n
    low = low_own d t n name everyone a.0 at_known

    denotes : (B : World) → Named d t n B → W.denotation a.0 B ≡ denotation_of y.denotation
    unfolding names_world
    denotes B nd = rw (nd.denotations, h) (denotation_is d t n a.0 low)

    activates : (B : World) → Named d t n B → activate_name (activity_of x) name B ≡ activated (denotation_of y.denotation) (activity_of x) a.0 B
    activates B nd = rw (address_there B nd, at_known, denotes B nd)

    pub name_wrong : b ≡ false → SetsName d s t t n l x false
    name_wrong v = record {
      kept = same_kept d t n;
      does = record { is = λ B nd aw room. activates B nd ∙ sleeps (denotation_of y.denotation) (activity_of x) a.0 B (sym k ∙ v) };
    }

    pub name_right : b ≡ true → (u : List ℕ) → u ≡ over t (16 * a.0) (numbers_of (record { identifier = y.identifier; owner = y.owner; denotation = y.denotation; activity = x }))
        → SetsName d s t u n l x true
    name_right v u w =
        let z : Name = record { identifier = y.identifier; owner = y.owner; denotation = y.denotation; activity = x } in
        record {
          kept = record {
            size = rw w (length_over t (16 * a.0) (numbers_of z));
            identifiers = λ room. ids_kept d t u a.0 z w (omega (arith, room, low)) (rw h) 0 n;
            denotations = λ room. dens_kept d t u a.0 z w (omega (arith, room, low)) (rw h) 0 n;
          };
          does = record {
            is = λ B nd aw room.
                activates B nd ∙ wakes (denotation_of y.denotation) (activity_of x) a.0 B (sym k ∙ v)
                ∙ ap (λ (zs : List W.Activity). good tt (W.with_tables B.identifiers B.denotations B.values zs B))
                (ap (λ (zs : List W.Activity). set zs a.0 (activity_of x)) aw.activities ∙ sym (acts_set d t u a.0 z w (omega (arith, room, low)) 0 n a.0 low (omega arith)));
          };
        }
