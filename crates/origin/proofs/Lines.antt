-- Lines as they are told: which of them a copied token goes on with, and what comes of it.
-- Assumes nothing.
use mathlib.Core.Path.{◌≡◌, refl, sym, ap, ◌∙◌}
use mathlib.Core.Bool.{Bool, true, false, cond, ◌&&◌, not, false≢true}
use mathlib.Core.List.{List, [], ◌∷◌}
use Prim.Native.Nat.{ℕ, zero, suc, ◌+◌, ◌-◌, ◌%◌, ◌≤◌}
use native.Mathlib.Nat.{add-zero, suc-add, add-suc}
use native.Mathlib.Omega.{arith}
use borrow.Author.Tests.{eq-eqb, ne_eqb, eqb-true, eqb-false}
use lib.Dec.{eqb}
use Rattle.definition.specs.declared.Layout.{Layout}
use Rattle.definition.specs.declared.Layout.TheVariants.{Plain, Cards}
use Rattle.definition.specs.Events.{Line, line, longer}
use Rattle.definition.specs.Cards.{is_first, column, given, goes_over, cut, as_given, lines_as}
use Rattle.output.specs.Shows.{top, grows_from}
use Rattle.edges.specs.Pieces.{onto}
use Rattle.edges.proofs.Laws.{onto_more}
use Rattle.origin.specs.Written.{place_as, Filled}

-- ---- the byte behind a byte stands in the next column, unless a record begins there
column_is : (e p : ℕ) → eqb (suc (column e)) (column p) ≡ (eqb (suc e) p && not (is_first p))
column_is e p = go (eqb (suc e) p) refl (is_first p) refl
  where
    go : (a : Bool) → eqb (suc e) p ≡ a → (b : Bool) → is_first p ≡ b → eqb (suc (column e)) (column p) ≡ (a && not b)
    go true i true j = ne_eqb (suc (column e)) (column p) (λ f. omega (arith, f, eqb-true (suc e) p i, eqb-true (p % 71) 0 j))
    go true i false j =
        let z : p % 71 ≡ 0 → ⊥ = eqb-false (p % 71) 0 j in
        eq-eqb (suc (column e)) (column p) (omega (arith, z, eqb-true (suc e) p i))
    go false i b j = ne_eqb (suc (column e)) (column p) (λ f. eqb-false (suc e) p i (omega (arith, f)))

-- ---- the newest line is a stretch of member m that ends with byte p
record EndsWith (m p : ℕ) (l : Line) : Type 0 where
  kind : l.kind ≡ 2
  member : l.member ≡ m
  end : l.offset + l.size ≡ suc (column p)

byte_ends : (m p : ℕ) (ls : List Line) → EndsWith m p (top ls) → (t : Bool) → is_first (suc p) ≡ t → EndsWith m (suc p) (top (cond t (line 2 m (column (suc p)) 1 ∷ ls) (longer 1 ls)))
byte_ends m p ls h true e = record { kind = refl; member = refl; end = omega arith }
byte_ends m p [] h false e = absurd (let z : ◌≡◌ {A = ℕ} 0 2 = h.kind in omega (arith, z))
byte_ends m p (l ∷ ls) h false e =
    let z : suc p % 71 ≡ 0 → ⊥ = eqb-false (suc p % 71) 0 e in
    record { kind = h.kind; member = h.member; end = omega (arith, h.end, z) }

over_ends : (m p n : ℕ) (ls : List Line) → EndsWith m p (top ls) → EndsWith m (p + n) (top (goes_over m (suc p) n ls))
unfolding goes_over
over_ends m p zero ls h = rw add-zero h
over_ends m p (suc n) ls h = rw (add-suc, ← suc-add) (over_ends m (suc p) n _ (byte_ends m p ls h (is_first (suc p)) refl))

cut_ends : (m p k : ℕ) (ls : List Line) → EndsWith m (p + k) (top (cut m p (suc k) ls))
cut_ends m p k ls = over_ends m p k (line 2 m (column p) 1 ∷ ls) (record { kind = refl; member = refl; end = omega arith })

-- ---- a token goes on with the newest line that is told, or not
grows_end : (m p q : ℕ) (l : Line) (n : ℕ) → EndsWith m p l → grows_from l n (column q) ≡ (eqb m n && (eqb (suc p) q && not (is_first q)))
unfolding grows_from
grows_end m p q l n h = rw (h.kind, h.member, h.end) (ap (λ (b : Bool). eqb m n && b) (column_is p q))

and_assoc : (a b c : Bool) → (a && (b && c)) ≡ ((a && b) && c)
and_assoc true b c = refl
and_assoc false b c = refl

two : (l : Line) (ls : List Line) → Filled (l ∷ ls) → l.kind ≡ 2 → l.size ≡ suc (l.size - 1)
two l ls h e = omega (arith, h.0 e)

pub told_grows : (sizes : ℕ → ℕ) (ls : List Line) → Filled ls → (m p : ℕ) → grows_from (top (as_given sizes ls)) m (column p) ≡ (grows_from (top ls) m p && not (is_first p))
unfolding grows_from as_given
told_grows sizes [] h m p = refl
told_grows sizes (l ∷ ls) h m p = go (eqb l.kind 2) refl
  where
    by : (n : ℕ) → l.size ≡ n → (k : ℕ) → n ≡ suc k → grows_from (top (cut l.member l.offset n (as_given sizes ls))) m (column p) ≡ ((eqb l.member m && eqb (l.offset + n) p) && not (is_first p))
    by n e k f = rw f (grows_end l.member (l.offset + k) p (top (cut l.member l.offset (suc k) (as_given sizes ls))) m (cut_ends l.member l.offset k (as_given sizes ls)) ∙ rw add-suc (and_assoc (eqb l.member m) (eqb (suc (l.offset + k)) p) (not (is_first p))))

    go : (t : Bool) → eqb l.kind 2 ≡ t → grows_from (top (cond t (cut l.member l.offset l.size (as_given sizes ls)) (line l.kind l.member (given (sizes l.member) l.offset) l.size ∷ as_given sizes ls))) m (column p) ≡ (t && eqb l.member m && eqb (l.offset + l.size) p && not (is_first p))
    go true e = by l.size refl (l.size - 1) (two l ls h (eqb-true l.kind 2 e))
    go false e = rw e refl

-- ---- what comes of a copied token
cut_onto : (m p n : ℕ) (ls : List Line) → cut m p n ls ≡ onto false m p n ls
cut_onto m p zero ls = refl
cut_onto m p (suc n) ls = refl

and_three : (a b c : Bool) → (a && b && c) ≡ true → (a ≡ true) × (b ≡ true) × (c ≡ true)
and_three true true c e = (refl, refl, e)
and_three true false c e = absurd (false≢true e)
and_three false b c e = absurd (false≢true e)

pub told_copied : (sizes : ℕ → ℕ) (ls : List Line) → Filled ls → (m p n : ℕ) (on : Bool) → grows_from (top ls) m p ≡ on → onto on m p n (as_given sizes ls) ≡ as_given sizes (cond on (longer n ls) (line 2 m p n ∷ ls))
unfolding grows_from as_given
told_copied sizes ls h m p n false e = sym (cut_onto m p n (as_given sizes ls))
told_copied sizes [] h m p n true e = absurd (false≢true e)
told_copied sizes (l ∷ ls) h m p n true e =
    let a = and_three (eqb l.kind 2) (eqb l.member m) (eqb (l.offset + l.size) p) e in
    let k : l.kind ≡ 2 = eqb-true l.kind 2 a.0 in
    let q : l.member ≡ m = eqb-true l.member m a.1 in
    let r : l.offset + l.size ≡ p = eqb-true (l.offset + l.size) p a.2 in
    let G : List Line = as_given sizes ls in
    let left : cond (eqb l.kind 2) (cut l.member l.offset l.size G) (line l.kind l.member (given (sizes l.member) l.offset) l.size ∷ G) ≡ onto false m l.offset l.size G = rw a.0 (ap (λ (z : ℕ). cut z l.offset l.size G) q ∙ cut_onto m l.offset l.size G) in
    let right : cond (eqb l.kind 2) (cut l.member l.offset (l.size + n) G) (line l.kind l.member (given (sizes l.member) l.offset) (l.size + n) ∷ G) ≡ onto false m l.offset (l.size + n) G = rw a.0 (ap (λ (z : ℕ). cut z l.offset (l.size + n) G) q ∙ cut_onto m l.offset (l.size + n) G) in
    ap (λ (z : List Line). onto true m p n z) left ∙ ap (λ (z : ℕ). onto true m z n (onto false m l.offset l.size G)) (sym r)
    ∙ sym (onto_more false m l.offset l.size n G (h.0 k)) ∙ sym right

-- ---- a line of another kind
pub told_mark : (sizes : ℕ → ℕ) (y : Layout) (k m p n : ℕ) (ls : List Line) → eqb k 2 ≡ false → lines_as y sizes (line k m p n ∷ ls) ≡ line k m (place_as y (sizes m) p) n ∷ lines_as y sizes ls
unfolding as_given
told_mark sizes Plain k m p n ls e = refl
told_mark sizes Cards k m p n ls e = rw e refl

-- no stretch is empty
pub filled_more : (m p n : ℕ) (ls : List Line) (on : Bool) → Filled ls → 1 ≤ n → Filled (cond on (longer n ls) (line 2 m p n ∷ ls))
filled_more m p n ls false h k = (λ _. k, h)
filled_more m p n [] true h k = tt
filled_more m p n (l ∷ ls) true h k = (λ _. omega (arith, k), h.1)
