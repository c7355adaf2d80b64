-- WHERE LINKS LEAD, when a row is added: the link to it is set in the same step, from a row in the same place or around it.
-- Assumes nothing.
use mathlib.Core.Path.{◌≡◌, refl, sym, ap, subst, ◌∙◌}
use mathlib.Core.Bool.{Bool, true, false}
use mathlib.Core.List.{List, [], ◌∷◌, ◌++◌}
use Prim.Native.Nat.{ℕ, zero, suc, ◌<◌, ◌≤◌}
use native.Mathlib.Omega.{arith}
use borrow.Author.Tests.{ltb-true, ltb-false}
use lib.Dec.{ltb}
use lib.ListN.{length, length-append, get_or-append}
use Rattle.definition.specs.Program as P
use Rattle.definition.specs.Reading as D
use Rattle.definition.specs.World.{row_of, no_row}
use Rattle.openings.specs.Open.{parent_in, linked_in}
use Rattle.flow.specs.Shown.{StandsIn, Linked}
use Rattle.reading.proofs.Owners.{change_length}

-- ---- rows that grow: what stands there still does, with its statement
pub record Grows (rs qs : List P.Row) : Type 0 where
  pub size : length rs ≤ length qs
  pub stands : (m : ℕ) (p : P.Link) → StandsIn rs m p → StandsIn qs m p
  pub statement : (i : ℕ) → i < length rs → (row_of qs i).statement ≡ (row_of rs i).statement

-- ---- a link to m: it was there, or it leads to the new row n, which stands in p; what it leads to should stand in `up`
pub data Leads (old : P.Link) (m n : ℕ) (p up : P.Link) : Type 0 where
  was : old ≡ P.row m → Leads old m n p up
  new : n ≡ m → p ≡ up → Leads old m n p up

-- the row number i, as it was and as it is
pub record Relinked (n : ℕ) (p : P.Link) (i : ℕ) (x y : P.Row) : Type 0 where
  pub statement : y.statement ≡ x.statement
  pub parent : y.parent ≡ x.parent
  pub next : (m : ℕ) → y.next ≡ P.row m → Leads x.next m n p x.parent
  pub child : (m : ℕ) → y.child ≡ P.row m → Leads x.child m n p (P.row i)
  pub other : (m : ℕ) → y.other ≡ P.row m → Leads x.other m n p (P.row i)

pub record AllRelinked (n : ℕ) (p : P.Link) (rs qs : List P.Row) : Type 0 where
  pub size : length qs ≡ length rs
  pub each : (i : ℕ) → Relinked n p i (row_of rs i) (row_of qs i)

module _ (n : ℕ) (p : P.Link) where
  relinked_self : (i : ℕ) (x : P.Row) → Relinked n p i x x
  relinked_self i x = record { statement = refl; parent = refl; next = λ m e. was e; child = λ m e. was e; other = λ m e. was e }

  pub all_self : (rs : List P.Row) → AllRelinked n p rs rs
  all_self rs = record { size = refl; each = λ i. relinked_self i (row_of rs i) }

-- one row changed
changed_at : (R : ℕ → P.Row → P.Row → Type 0) (k : ℕ) (g : P.Row → P.Row) (rs : List P.Row) → ((i : ℕ) (x : P.Row) → R i x x) → R k (row_of rs k) (g (row_of rs k)) → (i : ℕ) → R i (row_of rs i) (row_of (D.change k g rs) i)
unfolding D.change
changed_at R k g [] h c i = h i no_row
changed_at R zero g (r ∷ rs) h c zero = c
changed_at R zero g (r ∷ rs) h c (suc i) = h (suc i) (row_of rs i)
changed_at R (suc k) g (r ∷ rs) h c zero = h 0 r
changed_at R (suc k) g (r ∷ rs) h c (suc i) = changed_at (λ (j : ℕ) (x y : P.Row). R (suc j) x y) k g rs (λ j x. h (suc j) x) c i

pub row_is : (n m : ℕ) → P.row n ≡ P.row m → n ≡ m
row_is n m e = cc

module _ (n : ℕ) (p : P.Link) (rs : List P.Row) where
  all_changed : (k : ℕ) (g : P.Row → P.Row) → Relinked n p k (row_of rs k) (g (row_of rs k)) → AllRelinked n p rs (D.change k g rs)
  all_changed k g c = record { size = change_length k g rs; each = changed_at (λ (i : ℕ) (x y : P.Row). Relinked n p i x y) k g rs (λ i x. relinked_self n p i x) c }

  next_linked : (l : ℕ) → (row_of rs l).parent ≡ p → AllRelinked n p rs (D.change l (D.set_next n) rs)
  next_linked l e = all_changed l (D.set_next n) (record { statement = refl; parent = refl; next = λ m f. new (row_is n m f) (sym e); child = λ m f. was f; other = λ m f. was f })

  child_linked : (k : ℕ) → p ≡ P.row k → AllRelinked n p rs (D.change k (D.set_child n) rs)
  child_linked k e = all_changed k (D.set_child n) (record { statement = refl; parent = refl; next = λ m f. was f; child = λ m f. new (row_is n m f) e; other = λ m f. was f })

  other_linked : (k : ℕ) → p ≡ P.row k → AllRelinked n p rs (D.change k (D.set_other n) rs)
  other_linked k e = all_changed k (D.set_other n) (record { statement = refl; parent = refl; next = λ m f. was f; child = λ m f. was f; other = λ m f. new (row_is n m f) e })

  last_linked : (l : P.Link) (F : List P.Row → List P.Row) → ((i : ℕ) → l ≡ P.row i → (row_of rs i).parent ≡ p) → AllRelinked n p rs (F rs) → AllRelinked n p rs (D.linked n l F rs)
  last_linked P.nowhere F h a = a
  last_linked (P.row i) F h a = next_linked i (h i refl)

-- the link to the new row, in what is open
pub in_linked : (w : D.Where) (o : D.Open) (n : ℕ) (rs : List P.Row) → ((l : ℕ) → o.last ≡ P.row l → (row_of rs l).parent ≡ parent_in w o.row) → AllRelinked n (parent_in w o.row) rs (linked_in w o n rs)
in_linked D.in_program o n rs h = last_linked n P.nowhere rs o.last (λ xs. xs) h (all_self n P.nowhere rs)
in_linked D.in_group o n rs h = last_linked n (P.row o.row) rs o.last (D.change o.row (D.set_child n)) h (child_linked n (P.row o.row) rs o.row refl)
in_linked D.in_body o n rs h = last_linked n (P.row o.row) rs o.last (D.change o.row (D.set_child n)) h (child_linked n (P.row o.row) rs o.row refl)
in_linked D.in_then o n rs h = child_linked n (P.row o.row) rs o.row refl
in_linked D.in_else o n rs h = other_linked n (P.row o.row) rs o.row refl

-- ---- texts change no link
pub record SameLinks (x y : P.Row) : Type 0 where
  pub statement : y.statement ≡ x.statement
  pub parent : y.parent ≡ x.parent
  pub next : y.next ≡ x.next
  pub child : y.child ≡ x.child
  pub other : y.other ≡ x.other

pub record Texted (rs qs : List P.Row) : Type 0 where
  pub size : length qs ≡ length rs
  pub each : (i : ℕ) → SameLinks (row_of rs i) (row_of qs i)

pub texted_size : (rs qs : List P.Row) → Texted rs qs → length qs ≡ length rs
texted_size rs qs h = h.size

same_links : (x : P.Row) → SameLinks x x
same_links x = record { statement = refl; parent = refl; next = refl; child = refl; other = refl }

pub texted_self : (rs : List P.Row) → Texted rs rs
texted_self rs = record { size = refl; each = λ i. same_links (row_of rs i) }

-- a change of one row that keeps its links
texted_by : (k : ℕ) (g : P.Row → P.Row) (rs : List P.Row) → ((x : P.Row) → SameLinks x (g x)) → Texted rs (D.change k g rs)
texted_by k g rs h = record { size = change_length k g rs; each = changed_at (λ (i : ℕ) (x y : P.Row). SameLinks x y) k g rs (λ i x. same_links x) (h (row_of rs k)) }

module _ (k : ℕ) (x : P.Stretch) (rs : List P.Row) where
  pub lead_texted : Texted rs (D.change k (D.set_lead x) rs)
  lead_texted = texted_by k (D.set_lead x) rs (λ r. record { statement = refl; parent = refl; next = refl; child = refl; other = refl })

  pub text_texted : Texted rs (D.change k (D.set_text x) rs)
  text_texted = texted_by k (D.set_text x) rs (λ r. record { statement = refl; parent = refl; next = refl; child = refl; other = refl })

module _ (rs qs : List P.Row) (h : Texted rs qs) where
  pub texted_grows : Grows rs qs
  texted_grows = record {
    size = omega (arith, h.size);
    stands = λ m p e. record { within = omega (arith, h.size, e.within); parent = (h.each m).parent ∙ e.parent };
    statement = λ i l. (h.each i).statement;
  }

  texted_stands : (m : ℕ) (p q : P.Link) → p ≡ q → StandsIn rs m p → StandsIn qs m q
  texted_stands m p q e f = texted_grows.stands m q (subst (λ (z : P.Link). StandsIn rs m z) e f)

  pub texted_linked : Linked rs → Linked qs
  texted_linked g = record {
    next = λ n m l e. texted_stands m (row_of rs n).parent (row_of qs n).parent (sym (h.each n).parent) (g.next n m (omega (arith, l, h.size)) (sym (h.each n).next ∙ e));
    child = λ n m l e. texted_stands m (P.row n) (P.row n) refl (g.child n m (omega (arith, l, h.size)) (sym (h.each n).child ∙ e));
    other = λ n m l e. texted_stands m (P.row n) (P.row n) refl (g.other n m (omega (arith, l, h.size)) (sym (h.each n).other ∙ e));
  }

-- ---- one more row, x, to which the links of qs lead
pub last_row : (rs : List P.Row) (r : P.Row) → row_of (rs ++ r ∷ []) (length rs) ≡ r
last_row [] r = refl
last_row (x ∷ rs) r = last_row rs r

pub record Bare (p : P.Link) (x : P.Row) : Type 0 where
  pub parent : x.parent ≡ p
  pub next : x.next ≡ P.nowhere
  pub child : x.child ≡ P.nowhere
  pub other : x.other ≡ P.nowhere

pub nowhere_not : {A : Type 0} (m : ℕ) → P.nowhere ≡ P.row m → A
nowhere_not m e = let z : ◌≡◌ {A = ℕ} 0 1 = cc in absurd (omega arith)

module _ (rs qs : List P.Row) (p : P.Link) (x : P.Row) (h : AllRelinked (length rs) p rs qs) (b : Bare p x) where
  pub more_size : length (qs ++ x ∷ []) ≡ suc (length rs)
  more_size = omega (arith, length-append qs (x ∷ []), h.size)

  more_old : (i : ℕ) → i < length rs → row_of (qs ++ x ∷ []) i ≡ row_of qs i
  more_old i l = get_or-append qs (x ∷ []) no_row i (omega (arith, l, h.size))

  pub more_new : row_of (qs ++ x ∷ []) (length rs) ≡ x
  more_new = ap (λ (i : ℕ). row_of (qs ++ x ∷ []) i) (sym h.size) ∙ last_row qs x

  pub more_grows : Grows rs (qs ++ x ∷ [])
  more_grows = record {
    size = omega (arith, more_size);
    stands = λ m q e. record { within = omega (arith, more_size, e.within); parent = ap (λ (y : P.Row). y.parent) (more_old m e.within) ∙ (h.each m).parent ∙ e.parent };
    statement = λ i l. ap (λ (y : P.Row). y.statement) (more_old i l) ∙ (h.each i).statement;
  }

  pub more_stands : StandsIn (qs ++ x ∷ []) (length rs) p
  more_stands = record { within = omega (arith, more_size); parent = ap (λ (y : P.Row). y.parent) more_new ∙ b.parent }

  leads_to_lem : (old : P.Link) (m : ℕ) (up : P.Link) → Leads old m (length rs) p up → (old ≡ P.row m → StandsIn rs m up) → StandsIn (qs ++ x ∷ []) m up
  leads_to_lem old m up (was e) f = more_grows.stands m up (f e)
  leads_to_lem old m up (new e g) f = subst (λ (i : ℕ). StandsIn (qs ++ x ∷ []) i up) e (subst (λ (z : P.Link). StandsIn (qs ++ x ∷ []) (length rs) z) g more_stands)

  -- of the rows before it, and of itself, which has none
  by_row : (R : ℕ → P.Row → Type 0) → ((n : ℕ) → n < length rs → R n (row_of qs n)) → R (length rs) x → (n : ℕ) → n < length (qs ++ x ∷ []) → R n (row_of (qs ++ x ∷ []) n)
  by_row R old last n l = by (ltb n (length rs)) refl
    where
      by : (c : Bool) → ltb n (length rs) ≡ c → R n (row_of (qs ++ x ∷ []) n)
      by true e = let k : n < length rs = ltb-true n (length rs) e in subst (R n) (sym (more_old n k)) (old n k)
      by false e = let k : length rs ≡ n = omega (arith, ltb-false n (length rs) e, l, more_size) in subst (λ (i : ℕ). R i (row_of (qs ++ x ∷ []) i)) k (subst (R (length rs)) (sym more_new) last)

  pub more_linked : Linked rs → Linked (qs ++ x ∷ [])
  more_linked g = record {
    next = λ n m l e. by_row (λ (i : ℕ) (y : P.Row). (k : ℕ) → y.next ≡ P.row k → StandsIn (qs ++ x ∷ []) k y.parent)
        (λ i l k f. subst (λ (z : P.Link). StandsIn (qs ++ x ∷ []) k z) (sym (h.each i).parent) (leads_to_lem (row_of rs i).next k (row_of rs i).parent ((h.each i).next k f) (g.next i k l)))
        (λ k f. nowhere_not k (sym b.next ∙ f)) n l m e;
    child = λ n m l e. by_row (λ (i : ℕ) (y : P.Row). (k : ℕ) → y.child ≡ P.row k → StandsIn (qs ++ x ∷ []) k (P.row i))
        (λ i l k f. leads_to_lem (row_of rs i).child k (P.row i) ((h.each i).child k f) (g.child i k l))
        (λ k f. nowhere_not k (sym b.child ∙ f)) n l m e;
    other = λ n m l e. by_row (λ (i : ℕ) (y : P.Row). (k : ℕ) → y.other ≡ P.row k → StandsIn (qs ++ x ∷ []) k (P.row i))
        (λ i l k f. leads_to_lem (row_of rs i).other k (P.row i) ((h.each i).other k f) (g.other i k l))
        (λ k f. nowhere_not k (sym b.other ∙ f)) n l m e;
  }
