-- What is open is the definition's list: one law for each way out, and what a new row has from where it stands.
-- Assumes nothing.
use Rattle.std.proofs.Common.{Option, Some, None}
use mathlib.Core.Path.{◌≡◌, refl, sym, ap, ◌∙◌}
use mathlib.Core.Bool.{Bool, true, false}
use mathlib.Core.List.{List, [], ◌∷◌, ◌++◌, map}
use Prim.Native.Nat.{ℕ, zero, suc, ◌+◌, ◌-◌, ◌<◌, ◌≤◌}
use native.Mathlib.Omega.{arith}
use native.Mathlib.Numerals.{add-one, sub-one}
use borrow.Author.Tests.{ltb-true, ltb-false}
use lib.Dec.{ltb}
use lib.ListN.{length, length-map, get_or, set, get_or-eq_default}
use lib.Seq.{get_or-set_same, get_or-set_other}
use Rattle.definition.specs.Program as P
use Rattle.definition.specs.Reading as D
use Rattle.openings.specs.declared.Where.{Where}
use Rattle.openings.specs.declared.Where.TheVariants as Wh
use Rattle.openings.specs.declared.Open.{Open}
use Rattle.openings.specs.declared.Opened.{Opened}
use Rattle.openings.specs.Open.{link_of, where_of, last_of, labels_of, open_of, no_open, open_from, opened_of, top_in, rest_of, Opening, OpenAt, Pushed, Popped, TopKind, last_by, last_in, WithLast, AtLast, parent_in, role_in, first_in, linked_in, Deep, Sum20, counts_for}

-- ---- one that is open
fresh : (s : List ℕ) (k : Where) (n at : ℕ) → open_of s (record { kind = k; row = n; last = None; labels = at }) ≡ D.opening (where_of k) n (labels_of s k at)
unfolding open_of
fresh s Wh.InProgram n at = refl
fresh s Wh.InGroup n at = refl
fresh s Wh.InBody n at = refl
fresh s Wh.InThen n at = refl
fresh s Wh.InElse n at = refl

pub opens : (k : Where) (n at : ℕ) → Opening k n at (record { kind = k; row = n; last = None; labels = at })
opens k n at = record { is = λ s. fresh s k n at }

lasting : (s : List ℕ) (k : Where) (i : ℕ) (l : Option ℕ) (at n : ℕ) → open_of s (record { kind = k; row = i; last = Some n; labels = at }) ≡ last_by (where_of k) (open_of s (record { kind = k; row = i; last = l; labels = at })) n
unfolding open_of
lasting s Wh.InProgram i l at n = refl
lasting s Wh.InGroup i l at n = refl
lasting s Wh.InBody i l at n = refl
lasting s Wh.InThen i l at n = refl
lasting s Wh.InElse i l at n = refl

pub lasts : (x : Open) (n : ℕ) → WithLast x n (record { kind = x.kind; row = x.row; last = Some n; labels = x.labels })
lasts x n = record { is = λ s. lasting s x.kind x.row x.last x.labels n }

-- ---- the list
get_d_any : (l : List Open) (i : ℕ) (d e : Open) → i < length l → get_or l i d ≡ get_or l i e
get_d_any [] i d e h = absurd (omega arith)
get_d_any (x ∷ l) zero d e h = refl
get_d_any (x ∷ l) (suc i) d e h = get_d_any l i d e (omega arith)

-- what owning the list tells of its length
pub as_long : (Y : Type 0) (f : Open → Y) (l : List Open) (n : ℕ) → length (map f l) ≡ n → length l ≡ n
as_long Y f l n e = sym (length-map l f) ∙ e

module _ (o : Opened) (i : ℕ) (size : length o.items ≡ 20) where
  pub open_there : i < 20 → (d : Open) → OpenAt o i (get_or o.items i d)
  open_there h d = record { is = get_d_any o.items i d no_open (omega (arith, h, size)); past = λ k. absurd (omega (arith, h, k)) }

  pub open_past : 20 ≤ i → (r : Open) → r ≡ no_open → OpenAt o i r
  open_past h r e = record { is = e ∙ sym (get_or-eq_default o.items no_open (omega (arith, h, size))); past = λ k. e }

open_kept : (s : List ℕ) (os : List Open) (m : ℕ) (x : Open) (n : ℕ) → n ≤ m → open_from s (set os m x) n ≡ open_from s os n
unfolding open_from
open_kept s os m x zero h = refl
open_kept s os m x (suc n) h = rw (get_or-set_other os m n x no_open (λ e. omega (arith, h, e)), open_kept s os m x n (omega (arith, h)))

open_more : (s : List ℕ) (os : List Open) (n : ℕ) (x : Open) → n < length os → open_from s (set os n x) (n + 1) ≡ open_of s x ∷ open_from s os n
unfolding open_from
open_more s os n x h = rw (add-one, get_or-set_same os n x no_open h, open_kept s os n x n (omega arith))

module _ (o : Opened) (x : Open) where
  pub pushes : length o.items ≡ 20 → o.count < 20 → Pushed o x (record { count = o.count + 1; items = set o.items o.count x })
  unfolding opened_of
  pushes size h = record { is = λ k s. open_more s o.items o.count x (omega (arith, h, size)); count = λ k. omega arith }

  pub pushes_none : 20 ≤ o.count → Pushed o x o
  pushes_none h = record { is = λ k s. absurd (omega (arith, h, k)); count = λ k. absurd (omega (arith, h, k)) }

rest_from : (s : List ℕ) (os : List Open) (n : ℕ) → 0 < n → open_from s os (n - 1) ≡ rest_of (open_from s os n)
unfolding open_from
rest_from s os zero h = absurd (omega arith)
rest_from s os (suc n) h = rw sub-one

rest_none : (s : List ℕ) (os : List Open) (n : ℕ) → n ≤ 0 → open_from s os n ≡ rest_of (open_from s os n)
unfolding open_from
rest_none s os zero h = refl
rest_none s os (suc n) h = absurd (omega arith)

module _ (o : Opened) where
  pub pops : 0 < o.count → Popped o (record { count = o.count - 1; items = o.items })
  unfolding opened_of
  pops h = record { is = λ s. rest_from s o.items o.count h; count = refl }

  pub pops_none : o.count ≤ 0 → Popped o o
  unfolding opened_of
  pops_none h = record { is = λ s. rest_none s o.items o.count h; count = omega (arith, h) }

-- ---- the one on top
top_from : (os : List Open) (n : ℕ) → 0 < n → get_or os (n - 1) no_open ≡ top_in os n
top_from os zero h = absurd (omega arith)
top_from os (suc n) h = rw sub-one

top_empty : (os : List Open) (n : ℕ) → n ≤ 0 → no_open ≡ top_in os n
top_empty os zero h = refl
top_empty os (suc n) h = absurd (omega arith)

module _ (o : Opened) (r : Open) where
  pub top_there : 0 < o.count → OpenAt o (o.count - 1) r → r ≡ top_in o.items o.count
  top_there h a = a.is ∙ top_from o.items o.count h

  pub top_none : o.count ≤ 0 → r ≡ no_open → r ≡ top_in o.items o.count
  top_none h e = e ∙ top_empty o.items o.count h

kind_from : (s : List ℕ) (os : List Open) (n : ℕ) → where_of (top_in os n).kind ≡ D.kind_of (open_from s os n)
unfolding open_from open_of
kind_from s os zero = refl
kind_from s os (suc n) = refl

pub kind_there : (o : Opened) (x : Open) → x ≡ top_in o.items o.count → TopKind o x.kind
unfolding opened_of
kind_there o x e = record { is = λ s. ap (λ (z : Open). where_of z.kind) e ∙ kind_from s o.items o.count }

split_from : (s : List ℕ) (os : List Open) (n : ℕ) → 0 < n → open_from s os n ≡ open_of s (top_in os n) ∷ rest_of (open_from s os n)
unfolding open_from
split_from s os zero h = absurd (omega arith)
split_from s os (suc n) h = refl

-- what is open is its top and the rest
pub opened_split : (s : List ℕ) (o : Opened) (x : Open) → 0 < o.count → x ≡ top_in o.items o.count → opened_of s o ≡ open_of s x ∷ rest_of (opened_of s o)
unfolding opened_of
opened_split s o x h e = split_from s o.items o.count h ∙ ap (λ (z : Open). open_of s z ∷ rest_of (open_from s o.items o.count)) (sym e)

last_in_cons : (s : List ℕ) (x : Open) (os : List D.Open) (n : ℕ) → last_in n (open_of s x ∷ os) ≡ last_by (where_of x.kind) (open_of s x) n ∷ os
unfolding open_of
last_in_cons s x os n = refl

pub last_there : (o q r : Opened) (t x : Open) (n : ℕ) → Popped o q → t ≡ top_in o.items o.count → WithLast t n x → Pushed q x r → AtLast o n r
last_there o q r t x n p e w h = record {
  is = λ a b s.
      h.is (omega (arith, p.count, b)) s
      ∙ ap (λ (z : D.Open). z ∷ opened_of s q) (w.is s)
      ∙ ap (λ (z : List D.Open). last_by (where_of t.kind) (open_of s t) n ∷ z) (p.is s)
      ∙ sym (last_in_cons s t (rest_of (opened_of s o)) n)
      ∙ ap (last_in n) (sym (opened_split s o t a e));
  count = λ a b. omega (arith, h.count (omega (arith, p.count, b)), p.count, a);
}

-- ---- how deep
pub record Deepening (o : Opened) (n i : ℕ) : Type 0 where
  pub is : (s : List ℕ) → n ≡ D.depth (open_from s o.items i)
  pub low : n ≤ i
  pub few : n ≤ 20
  pub reach : i ≤ o.count

counts_low : (k : D.Where) → D.counts k ≤ 1
counts_low D.in_program = omega arith
counts_low D.in_group = omega arith
counts_low D.in_body = omega arith
counts_low D.in_then = omega arith
counts_low D.in_else = omega arith

pub deep_start : (o : Opened) → Deepening o 0 0
unfolding open_from D.depth
deep_start o = record { is = λ s. refl; low = omega arith; few = omega arith; reach = omega arith }

module _ (o : Opened) (n i : ℕ) (h : Deepening o n i) where
  pub deep_done : o.count ≤ i → Deep o n
  unfolding opened_of
  deep_done k = let e : i ≡ o.count = omega (arith, k, h.reach) in record { is = λ s. h.is s ∙ ap (λ (z : ℕ). D.depth (open_from s o.items z)) e }

  module _ (x : Open) (a : OpenAt o i x) (k : ℕ) (e : k ≡ counts_for x.kind) (m : ℕ) (f : Sum20 n k m) where
    small : k ≤ 1
    small = omega (arith, e, counts_low (where_of x.kind))

    summed : (b : Bool) → ltb n 20 ≡ b → m ≡ n + k
    summed true g = f.low (ltb-true n 20 g) (omega (arith, small))
    summed false g =
        let z : k ≡ 0 = e ∙ ap (λ (y : Open). counts_for y.kind) (a.past (omega (arith, ltb-false n 20 g, h.low))) in
        omega (arith, f.high (ltb-false n 20 g), z, h.few, ltb-false n 20 g)

    sum : m ≡ n + k
    sum = summed (ltb n 20) refl

    few_more : (b : Bool) → ltb n 20 ≡ b → m ≤ 20
    few_more true g = omega (arith, sum, small, ltb-true n 20 g)
    few_more false g = omega (arith, f.high (ltb-false n 20 g))

    deeper : (s : List ℕ) → k + D.depth (open_from s o.items i) ≡ D.depth (open_from s o.items (suc i))
    unfolding open_from D.depth open_of
    deeper s = ap (λ (z : ℕ). z + D.depth (open_from s o.items i)) (e ∙ ap (λ (y : Open). counts_for y.kind) a.is)

    pub deep_more : i < o.count → Deepening o m (i + 1)
    deep_more g = record {
      is = λ s. let d : n ≡ D.depth (open_from s o.items i) = h.is s in let c : m ≡ k + D.depth (open_from s o.items i) = omega (arith, sum, d) in c ∙ deeper s ∙ ap (λ (z : ℕ). D.depth (open_from s o.items z)) (sym (add-one i));
      low = omega (arith, sum, small, h.low);
      few = few_more (ltb n 20) refl;
      reach = omega (arith, g);
    }

-- ---- what a new row has from where it stands
pub first_new : (f l : Option ℕ) (n : ℕ) → l ≡ None → link_of (Some n) ≡ D.first_of (link_of f) (link_of l) n
first_new f l n e = rw e

pub first_program : (k : Where) (f l r : Option ℕ) (n : ℕ) → k ≡ Wh.InProgram → link_of r ≡ D.first_of (link_of f) (link_of l) n → link_of r ≡ first_in (where_of k) (link_of f) (last_of k l) n
first_program k f l r n e h = rw e h

-- THE DEFINITION'S NEW ROW, in these terms
pub row_added : (k : D.Where) (o : D.Open) (os : List D.Open) (x : P.Statement) (p : ℕ) (st : D.State) → D.add_in k o os x p st
    ≡ D.grown st (first_in k st.first o.last (length st.rows)) (linked_in k o (length st.rows) st.rows ++ D.new_row x p (parent_in k o.row) (role_in k) ∷ []) (last_by k o (length st.rows) ∷ os)
row_added D.in_program o os x p st = refl
row_added D.in_group o os x p st = refl
row_added D.in_body o os x p st = refl
row_added D.in_then o os x p st = refl
row_added D.in_else o os x p st = refl

-- ---- the list at its start, and its size
size_from : (s : List ℕ) (os : List Open) (n : ℕ) → length (open_from s os n) ≡ n
unfolding open_from
size_from s os zero = refl
size_from s os (suc n) = ap suc (size_from s os n)

pub opened_size : (s : List ℕ) (o : Opened) → length (opened_of s o) ≡ o.count
unfolding opened_of
opened_size s o = size_from s o.items o.count
