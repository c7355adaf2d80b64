-- The room of names as a book: what a record that is written changes; and the laws of declaring.
-- Assumes nothing.
use mathlib.Core.Path.{◌≡◌, refl, sym, ap, ◌∙◌}
use mathlib.Core.Bool.{Bool, true, false}
use mathlib.Core.List.{List, [], ◌∷◌, ◌++◌}
use Prim.Native.Nat.{ℕ, zero, suc, ◌+◌, ◌*◌, ◌-◌, ◌%◌, ◌<◌, ◌≤◌}
use native.Mathlib.Omega.{arith}
use native.Mathlib.Nat.{add-zero, mod-eq_of_lt}
use native.Mathlib.Numerals.{add-one}
use borrow.Author.Tests.{le-leb, lt-leb, eqb-true, eqb-false}
use lib.Dec.{eqb}
use Rattle.std.proofs.Common.{Option, Some, None}
use lib.ListN.{length, get_or, set}
use Rattle.definition.specs.Bytes.{mixed, folded}
use Rattle.definition.specs.Choice.{when}
use Rattle.definition.specs.Lists.{part}
use Rattle.definition.specs.Room.{over}
use Rattle.definition.proofs.Rooms.{length_over}
use Rattle.definition.specs.World as W
use Rattle.definition.specs.Names as N
use Rattle.names.specs.Table.{owner_of, denotation_of, activity_of, identifier_of, identifiers_from, name_in, numbers_of, found_for, spelled}
use Rattle.names.proofs.Laws.{name_back, name_other}
use Rattle.names.specs.declared.Identifier.{Identifier}
use Rattle.names.specs.declared.Name.{Name}
use Rattle.names.specs.declared.Owner.{Owner}
use Rattle.names.specs.declared.Activity.TheVariants.{Inactive}
use Rattle.names.specs.declared.Address.{Address}
use Rattle.names.specs.declared.Denotation.{Denotation}
use Rattle.entering.specs.declared.Meaning.{Meaning}
use Rattle.entering.specs.declared.Tally.{Tally}
use Rattle.entering.specs.declared.Spelling.{Spelling}
use Rattle.entering.specs.Book.{joint_for, tally_past, tally_second, tally_of, new_denotation, Book, book_add, book_joint, book_join, book_at, book_one, denotations_from, activities_from, book_of, Roomy, Declarable, identifier_in, new_name, Added, Joining, JoinedAt, Entered, AddedIf, JoinedIf, EnteredIf, identifier_at}

-- ---- lists by number
abbrev tab : {A : Type 0} → (ℕ → A) → ℕ → ℕ → List A
tab g a zero = []
tab g a (suc n) = g a ∷ tab g (suc a) n

module _ {A : Type 0} where
  length_tab : (g : ℕ → A) (a n : ℕ) → length (tab g a n) ≡ n
  length_tab g a zero = refl
  length_tab g a (suc n) = ap suc (length_tab g (suc a) n)

  tab_more : (g : ℕ → A) (a n : ℕ) → tab g a (suc n) ≡ tab g a n ++ (g (a + n) ∷ [])
  tab_more g a zero = rw add-zero
  tab_more g a (suc n) = let e : a + suc n ≡ suc a + n = omega arith in ap (λ (x : List A). g a ∷ x) (rw e (tab_more g (suc a) n))

  tab_kept : (g h : ℕ → A) (a n : ℕ) → ((i : ℕ) → a ≤ i → i < a + n → g i ≡ h i) → tab g a n ≡ tab h a n
  tab_kept g h a zero f = refl
  tab_kept g h a (suc n) f = rw (f a (omega arith) (omega arith), tab_kept g h (suc a) n (λ i k l. f i (omega arith) (omega arith)))

  tab_set : (g h : ℕ → A) (k a n : ℕ) → k < n → ((i : ℕ) → (a + k ≡ i → ⊥) → g i ≡ h i) → tab g a n ≡ set (tab h a n) k (g (a + k))
  tab_set g h k a zero l f = absurd (omega arith)
  tab_set g h zero a (suc n) l f = rw (add-zero, tab_kept g h (suc a) n (λ i j m. f i (λ e. omega arith)))
  tab_set g h (suc k) a (suc n) l f =
      let e : a + suc k ≡ suc a + k = omega arith in
      rw (e, f a (λ q. omega arith), tab_set g h k (suc a) n (omega arith) (λ i q. f i (λ z. q (omega arith))))

  get_d_tab : (g : ℕ → A) (k a n : ℕ) (d : A) → k < n → get_or (tab g a n) k d ≡ g (a + k)
  get_d_tab g k a zero d l = absurd (omega arith)
  get_d_tab g zero a (suc n) d l = rw add-zero
  get_d_tab g (suc k) a (suc n) d l = let e : a + suc k ≡ suc a + k = omega arith in rw e (get_d_tab g k (suc a) n d (omega arith))

-- ---- the three lists of a book
module _ (d t : List ℕ) where
  identifiers_tab : (a n : ℕ) → identifiers_from d t a n ≡ tab (λ i. identifier_of d (name_in t i)) a n
  unfolding identifiers_from
  identifiers_tab a zero = refl
  identifiers_tab a (suc n) = rw (identifiers_tab (suc a) n)

  pub identifiers_length : (n : ℕ) → length (identifiers_from d t 0 n) ≡ n
  identifiers_length n = rw (identifiers_tab 0 n) (length_tab (λ i. identifier_of d (name_in t i)) 0 n)

denotations_tab : (t : List ℕ) (a n : ℕ) → denotations_from t a n ≡ tab (λ i. denotation_of (name_in t i).denotation) a n
unfolding denotations_from
denotations_tab t a zero = refl
denotations_tab t a (suc n) = rw (denotations_tab t (suc a) n)

activities_tab : (t : List ℕ) (a n : ℕ) → activities_from t a n ≡ tab (λ i. activity_of (name_in t i).activity) a n
unfolding activities_from
activities_tab t a zero = refl
activities_tab t a (suc n) = rw (activities_tab t (suc a) n)

-- ---- a record that is written
module _ (t u : List ℕ) (a : ℕ) (x : Name) (h : u ≡ over t (16 * a) (numbers_of x)) (r : 16 * a + 11 ≤ length t) where
  here : name_in u a ≡ x
  here = rw h (name_back t a x r)

  elsewhere : (i : ℕ) → (a ≡ i → ⊥) → name_in u i ≡ name_in t i
  elsewhere i e = rw h (name_other t a i x e)

  size_kept : length u ≡ length t
  size_kept = rw h (length_over t (16 * a) (numbers_of x))

  module _ {A : Type 0} (f : Name → A) where
    appended : tab (λ i. f (name_in u i)) 0 (a + 1) ≡ tab (λ i. f (name_in t i)) 0 a ++ (f x ∷ [])
    appended =
        let e : 0 + a ≡ a = omega arith in
        rw add-one (tab_more (λ i. f (name_in u i)) 0 a ∙ rw (e, here, tab_kept (λ i. f (name_in u i)) (λ i. f (name_in t i)) 0 a (λ i k l. ap f (elsewhere i (λ q. omega arith)))))

    replaced : (n : ℕ) → a < n → tab (λ i. f (name_in u i)) 0 n ≡ set (tab (λ i. f (name_in t i)) 0 n) a (f x)
    replaced n l =
        let e : 0 + a ≡ a = omega arith in
        rw (e, here) at (tab_set (λ i. f (name_in u i)) (λ i. f (name_in t i)) a 0 n l (λ i q. ap f (elsewhere i (λ z. q (omega arith)))))

    unchanged : (n : ℕ) → f x ≡ f (name_in t a) → tab (λ i. f (name_in u i)) 0 n ≡ tab (λ i. f (name_in t i)) 0 n
    unchanged n q = tab_kept (λ i. f (name_in u i)) (λ i. f (name_in t i)) 0 n (λ i k l. either i (eqb a i) refl)
      where
        either : (i : ℕ) (b : Bool) → eqb a i ≡ b → f (name_in u i) ≡ f (name_in t i)
        either i true e = rw (← eqb-true a i e, here) q
        either i false e = ap f (elsewhere i (eqb-false a i e))

-- ---- a name that was not known
book_eq : {i j : List W.Identifier} {d e : List W.Denotation} {a b : List W.Activity} (p q : Option ℕ) → i ≡ j → d ≡ e → a ≡ b
    → ◌≡◌ {A = Book} (record { identifiers = i; denotations = d; activities = a; past = p; second = q }) (record { identifiers = j; denotations = e; activities = b; past = p; second = q })
book_eq p q f g h = rw (f, g, h)

module _ (t : List ℕ) (x : Tally) (p : Spelling) (o : Owner) (e : Denotation) (r : Roomy t x) where
  pub added_past : (y : Tally) → 256 ≤ x.names → y ≡ tally_past x p.from → Added t x p o e t y
  unfolding book_of book_add
  added_past y h k = rw k (record {
    book = λ d. rw (le-leb 256 (length (identifiers_from d t 0 x.names)) (omega (arith, h, identifiers_length d t x.names)));
    roomy = record { size = r.size; few = r.few };
    member = refl;
    base = refl;
  })

  module _ (u : List ℕ) (i : Identifier) (h : x.names < 256) (k : i ≡ identifier_in x.base p)
      (w : u ≡ over t (16 * x.names) (numbers_of (record { identifier = i; owner = o; denotation = e; activity = Inactive }))) where
    room : 16 * x.names + 11 ≤ length t
    room = omega (arith, h, r.size)

    pub added_more : Added t x p o e u (tally_of x.member x.base (x.names + 1) x.past x.second)
    unfolding book_of book_add
    added_more =
        let n : Name = new_name x.base p o e in
        let v : u ≡ over t (16 * x.names) (numbers_of n) = rw k at w in
        record {
          book = λ d.
              rw (lt-leb 256 (length (identifiers_from d t 0 x.names)) (omega (arith, h, identifiers_length d t x.names)))
              (book_eq x.past x.second
              (rw (identifiers_tab d u 0 (x.names + 1), identifiers_tab d t 0 x.names) (appended t u x.names n v room (identifier_of d)))
              (rw (denotations_tab u 0 (x.names + 1), denotations_tab t 0 x.names) (appended t u x.names n v room (λ z. denotation_of z.denotation)))
              (rw (activities_tab u 0 (x.names + 1), activities_tab t 0 x.names) (appended t u x.names n v room (λ z. activity_of z.activity))));
          roomy = record { size = rw (size_kept t u x.names n v room) r.size; few = omega (arith, h) };
          member = refl;
          base = refl;
        }

-- ---- a name that was known
module _ (t : List ℕ) (x : Tally) (a p : ℕ) (e : Denotation) (r : Joining t x a) (o : Name) (h : o ≡ name_in t a) (j : Option Denotation) (k : joint_for j ≡ N.joint_of (denotation_of o.denotation) (denotation_of e)) where
  before : get_or (denotations_from t 0 x.names) a W.builtin_name ≡ denotation_of o.denotation
  before = let z : 0 + a ≡ a = omega arith in rw (denotations_tab t 0 x.names, h) (rw z at (get_d_tab (λ i. denotation_of (name_in t i).denotation) a 0 x.names W.builtin_name r.known))

  together : N.joint_of (get_or (denotations_from t 0 x.names) a W.builtin_name) (denotation_of e) ≡ joint_for j
  together = ap (λ (z : W.Denotation). N.joint_of z (denotation_of e)) before ∙ sym k

  pub joined_twice : (y : Tally) → j ≡ None → y ≡ tally_second x p → JoinedAt t x a p e t y
  unfolding book_of book_join
  joined_twice y f g = rw g (record {
    book = λ d. sym (ap (λ (z : N.Joint). book_joint z a p (book_of d t x)) (together ∙ ap joint_for f));
    roomy = record { size = r.roomy.size; few = r.roomy.few };
    member = refl;
    base = refl;
  })

  module _ (v : Denotation) (f : j ≡ Some v) (u : List ℕ) (w : u ≡ over t (16 * a) (numbers_of (record { identifier = o.identifier; owner = o.owner; denotation = v; activity = o.activity }))) where
    rooms : 16 * a + 11 ≤ length t
    rooms = omega (arith, r.known, r.roomy.few, r.roomy.size)

    pub joined_set : JoinedAt t x a p e u x
    unfolding book_of book_join
    joined_set =
        let n : Name = record { identifier = o.identifier; owner = o.owner; denotation = v; activity = o.activity } in
        record {
          book = λ d.
              book_eq x.past x.second
              (rw (identifiers_tab d u 0 x.names, identifiers_tab d t 0 x.names) (unchanged t u a n w rooms (identifier_of d) x.names (rw h)))
              (rw (denotations_tab u 0 x.names, denotations_tab t 0 x.names) (replaced t u a n w rooms (λ z. denotation_of z.denotation) x.names r.known))
              (rw (activities_tab u 0 x.names, activities_tab t 0 x.names) (unchanged t u a n w rooms (λ z. activity_of z.activity) x.names (rw h)))
              ∙ sym (ap (λ (z : N.Joint). book_joint z a p (book_of d t x)) (together ∙ ap joint_for f));
          roomy = record { size = rw (size_kept t u a n w rooms) r.roomy.size; few = r.roomy.few };
          member = refl;
          base = refl;
        }

-- ---- a declaration
known_is : (f : W.Address) (a : Address) → found_for f ≡ Some a → f ≡ W.address a.0
known_is (W.address b) a e = let z : ◌≡◌ {A = Address} (record { 0 = b }) a = cc in rw (← z)
known_is W.unknown a e = cc

unknown_is : (f : W.Address) → found_for f ≡ None → f ≡ W.unknown
unknown_is (W.address b) e = cc
unknown_is W.unknown e = refl

hit : (w : List ℕ) (k : W.Owner) (b c : ℕ) (is : List W.Identifier) (g : Bool) → when g (λ _. W.address b) (λ _. W.address_in w k (suc b) is) ≡ W.address c → (W.address_in w k (suc b) is ≡ W.address c → c < suc b + length is) → c < b + suc (length is)
hit w k b c is true e f = let z : b ≡ c = cc in omega arith
hit w k b c is false e f = omega (arith, f e)

pub address_low : (w : List ℕ) (k : W.Owner) (b c : ℕ) (is : List W.Identifier) → W.address_in w k b is ≡ W.address c → c < b + length is
unfolding W.address_in
address_low w k b c [] e = cc
address_low w k b c (i ∷ is) e = hit w k b c is (W.is_identifier w k i) e (address_low w k (suc b) c is)

module _ (d s t : List ℕ) (x : Tally) (p : Spelling) (o : Owner) (h : Declarable d s t x p) (n : ℕ) (hn : n ≡ p.to - p.from)
    (f : Option Address) (hf : f ≡ found_for (W.address_in (folded mixed (part n p.from s)) (owner_of o) 0 (identifiers_from d t 0 x.names))) where
  looked : f ≡ found_for (W.address_in (folded mixed (part (p.to - p.from) p.from s)) (owner_of o) 0 (identifiers_from d t 0 x.names))
  looked = rw hn at hf

  pub declare_joining : (a : Address) → f ≡ Some a → Joining t x a.0
  declare_joining a e = record {
    roomy = h.roomy;
    known = omega (arith, address_low (folded mixed (part (p.to - p.from) p.from s)) (owner_of o) 0 a.0 (identifiers_from d t 0 x.names) (known_is (W.address_in (folded mixed (part (p.to - p.from) p.from s)) (owner_of o) 0 (identifiers_from d t 0 x.names)) a (sym looked ∙ e)), identifiers_length d t x.names);
  }

  spelled_there : spelled d (identifier_in x.base p) ≡ folded mixed (part (p.to - p.from) p.from s)
  spelled_there =
      let l : p.from < p.to = h.spelled.low in
      let i : x.base + p.to ≤ 65536 = h.spelled.inside in
      let a : p.from % 65536 ≡ p.from = mod-eq_of_lt (omega arith) in
      let b : (x.base + p.from) % 65536 ≡ x.base + p.from = mod-eq_of_lt (omega arith) in
      let c : (p.to - p.from) % 65536 ≡ p.to - p.from = mod-eq_of_lt h.spelled.short in
      rw (a, b, c) (ap (folded mixed) h.spelled.same)

  module _ (g : Meaning) (e : Denotation) (he : e ≡ new_denotation x.member g) (u : List ℕ) (y : Tally) where
    pub declare_known : (a : Address) → f ≡ Some a → JoinedAt t x a.0 p.from e u y
        → Entered d t x (book_one (identifier_at s p o) (denotation_of (new_denotation x.member g)) p.from) u y
    unfolding book_one book_of
    declare_known a k j = record {
      book = rw he at (j.book d) ∙ sym (ap (λ (z : W.Address). book_at z (identifier_at s p o) (denotation_of (new_denotation x.member g)) p.from (book_of d t x)) (known_is (W.address_in (folded mixed (part (p.to - p.from) p.from s)) (owner_of o) 0 (identifiers_from d t 0 x.names)) a (sym looked ∙ k)));
      roomy = j.roomy;
      member = j.member;
      base = j.base;
    }

    pub declare_unknown : f ≡ None → Added t x p o e u y
        → Entered d t x (book_one (identifier_at s p o) (denotation_of (new_denotation x.member g)) p.from) u y
    unfolding book_one book_of
    declare_unknown k j = record {
      book = rw (he, spelled_there) at (j.book d) ∙ sym (ap (λ (z : W.Address). book_at z (identifier_at s p o) (denotation_of (new_denotation x.member g)) p.from (book_of d t x)) (unknown_is (W.address_in (folded mixed (part (p.to - p.from) p.from s)) (owner_of o) 0 (identifiers_from d t 0 x.names)) (sym looked ∙ k)));
      roomy = j.roomy;
      member = j.member;
      base = j.base;
    }

-- ---- the same of any room and any spelling
module _ (t : List ℕ) (x : Tally) (p : Spelling) (o : Owner) (e : Denotation) where
  pub adds_past : (n : ℕ) (y : Tally) → n ≡ x.names → 256 ≤ n → y ≡ tally_past x p.from → AddedIf t x p o e t y
  adds_past n y f h k = record { is = λ r. added_past t x p o e r y (omega (arith, f, h)) k }

  pub adds_more : (n : ℕ) (u : List ℕ) (i : Identifier) → n ≡ x.names → n < 256 → i ≡ identifier_in x.base p → u ≡ over t (16 * x.names) (numbers_of (record { identifier = i; owner = o; denotation = e; activity = Inactive }))
      → AddedIf t x p o e u (tally_of x.member x.base (x.names + 1) x.past x.second)
  adds_more n u i f h k w = record { is = λ r. added_more t x p o e r u i (omega (arith, f, h)) k w }

module _ (t : List ℕ) (x : Tally) (a p : ℕ) (e : Denotation) (o : Name) (h : o ≡ name_in t a) (j : Option Denotation) (k : joint_for j ≡ N.joint_of (denotation_of o.denotation) (denotation_of e)) where
  pub joins_twice : (y : Tally) → j ≡ None → y ≡ tally_second x p → JoinedIf t x a p e t y
  joins_twice y f g = record { is = λ r. joined_twice t x a p e r o h j k y f g }

  pub joins_set : (v : Denotation) → j ≡ Some v → (u : List ℕ) → u ≡ over t (16 * a) (numbers_of (record { identifier = o.identifier; owner = o.owner; denotation = v; activity = o.activity })) → JoinedIf t x a p e u x
  joins_set v f u w = record { is = λ r. joined_set t x a p e r o h j k v f u w }

module _ (d s t : List ℕ) (x : Tally) (p : Spelling) (o : Owner) (n : ℕ) (hn : n ≡ p.to - p.from)
    (f : Option Address) (hf : f ≡ found_for (W.address_in (folded mixed (part n p.from s)) (owner_of o) 0 (identifiers_from d t 0 x.names))) (g : Meaning) (e : Denotation) (he : e ≡ new_denotation x.member g) (u : List ℕ) (y : Tally) where
  pub declares_known : (a : Address) → f ≡ Some a → JoinedIf t x a.0 p.from e u y → EnteredIf d s t x p (book_one (identifier_at s p o) (denotation_of (new_denotation x.member g)) p.from) u y
  declares_known a k j = record { is = λ h. declare_known d s t x p o h n hn f hf g e he u y a k (j.is (declare_joining d s t x p o h n hn f hf a k)) }

  pub declares_unknown : f ≡ None → AddedIf t x p o e u y → EnteredIf d s t x p (book_one (identifier_at s p o) (denotation_of (new_denotation x.member g)) p.from) u y
  declares_unknown k j = record { is = λ h. declare_unknown d s t x p o h n hn f hf g e he u y k (j.is h.roomy) }
