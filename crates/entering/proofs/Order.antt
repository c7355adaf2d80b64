-- Names that are entered while a member is read decide as the definition does, which enters them afterwards: the first name that
-- is one too many, the first that is declared twice, and else the names.
-- Assumes nothing.
use Rattle.std.proofs.Common.{Option, Some, None, Result, Ok, Err}
use mathlib.Core.Path.{◌≡◌, refl, sym, ap, subst, ◌∙◌}
use mathlib.Core.Bool.{Bool, true, false, cond, ◌||◌}
use mathlib.Core.List.{List, [], ◌∷◌, ◌++◌}
use Prim.Native.Nat.{ℕ, suc, ◌-◌}
use native.Mathlib.Omega.{arith}
use lib.Dec.{leb, ltb}
use lib.ListN.{length, length-append, get_or}
use Rattle.definition.specs.Choice.{when}
use Rattle.definition.specs.Program as P
use Rattle.definition.specs.World as W
use Rattle.definition.specs.Names as N
use Rattle.definition.specs.Limits.{entered_sentences}
use Rattle.definition.specs.declared.Why.{Why}
use Rattle.definition.specs.declared.Why.TheVariants.{OverLimit, DeclaredTwice}
use Rattle.entering.specs.Book.{Book, mark_of, book_past, book_second, book_more, book_set, book_add, book_joint, book_join, book_at, book_one, listed_one, book_listed, book_whole, fault_for, fault_in, sooner, twice_or}
use Rattle.entering.specs.Entry.{Shows, Entry, goes_in, stays_out}

-- ---- a name is listed where it has an address
abbrev found : W.Address → Bool
found (W.address a) = true
found W.unknown = false

found_when : (g r : Bool) (a : ℕ) (x : W.Address) → found x ≡ r → found (when g (λ _. W.address a) (λ _. x)) ≡ (g || r)
found_when true r a x h = refl
found_when false r a x h = h

found_is : (i : W.Identifier) (a : ℕ) (is : List W.Identifier) → found (W.address_in i.spelling i.owner a is) ≡ N.is_listed i is
unfolding W.address_in N.is_listed
found_is i a [] = refl
found_is i a (j ∷ js) = found_when (W.is_identifier i.spelling i.owner j) (N.is_listed i js) a (W.address_in i.spelling i.owner (suc a) js) (found_is i (suc a) js)

or_swap : (a b c : Bool) → (a || (b || c)) ≡ (b || (a || c))
or_swap true true c = refl
or_swap true false c = refl
or_swap false true c = refl
or_swap false false c = refl

listed_append : (i j : W.Identifier) (is : List W.Identifier) → N.is_listed i (is ++ (j ∷ [])) ≡ N.is_listed i (j ∷ is)
unfolding N.is_listed
listed_append i j [] = refl
listed_append i j (k ∷ ks) = ap (λ (z : Bool). W.is_identifier i.spelling i.owner k || z) (listed_append i j ks) ∙ or_swap (W.is_identifier i.spelling i.owner k) (W.is_identifier i.spelling i.owner j) (N.is_listed i ks)

-- ---- what a declaration is
data Case (x : N.New) (b : Bool) : Type 0 where
  lists : x ≡ N.listing → b ≡ true → Case x b
  makes : (d : W.Denotation) → x ≡ N.new d → b ≡ false → Case x b

case_of : (m : ℕ) (g : P.Meaning) → Case (N.new_of m g) (N.is_parameter g)
case_of m (P.variable t) = makes (W.variable_of t) refl refl
case_of m P.entry = makes (W.entry_of true W.no_body) refl refl
case_of m (P.body r) = makes (W.entry_of false (W.body_at m r)) refl refl
case_of m (P.label r) = makes (W.label_at m r false) refl refl
case_of m (P.end_label r) = makes (W.label_at m r true) refl refl
case_of m P.builtin = makes W.builtin_name refl refl
case_of m P.parameter = lists refl refl

-- ---- a mark stays
joint_past : (x : N.Joint) (a p : ℕ) (b : Book) → (book_joint x a p b).past ≡ b.past
joint_past (N.joint d) a p b = refl
joint_past N.twice a p b = refl

joint_names : (x : N.Joint) (a p : ℕ) (b : Book) → (book_joint x a p b).identifiers ≡ b.identifiers
joint_names (N.joint d) a p b = refl
joint_names N.twice a p b = refl

listed_past : (g : Bool) (p : ℕ) (b : Book) → (cond {A = Book} g (book_second p b) b).past ≡ b.past
listed_past true p b = refl
listed_past false p b = refl

listed_names : (g : Bool) (p : ℕ) (b : Book) → (cond {A = Book} g (book_second p b) b).identifiers ≡ b.identifiers
listed_names true p b = refl
listed_names false p b = refl

marked_add : (g : Bool) (i : W.Identifier) (d : W.Denotation) (p q : ℕ) (b : Book) → b.past ≡ Some q → (cond {A = Book} g (book_past p b) (book_more i d b)).past ≡ Some q
marked_add true i d p q b h = rw h
marked_add false i d p q b h = h

marked_at : (x : W.Address) (i : W.Identifier) (d : W.Denotation) (p q : ℕ) (b : Book) → b.past ≡ Some q → (book_at x i d p b).past ≡ Some q
unfolding book_add book_join
marked_at (W.address a) i d p q b h = joint_past (N.joint_of (get_or b.denotations a W.builtin_name) d) a p b ∙ h
marked_at W.unknown i d p q b h = marked_add (leb 256 (length b.identifiers)) i d p q b h

marked_one : (x : N.New) (i : W.Identifier) (ps : List W.Identifier) (p q : ℕ) (b : Book) → b.past ≡ Some q → (book_listed x i ps p b).past ≡ Some q
unfolding book_one
marked_one (N.new d) i ps p q b h = marked_at (W.address_in i.spelling i.owner 0 b.identifiers) i d p q b h
marked_one N.listing i ps p q b h = listed_past (N.is_listed i ps) p b ∙ h

marked_stays : (m : ℕ) (ps : List W.Identifier) (ds : List P.Declared) (q : ℕ) (b : Book) → b.past ≡ Some q → (book_whole m ps ds b).past ≡ Some q
unfolding book_whole
marked_stays m ps [] q b h = h
marked_stays m ps (d ∷ ds) q b h = marked_stays m (listed_one (N.new_of m d.meaning) (N.identifier_of m d) ps) ds q (book_listed (N.new_of m d.meaning) (N.identifier_of m d) ps d.place b) (marked_one (N.new_of m d.meaning) (N.identifier_of m d) ps d.place q b h)

-- ---- THE FIRST NAME that is one too many is the definition's
pub record Alike (b : Book) (is : List W.Identifier) : Type 0 where
  pub past : b.past ≡ None
  pub size : length is ≡ length b.identifiers
  pub listed : (i : W.Identifier) → N.is_listed i is ≡ N.is_listed i b.identifiers

more_alike : (b : Book) (is : List W.Identifier) (i : W.Identifier) (d : W.Denotation) → Alike b is → Alike (book_more i d b) (i ∷ is)
unfolding N.is_listed
more_alike b is i d h = record {
  past = h.past;
  size = omega (arith, h.size, length-append b.identifiers (i ∷ []));
  listed = λ j. ap (λ (z : Bool). W.is_identifier j.spelling j.owner i || z) (h.listed j) ∙ sym (listed_append j i b.identifiers);
}

same_alike : (b c : Book) (is : List W.Identifier) → c.past ≡ b.past → c.identifiers ≡ b.identifiers → Alike b is → Alike c is
same_alike b c is e f h = record { past = e ∙ h.past; size = rw f h.size; listed = λ j. rw f (h.listed j) }

module _ (m : ℕ) (ds : List P.Declared) (again : (ps : List W.Identifier) (b : Book) (is : List W.Identifier) → Alike b is → (book_whole m ps ds b).past ≡ mark_of (N.names_past m is ds)) where
  add_past : (ps : List W.Identifier) (b : Book) (is : List W.Identifier) (i : W.Identifier) (d : W.Denotation) (p : ℕ) (g : Bool) → leb 256 (length is) ≡ g → Alike b is
      → (book_whole m ps ds (cond {A = Book} (leb 256 (length b.identifiers)) (book_past p b) (book_more i d b))).past ≡ mark_of (when g (λ _. N.past_at p) (λ _. N.names_past m (i ∷ is) ds))
  add_past ps b is i d p true e h = rw (← h.size, e) (marked_stays m ps ds p (book_past p b) (rw h.past))
  add_past ps b is i d p false e h = rw (← h.size, e) (again ps (book_more i d b) (i ∷ is) (more_alike b is i d h))

  at_past : (ps : List W.Identifier) (b : Book) (is : List W.Identifier) (i : W.Identifier) (d : W.Denotation) (p : ℕ) (x : W.Address) (g : Bool) → found x ≡ g → Alike b is
      → (book_whole m ps ds (book_at x i d p b)).past ≡ mark_of (when g (λ _. N.names_past m is ds) (λ _. when (leb 256 (length is)) (λ _. N.past_at p) (λ _. N.names_past m (i ∷ is) ds)))
  unfolding book_add book_join
  at_past ps b is i d p (W.address a) g e h =
      let c : Book = book_joint (N.joint_of (get_or b.denotations a W.builtin_name) d) a p b in
      rw (← e) (again ps c is (same_alike b c is (joint_past (N.joint_of (get_or b.denotations a W.builtin_name) d) a p b) (joint_names (N.joint_of (get_or b.denotations a W.builtin_name) d) a p b) h))
  at_past ps b is i d p W.unknown g e h = rw (← e) (add_past ps b is i d p (leb 256 (length is)) refl h)

  one_past : (ps : List W.Identifier) (b : Book) (is : List W.Identifier) (i : W.Identifier) (p : ℕ) (x : N.New) (t : Bool) → Case x t → Alike b is
      → (book_whole m (listed_one x i ps) ds (book_listed x i ps p b)).past ≡ mark_of (when (t || N.is_listed i is) (λ _. N.names_past m is ds) (λ _. when (leb 256 (length is)) (λ _. N.past_at p) (λ _. N.names_past m (i ∷ is) ds)))
  unfolding book_one
  one_past ps b is i p x t (lists e f) h =
      let c : Book = cond {A = Book} (N.is_listed i ps) (book_second p b) b in
      rw (e, f) (again (i ∷ ps) c is (same_alike b c is (listed_past (N.is_listed i ps) p b) (listed_names (N.is_listed i ps) p b) h))
  one_past ps b is i p x t (makes d e f) h = rw (e, f) (at_past ps b is i d p (W.address_in i.spelling i.owner 0 b.identifiers) (N.is_listed i is) (found_is i 0 b.identifiers ∙ sym (h.listed i)) h)

pub past_is : (m : ℕ) (ps : List W.Identifier) (ds : List P.Declared) (b : Book) (is : List W.Identifier) → Alike b is → (book_whole m ps ds b).past ≡ mark_of (N.names_past m is ds)
unfolding book_whole N.names_past
past_is m ps [] b is h = h.past
past_is m ps (d ∷ ds) b is h = one_past m ds (λ qs c js k. past_is m qs ds c js k) ps b is (N.identifier_of m d) d.place (N.new_of m d.meaning) (N.is_parameter d.meaning) (case_of m d.meaning) h

-- ---- the first name that is declared twice stays
second_listed : (g : Bool) (p q : ℕ) (b : Book) → b.second ≡ Some q → (cond {A = Book} g (book_second p b) b).second ≡ Some q
second_listed true p q b h = rw h
second_listed false p q b h = h

second_joint : (x : N.Joint) (a p q : ℕ) (b : Book) → b.second ≡ Some q → (book_joint x a p b).second ≡ Some q
second_joint (N.joint d) a p q b h = h
second_joint N.twice a p q b h = rw h

second_add : (g : Bool) (i : W.Identifier) (d : W.Denotation) (p q : ℕ) (b : Book) → b.second ≡ Some q → (cond {A = Book} g (book_past p b) (book_more i d b)).second ≡ Some q
second_add true i d p q b h = h
second_add false i d p q b h = h

second_at : (x : W.Address) (i : W.Identifier) (d : W.Denotation) (p q : ℕ) (b : Book) → b.second ≡ Some q → (book_at x i d p b).second ≡ Some q
unfolding book_add book_join
second_at (W.address a) i d p q b h = second_joint (N.joint_of (get_or b.denotations a W.builtin_name) d) a p q b h
second_at W.unknown i d p q b h = second_add (leb 256 (length b.identifiers)) i d p q b h

second_one : (x : N.New) (i : W.Identifier) (ps : List W.Identifier) (p q : ℕ) (b : Book) → b.second ≡ Some q → (book_listed x i ps p b).second ≡ Some q
unfolding book_one
second_one (N.new d) i ps p q b h = second_at (W.address_in i.spelling i.owner 0 b.identifiers) i d p q b h
second_one N.listing i ps p q b h = second_listed (N.is_listed i ps) p q b h

second_stays : (m : ℕ) (ps : List W.Identifier) (ds : List P.Declared) (q : ℕ) (b : Book) → b.second ≡ Some q → (book_whole m ps ds b).second ≡ Some q
unfolding book_whole
second_stays m ps [] q b h = h
second_stays m ps (d ∷ ds) q b h = second_stays m (listed_one (N.new_of m d.meaning) (N.identifier_of m d) ps) ds q (book_listed (N.new_of m d.meaning) (N.identifier_of m d) ps d.place b) (second_one (N.new_of m d.meaning) (N.identifier_of m d) ps d.place q b h)

-- ---- the world that a book shows
pub data Outcome (x : N.Declaring) (c : Book) : Type 0 where
  enters : (v : W.World) → x ≡ N.fine v → Shows v c → c.second ≡ None → Outcome x c
  repeats : (p : ℕ) → x ≡ N.second p → c.second ≡ Some p → Outcome x c

abbrev jointly : N.Joint → ℕ → ℕ → W.World → N.Declaring
jointly (N.joint e) a p w = N.fine (N.set_denotation a e w)
jointly N.twice a p w = N.second p

declared_joint : (x : N.Joint) (a : ℕ) (i : W.Identifier) (d : W.Denotation) (p : ℕ) (w : W.World) → N.joint_of (W.denotation a w) d ≡ x → N.declared_at (W.address a) i d p w ≡ jointly x a p w
declared_joint (N.joint e) a i d p w h = rw h
declared_joint N.twice a i d p w h = rw h

module _ (m : ℕ) (ds : List P.Declared) (again : (ps : List W.Identifier) (w : W.World) (b : Book) → Shows w b → b.second ≡ None → (book_whole m ps ds b).past ≡ None → Outcome (N.declare_all m ps ds w) (book_whole m ps ds b)) where
  joint_outcome : (ps : List W.Identifier) (w : W.World) (b : Book) (a p : ℕ) (x : N.Joint) → Shows w b → b.second ≡ None → (book_whole m ps ds (book_joint x a p b)).past ≡ None
      → Outcome (N.onward (jointly x a p w) (N.declare_all m ps ds)) (book_whole m ps ds (book_joint x a p b))
  joint_outcome ps w b a p (N.joint e) h u k = again ps (N.set_denotation a e w) (book_set a e b) (record { identifiers = h.identifiers; denotations = rw h.denotations; activities = h.activities }) u k
  joint_outcome ps w b a p N.twice h u k = repeats p refl (second_stays m ps ds p (book_second p b) (rw u))

  add_outcome : (ps : List W.Identifier) (w : W.World) (b : Book) (i : W.Identifier) (d : W.Denotation) (p : ℕ) (g : Bool) → Shows w b → b.past ≡ None → b.second ≡ None → (book_whole m ps ds (cond {A = Book} g (book_past p b) (book_more i d b))).past ≡ None
      → Outcome (N.declare_all m ps ds (N.add_name i d w)) (book_whole m ps ds (cond {A = Book} g (book_past p b) (book_more i d b)))
  add_outcome ps w b i d p true h v u k = let q : (book_whole m ps ds (book_past p b)).past ≡ Some p = marked_stays m ps ds p (book_past p b) (rw v) in cc
  add_outcome ps w b i d p false h v u k = again ps (N.add_name i d w) (book_more i d b) (record { identifiers = rw h.identifiers; denotations = rw h.denotations; activities = rw h.activities }) u k

  at_outcome : (ps : List W.Identifier) (w : W.World) (b : Book) (i : W.Identifier) (d : W.Denotation) (p : ℕ) (x : W.Address) → Shows w b → b.past ≡ None → b.second ≡ None → (book_whole m ps ds (book_at x i d p b)).past ≡ None
      → Outcome (N.onward (N.declared_at x i d p w) (N.declare_all m ps ds)) (book_whole m ps ds (book_at x i d p b))
  unfolding book_add book_join
  at_outcome ps w b i d p (W.address a) h v u k =
      let x : N.Joint = N.joint_of (get_or b.denotations a W.builtin_name) d in
      rw (declared_joint x a i d p w (rw h.denotations)) (joint_outcome ps w b a p x h u k)
  at_outcome ps w b i d p W.unknown h v u k = add_outcome ps w b i d p (leb 256 (length b.identifiers)) h v u k

  listed_outcome : (ps : List W.Identifier) (w : W.World) (b : Book) (i : W.Identifier) (p : ℕ) (g : Bool) → Shows w b → b.second ≡ None → (book_whole m (i ∷ ps) ds (cond {A = Book} g (book_second p b) b)).past ≡ None
      → Outcome (when g (λ _. N.second p) (λ _. N.declare_all m (i ∷ ps) ds w)) (book_whole m (i ∷ ps) ds (cond {A = Book} g (book_second p b) b))
  listed_outcome ps w b i p true h u k = repeats p refl (second_stays m (i ∷ ps) ds p (book_second p b) (rw u))
  listed_outcome ps w b i p false h u k = again (i ∷ ps) w b h u k

  one_outcome : (ps : List W.Identifier) (w : W.World) (b : Book) (i : W.Identifier) (p : ℕ) (x : N.New) → Shows w b → b.past ≡ None → b.second ≡ None → (book_whole m (listed_one x i ps) ds (book_listed x i ps p b)).past ≡ None
      → Outcome (N.declare_one x i ps p w (λ qs v. N.declare_all m qs ds v)) (book_whole m (listed_one x i ps) ds (book_listed x i ps p b))
  unfolding book_one
  one_outcome ps w b i p (N.new d) h v u k = subst (λ (z : W.Address). Outcome (N.onward (N.declared_at z i d p w) (N.declare_all m ps ds)) (book_whole m ps ds (book_at (W.address_in i.spelling i.owner 0 b.identifiers) i d p b))) (ap (λ (z : List W.Identifier). W.address_in i.spelling i.owner 0 z) (sym h.identifiers)) (at_outcome ps w b i d p (W.address_in i.spelling i.owner 0 b.identifiers) h v u k)
  one_outcome ps w b i p N.listing h v u k = listed_outcome ps w b i p (N.is_listed i ps) h u k

unmarked : (m : ℕ) (ps : List W.Identifier) (ds : List P.Declared) (b : Book) (x : Option ℕ) → b.past ≡ x → (book_whole m ps ds b).past ≡ None → b.past ≡ None
unmarked m ps ds b None e k = e
unmarked m ps ds b (Some q) e k = let r : (book_whole m ps ds b).past ≡ Some q = marked_stays m ps ds q b e in cc

-- THE NAMES are the definition's, or the first that is declared twice is, where no name is one too many
pub names_are : (m : ℕ) (ps : List W.Identifier) (ds : List P.Declared) (w : W.World) (b : Book) → Shows w b → b.second ≡ None → (book_whole m ps ds b).past ≡ None → Outcome (N.declare_all m ps ds w) (book_whole m ps ds b)
unfolding book_whole N.declare_all
names_are m ps [] w b h u k = enters w refl h u
names_are m ps (d ∷ ds) w b h u k = one_outcome m ds (λ qs v c. names_are m qs ds v c) ps w b (N.identifier_of m d) d.place (N.new_of m d.meaning) h (unmarked m ps (d ∷ ds) b b.past refl k) u k

-- ---- THE DECISION, where f is what the reading found, sentences that are too many counted
abbrev declared_as : ℕ → P.Source → N.Declaring → N.Entering
declared_as m s (N.fine v) = N.entered (N.with_member m s v)
declared_as m s (N.second p) = N.unreadable DeclaredTwice p

sound_as : (m : ℕ) (s : P.Source) (w : W.World) (x : N.Declaring) → N.declare_all m [] s.declared w ≡ x → N.entered_as P.sound m s w ≡ declared_as m s x
sound_as m s w (N.fine v) e = rw e
sound_as m s w (N.second p) e = rw e

module _ (m : ℕ) (s : P.Source) (w : W.World) (c : Book) where
  by_second : Outcome (N.declare_all m [] s.declared w) c → Entry m s c (N.entered_as P.sound m s w) (twice_or c.second (Ok tt))
  by_second (enters v e h u) = goes_in v (sound_as m s w (N.fine v) e) h (rw u)
  by_second (repeats p e u) = stays_out DeclaredTwice p (sound_as m s w (N.second p) e) (rw u)

  by_fault : (f : Result (Unit {0}) (Why × ℕ)) → Outcome (N.declare_all m [] s.declared w) c → Entry m s c (N.entered_as (fault_for f) m s w) (twice_or c.second f)
  by_fault (Ok tt) o = by_second o
  by_fault (Err (e, p)) o = stays_out e p refl (any_mark c.second e p)
    where
      any_mark : (k : Option ℕ) (e : Why) (p : ℕ) → twice_or k (Err (e, p)) ≡ Err (e, p)
      any_mark None e p = refl
      any_mark (Some q) e p = refl

  by_place : (p : ℕ) (e : Why) (q : ℕ) (g : Bool) → Entry m s c (N.entered_as (cond g (P.faulty OverLimit p) (P.faulty e q)) m s w) (cond g (Err (OverLimit, p)) (Err (e, q)))
  by_place p e q true = stays_out OverLimit p refl refl
  by_place p e q false = stays_out e q refl refl

  by_past : (x : N.Past) (f : Result (Unit {0}) (Why × ℕ)) → (x ≡ N.within → Outcome (N.declare_all m [] s.declared w) c) → Entry m s c (N.entered_as (N.sooner x (fault_for f)) m s w) (sooner (mark_of x) f (twice_or c.second f))
  by_past N.within f o = by_fault f (o refl)
  by_past (N.past_at p) (Ok tt) o = stays_out OverLimit p refl refl
  by_past (N.past_at p) (Err (e, q)) o = by_place p e q (ltb p q)

pub decides : (m : ℕ) (s : P.Source) (w : W.World) (b : Book) (f : Result (Unit {0}) (Why × ℕ)) → Shows w b → b.past ≡ None → b.second ≡ None
    → fault_for f ≡ N.sooner (N.sentences_past (entered_sentences - w.sentences) s.begun) s.fault
    → Entry m s (book_whole m [] s.declared b) (N.enter m s w) (fault_in (book_whole m [] s.declared b).past (book_whole m [] s.declared b).second f)
unfolding N.enter N.fault_of fault_in
decides m s w b f h p u e =
    let c : Book = book_whole m [] s.declared b in
    let a : c.past ≡ mark_of (N.names_past m w.identifiers s.declared) = past_is m [] s.declared b w.identifiers (record { past = p; size = rw h.identifiers; listed = λ i. rw h.identifiers }) in
    rw (← e) (subst (λ (z : Option ℕ). Entry m s c (N.entered_as (N.sooner (N.names_past m w.identifiers s.declared) (fault_for f)) m s w) (sooner z f (twice_or c.second f))) (sym a) (by_past m s w c (N.names_past m w.identifiers s.declared) f (λ z. names_are m [] s.declared w b h u (a ∙ ap mark_of z))))
