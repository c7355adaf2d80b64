-- A procedure's parameters are not listed twice, so that those that all have a name are no more than the names.
-- Assumes nothing.
use mathlib.Core.Path.{◌≡◌, refl, sym, ap, subst, ◌∙◌}
use mathlib.Core.Bool.{Bool, true, false, cond, ◌&&◌, ◌||◌, false≢true}
use mathlib.Core.List.{List, [], ◌∷◌, ◌++◌}
use Prim.Native.Nat.{ℕ, suc, ◌≤◌}
use native.Mathlib.Omega.{arith}
use borrow.Author.Tests.{eqb-true, eq-eqb}
use lib.Dec.{eqb}
use lib.ListN.{length}
use Rattle.definition.specs.Choice.{when}
use Rattle.definition.specs.Lists.{same}
use Rattle.definition.specs.Expressions.{Named}
use Rattle.definition.specs.Program as P
use Rattle.definition.specs.Statements as St
use Rattle.definition.specs.Reading.{spelled}
use Rattle.definition.specs.World as W
use Rattle.definition.specs.World.{World, is_identifier, same_owner, address_in, address_of}
use Rattle.definition.specs.Names as N
use Rattle.definition.specs.Values as Val
use Rattle.definition.specs.Evaluate as Ev
use Rattle.showing.specs.Worlds.{Apart, Distinct}
use Rattle.showing.proofs.Spellings.{both_left, both_right, same_is, same_self}
use Rattle.showing.proofs.Meanings.{HeadIn}

-- ---- owners
pub owner_is : (a b : W.Owner) → same_owner a b ≡ true → a ≡ b
owner_is W.everyone W.everyone e = refl
owner_is W.everyone (W.procedure_at m r) e = absurd (false≢true e)
owner_is (W.procedure_at m r) W.everyone e = absurd (false≢true e)
owner_is (W.procedure_at m r) (W.procedure_at n q) e =
    ap (λ (k : ℕ). W.procedure_at k r) (eqb-true m n (both_left (eqb m n) (eqb r q) e)) ∙ ap (λ (k : ℕ). W.procedure_at n k) (eqb-true r q (both_right (eqb m n) (eqb r q) e))

owner_self : (k : W.Owner) → same_owner k k ≡ true
owner_self W.everyone = refl
owner_self (W.procedure_at m r) = rw (eq-eqb m m refl, eq-eqb r r refl)

-- ---- names of one owner that are all different
abbrev pub own : W.Owner → List ℕ → W.Identifier
own k n = record { spelling = n; owner = k }

-- none is listed in qs
abbrev Out : W.Owner → List W.Identifier → List (List ℕ) → Type 0
Out k qs [] = Unit {0}
Out k qs (n ∷ ns) = (N.is_listed (own k n) qs ≡ false) × Out k qs ns

-- all are
abbrev AllIn : W.Owner → List W.Identifier → List (List ℕ) → Type 0
AllIn k is [] = Unit {0}
AllIn k is (n ∷ ns) = (N.is_listed (own k n) is ≡ true) × AllIn k is ns

either_left : (a b : Bool) → (a || b) ≡ false → a ≡ false
either_left true b e = e
either_left false b e = refl

either_right : (a b : Bool) → (a || b) ≡ false → b ≡ false
either_right true b e = absurd (false≢true (sym e))
either_right false b e = e

out_apart : (k : W.Owner) (n : List ℕ) (qs : List W.Identifier) (ns : List (List ℕ)) → Out k (own k n ∷ qs) ns → Apart n ns × Out k qs ns
unfolding N.is_listed
out_apart k n qs [] h = (tt, tt)
out_apart k n qs (x ∷ xs) h =
    let i : Apart n xs × Out k qs xs = out_apart k n qs xs h.1 in
    let e : (same n x && same_owner k k) ≡ false = either_left (is_identifier x k (own k n)) (N.is_listed (own k x) qs) h.0 in
    let f : (same n x && true) ≡ false = subst (λ (b : Bool). (same n x && b) ≡ false) (owner_self k) e in
    ((by (same n x) f, i.0), (either_right (is_identifier x k (own k n)) (N.is_listed (own k x) qs) h.0, i.1))
  where
    by : (b : Bool) → (b && true) ≡ false → b ≡ false
    by true z = z
    by false z = refl

-- ---- declared without a fault, parameters that stand one behind the other are distinct
abbrev pub IsFine : N.Declaring → Type 0
IsFine (N.fine w) = Unit {0}
IsFine (N.second p) = ⊥

onward_fine : (x : N.Declaring) (f : World → N.Declaring) (A : Type 0) → ((w : World) → IsFine (f w) → A) → IsFine (N.onward x f) → A
onward_fine (N.fine w) f A h i = h w i
onward_fine (N.second p) f A h i = absurd i

listed_fine : (b : Bool) (x y : Unit {0} → N.Declaring) (A : Type 0) → (b ≡ false → IsFine (y tt) → A) → (IsFine (x tt) → A) → IsFine (when b x y) → A
listed_fine true x y A h g i = g i
listed_fine false x y A h g i = h refl i

one_fine : (y : N.New) (i : W.Identifier) (ps : List W.Identifier) (p : ℕ) (w : World) (f : List W.Identifier → World → N.Declaring) (A : Type 0)
    → ((qs : List W.Identifier) (v : World) → IsFine (f qs v) → A) → IsFine (N.declare_one y i ps p w f) → A
one_fine (N.new d) i ps p w f A h g = onward_fine (N.declared_at (address_in i.spelling i.owner 0 w.identifiers) i d p w) (f ps) A (λ v e. h ps v e) g
one_fine N.listing i ps p w f A h g = listed_fine (N.is_listed i ps) (λ _. N.second p) (λ _. f (i ∷ ps) w) A (λ _ e. h (i ∷ ps) w e) (λ e. absurd e) g

-- what was declared before them is of no matter
from_there : (m : ℕ) (xs ys : List P.Declared) (ps : List W.Identifier) (w : World) (A : Type 0) → ((qs : List W.Identifier) (v : World) → IsFine (N.declare_all m qs ys v) → A) → IsFine (N.declare_all m ps (xs ++ ys) w) → A
unfolding N.declare_all
from_there m [] ys ps w A h i = h ps w i
from_there m (d ∷ xs) ys ps w A h i = one_fine (N.new_of m d.meaning) (N.identifier_of m d) ps d.place w (λ qs v. N.declare_all m qs (xs ++ ys) v) A (λ qs v e. from_there m xs ys qs v A h e) i

listed_distinct : (m r : ℕ) (ms : List Named) (ys : List P.Declared) (qs : List W.Identifier) (w : World) → IsFine (N.declare_all m qs (St.means (P.inside r) P.parameter ms ++ ys) w)
    → Distinct (spelled ms) × Out (W.procedure_at m r) qs (spelled ms)
unfolding N.declare_all
listed_distinct m r [] ys qs w h = (tt, tt)
listed_distinct m r (n ∷ ms) ys qs w h =
    let k : W.Owner = W.procedure_at m r in
    listed_fine (N.is_listed (own k n.spelling) qs) (λ _. N.second n.place) (λ _. N.declare_all m (own k n.spelling ∷ qs) (St.means (P.inside r) P.parameter ms ++ ys) w)
    (Distinct (n.spelling ∷ spelled ms) × Out k qs (n.spelling ∷ spelled ms))
    (λ e i.
    let on : Distinct (spelled ms) × Out k (own k n.spelling ∷ qs) (spelled ms) = listed_distinct m r ms ys (own k n.spelling ∷ qs) w i in
    let apart : Apart n.spelling (spelled ms) × Out k qs (spelled ms) = out_apart k n.spelling qs (spelled ms) on.1 in
    ((apart.0, on.0), (e, apart.1)))
    (λ e. absurd e) h

-- of the names of a member that goes in, those of a procedure
pub head_distinct : (m r : ℕ) (ns : List (List ℕ)) (ds : List P.Declared) (w : World) → HeadIn (P.inside r) ns ds → IsFine (N.declare_all m [] ds w) → Distinct ns
head_distinct m r ns ds w h i =
    subst (λ (l : List (List ℕ)). Distinct l) h.spelling
    (from_there m h.before (St.means (P.inside r) P.parameter h.names ++ h.behind) [] w (Distinct (spelled h.names))
    (λ qs v e. (listed_distinct m r h.names h.behind qs v e).0)
    (subst (λ (l : List P.Declared). IsFine (N.declare_all m [] l w)) h.is i))

-- ---- distinct names that are all identifiers are no more than those
unfoldable without : List ℕ → W.Owner → List W.Identifier → List W.Identifier
without n k [] = []
without n k (i ∷ is) = cond (is_identifier n k i) is (i ∷ without n k is)

without_size : (n : List ℕ) (k : W.Owner) (is : List W.Identifier) → N.is_listed (own k n) is ≡ true → suc (length (without n k is)) ≡ length is
unfolding without N.is_listed
without_size n k [] e = absurd (false≢true e)
without_size n k (i ∷ is) e = by (is_identifier n k i) e (λ f. without_size n k is f)
  where
    by : (b : Bool) → (b || N.is_listed (own k n) is) ≡ true → (N.is_listed (own k n) is ≡ true → suc (length (without n k is)) ≡ length is) → suc (length (cond b is (i ∷ without n k is))) ≡ suc (length is)
    by true f on = refl
    by false f on = ap suc (on f)

-- an identifier that n spells is not spelled by x
not_both : (n x : List ℕ) (k : W.Owner) (i : W.Identifier) → same n x ≡ false → is_identifier n k i ≡ true → is_identifier x k i ≡ false
not_both n x k i e f = by (is_identifier x k i) refl
  where
    by : (b : Bool) → is_identifier x k i ≡ b → b ≡ false
    by true g =
        let a : i.spelling ≡ n = same_is i.spelling n (both_left (same i.spelling n) (same_owner i.owner k) f) in
        let c : i.spelling ≡ x = same_is i.spelling x (both_left (same i.spelling x) (same_owner i.owner k) g) in
        absurd (false≢true (sym e ∙ ap (λ (l : List ℕ). same n l) (sym (sym a ∙ c)) ∙ same_self n))
    by false g = refl

without_keeps : (n x : List ℕ) (k : W.Owner) (is : List W.Identifier) → same n x ≡ false → N.is_listed (own k x) is ≡ true → N.is_listed (own k x) (without n k is) ≡ true
unfolding without N.is_listed
without_keeps n x k [] e f = f
without_keeps n x k (i ∷ is) e f = by (is_identifier n k i) refl (λ g. without_keeps n x k is e g)
  where
    On : Type 0
    On = N.is_listed (own k x) is ≡ true → N.is_listed (own k x) (without n k is) ≡ true

    either : (c : Bool) → (c || N.is_listed (own k x) is) ≡ true → On → (c || N.is_listed (own k x) (without n k is)) ≡ true
    either true z on = refl
    either false z on = on z

    by : (b : Bool) → is_identifier n k i ≡ b → On → N.is_listed (own k x) (cond b is (i ∷ without n k is)) ≡ true
    by true g on = subst (λ (c : Bool). (c || N.is_listed (own k x) is) ≡ true) (not_both n x k i e g) f
    by false g on = either (is_identifier x k i) f on

all_without : (n : List ℕ) (k : W.Owner) (is : List W.Identifier) (ns : List (List ℕ)) → Apart n ns → AllIn k is ns → AllIn k (without n k is) ns
all_without n k is [] h i = tt
all_without n k is (x ∷ xs) h i = (without_keeps n x k is h.0 i.0, all_without n k is xs h.1 i.1)

no_more : (k : W.Owner) (ns : List (List ℕ)) (is : List W.Identifier) → Distinct ns → AllIn k is ns → length ns ≤ length is
no_more k [] is h i = omega arith
no_more k (n ∷ ns) is h i = omega (arith, no_more k ns (without n k is) h.1 (all_without n k is ns h.0 i.1), without_size n k is i.0)

-- ---- parameters that all have a name
found_listed : (n : List ℕ) (k : W.Owner) (a : ℕ) (is : List W.Identifier) (b : ℕ) → address_in n k a is ≡ W.address b → N.is_listed (own k n) is ≡ true
unfolding address_in N.is_listed
found_listed n k a [] b e = let z : ◌≡◌ {A = ℕ} 0 1 = cc in absurd (omega arith)
found_listed n k a (i ∷ is) b e = by (is_identifier n k i) e (λ f. found_listed n k (suc a) is b f)
  where
    by : (c : Bool) → when c (λ _. W.address a) (λ _. address_in n k (suc a) is) ≡ W.address b → (address_in n k (suc a) is ≡ W.address b → N.is_listed (own k n) is ≡ true) → (c || N.is_listed (own k n) is) ≡ true
    by true z on = refl
    by false z on = on z

record Found (k : W.Owner) (is : List W.Identifier) (ns : List (List ℕ)) (ps : List Ev.Parameter) : Type 0 where
  all : AllIn k is ns
  size : length ps ≡ length ns

fails_not : {A B : Type 0} (e : Val.Answer A) (f : A → Val.Answer B) (b : B) → Val.and_then e f ≡ Val.gives b → (a : A) × (e ≡ Val.gives a) × (f a ≡ Val.gives b)
fails_not (Val.gives a) f b h = (a, refl, h)
fails_not (Val.fails w) f b h = let z : ◌≡◌ {A = ℕ} 0 1 = cc in absurd (omega arith)

found_at : (n : List ℕ) (k : W.Owner) (w : World) (x : W.Address) (p : Ev.Parameter) → address_of n k w ≡ x → Ev.parameter_at x w ≡ Val.gives p → N.is_listed (own k n) w.identifiers ≡ true
found_at n k w (W.address a) p e h = found_listed n k 0 w.identifiers a e
found_at n k w W.unknown p e h = let z : ◌≡◌ {A = ℕ} 0 1 = cc in absurd (omega arith)

found_all : (k : W.Owner) (ns : List (List ℕ)) (w : World) (ps : List Ev.Parameter) → Ev.parameters k ns w ≡ Val.gives ps → Found k w.identifiers ns ps
unfolding Ev.parameters
found_all k [] w ps e = record { all = tt; size = ap (λ (x : Val.Answer (List Ev.Parameter)). size_of x) (sym e) }
  where
    size_of : Val.Answer (List Ev.Parameter) → ℕ
    size_of (Val.gives l) = length l
    size_of (Val.fails w) = 0
found_all k (n ∷ ns) w ps e =
    let a : (p : Ev.Parameter) × (Ev.parameter_at (address_of n k w) w ≡ Val.gives p) × (Val.and_then (Ev.parameters k ns w) (λ qs. Val.gives (p ∷ qs)) ≡ Val.gives ps) =
    fails_not (Ev.parameter_at (address_of n k w) w) (λ p. Val.and_then (Ev.parameters k ns w) λ qs. Val.gives (p ∷ qs)) ps e in
    let b : (qs : List Ev.Parameter) × (Ev.parameters k ns w ≡ Val.gives qs) × (Val.gives (a.0 ∷ qs) ≡ Val.gives ps) = fails_not (Ev.parameters k ns w) (λ qs. Val.gives (a.0 ∷ qs)) ps a.2 in
    let r : Found k w.identifiers ns b.0 = found_all k ns w b.0 b.1 in
    record { all = (found_at n k w (address_of n k w) a.0 refl a.1, r.all); size = gives_size a.0 b.0 ps b.2 ∙ ap suc r.size }
  where
    gives_size : (p : Ev.Parameter) (qs ps : List Ev.Parameter) → ◌≡◌ {A = Val.Answer (List Ev.Parameter)} (Val.gives (p ∷ qs)) (Val.gives ps) → length ps ≡ suc (length qs)
    gives_size p qs ps h = let z : ps ≡ p ∷ qs = cc in ap (λ (l : List Ev.Parameter). length l) z

-- THE PARAMETERS are at most as many as the names
pub few_called : (k : W.Owner) (ns : List (List ℕ)) (w : World) (ps : List Ev.Parameter) → Distinct ns → Ev.parameters k ns w ≡ Val.gives ps → length ps ≤ length w.identifiers
few_called k ns w ps h e = let r : Found k w.identifiers ns ps = found_all k ns w ps e in omega (arith, r.size, no_more k ns w.identifiers h r.all)
