-- NAMES THAT ARE DECLARED HAVE NO VALUE, and those that there were keep theirs: a variable stays one, and nothing else becomes one.
-- Assumes nothing.
use mathlib.Core.Path.{◌≡◌, refl, sym, ap, subst, ◌∙◌}
use mathlib.Core.Bool.{Bool, true, false}
use mathlib.Core.List.{List, [], ◌∷◌, ◌++◌}
use Prim.Native.Nat.{ℕ, suc, ◌+◌, ◌-◌, ◌<◌, ◌≤◌}
use native.Mathlib.Nat.{add-zero}
use native.Mathlib.Omega.{arith}
use borrow.Author.Tests.{eqb-true, eqb-false, ltb-true, ltb-false}
use lib.Dec.{eqb, ltb}
use lib.ListN.{length, get_or, set, replicate, length-append, length-set, length-replicate, replicate-append-replicate, get_or-replicate, get_or-append, get_or-eq_default}
use lib.Seq.{get_or-set_same, get_or-set_other}
use Rattle.definition.specs.Room.{over, zeros}
use Rattle.definition.specs.Fixed.{ranged, in_range}
use Rattle.definition.specs.Program as P
use Rattle.definition.specs.World as W
use Rattle.definition.specs.World.{World, Denotation, Identifier, variable_of, entry_of, label_at, builtin_name, address_in}
use Rattle.definition.specs.Names as N
use Rattle.definition.specs.declared.ValueType.{ValueType}
use Rattle.definition.specs.declared.ValueType.TheVariants.{FixedType, CharacterType}
use Rattle.definition.proofs.Choices.{when_has}
use Rattle.definition.proofs.Rooms.{length_over, over_nil, over_next_at, get_d_over_at, get_d_over_low}
use Rattle.fixed.specs.Signed.{from_stored}
use Rattle.store.specs.Cells.{cell_in, fixed_cell, character_cell, slot, half}
use Rattle.callees.specs.Shown.{cell_as, values_from, Slots}

-- ---- the type of a variable, if it is one
abbrev types_of : Denotation → List ValueType
types_of (variable_of t) = t ∷ []
types_of (entry_of x b) = []
types_of (label_at m r x) = []
types_of builtin_name = []

type_back : (d : Denotation) (t : ValueType) → types_of d ≡ t ∷ [] → d ≡ variable_of t
type_back (variable_of u) t e = let z : u ≡ t = cc in ap variable_of z
type_back (entry_of x b) t e = let z : ◌≡◌ {A = ℕ} 0 1 = ap (λ (l : List ValueType). length l) e in absurd (omega arith)
type_back (label_at m r x) t e = let z : ◌≡◌ {A = ℕ} 0 1 = ap (λ (l : List ValueType). length l) e in absurd (omega arith)
type_back builtin_name t e = let z : ◌≡◌ {A = ℕ} 0 1 = ap (λ (l : List ValueType). length l) e in absurd (omega arith)

-- ---- one declaration after the other
pub record Held (ds es : List Denotation) : Type 0 where
  pub more : length ds ≤ length es
  pub types : (a : ℕ) → a < length ds → types_of (get_or es a builtin_name) ≡ types_of (get_or ds a builtin_name)

held_self : (ds : List Denotation) → Held ds ds
held_self ds = record { more = omega arith; types = λ a l. refl }

held_then : (ds es fs : List Denotation) → Held ds es → Held es fs → Held ds fs
held_then ds es fs h i = record { more = omega (arith, h.more, i.more); types = λ a l. i.types a (omega (arith, l, h.more)) ∙ h.types a l }

held_add : (ds : List Denotation) (d : Denotation) → Held ds (ds ++ d ∷ [])
held_add ds d = record { more = omega (arith, length-append ds (d ∷ [])); types = λ a l. ap types_of (get_or-append ds (d ∷ []) builtin_name a l) }

held_set : (ds : List Denotation) (a : ℕ) (d : Denotation) → types_of d ≡ types_of (get_or ds a builtin_name) → Held ds (set ds a d)
held_set ds a d e = record { more = omega (arith, length-set ds a d); types = λ j l. by j l (eqb j a) refl }
  where
    by : (j : ℕ) → j < length ds → (c : Bool) → eqb j a ≡ c → types_of (get_or (set ds a d) j builtin_name) ≡ types_of (get_or ds j builtin_name)
    by j l true q =
        subst (λ (k : ℕ). k < length ds → types_of (get_or (set ds a d) k builtin_name) ≡ types_of (get_or ds k builtin_name)) (sym (eqb-true j a q))
        (λ m. ap types_of (get_or-set_same ds a d builtin_name m) ∙ e) l
    by j l false q = ap types_of (get_or-set_other ds a j d builtin_name (eqb-false j a q))

-- what joins is an entry
two_types : (v : Bool) (b c : W.Body) (e : Denotation) → N.entry_two v b c ≡ N.joint e → types_of e ≡ []
two_types true W.no_body (W.body_at m r) e q = let z : entry_of true (W.body_at m r) ≡ e = cc in ap types_of (sym z)
two_types true W.no_body W.no_body e q = let z : ◌≡◌ {A = ℕ} 0 1 = cc in absurd (omega arith)
two_types true (W.body_at m r) c e q = let z : ◌≡◌ {A = ℕ} 0 1 = cc in absurd (omega arith)
two_types false W.no_body c e q = let z : ◌≡◌ {A = ℕ} 0 1 = cc in absurd (omega arith)
two_types false (W.body_at m r) W.no_body e q = let z : entry_of true (W.body_at m r) ≡ e = cc in ap types_of (sym z)
two_types false (W.body_at m r) (W.body_at n k) e q = let z : ◌≡◌ {A = ℕ} 0 1 = cc in absurd (omega arith)

joint_types : (x d e : Denotation) → N.joint_of x d ≡ N.joint e → types_of e ≡ types_of x
joint_types (variable_of t) d e q = let z : ◌≡◌ {A = ℕ} 0 1 = cc in absurd (omega arith)
joint_types (entry_of x b) (variable_of t) e q = let z : ◌≡◌ {A = ℕ} 0 1 = cc in absurd (omega arith)
joint_types (entry_of x b) (entry_of y c) e q = two_types x b c e q
joint_types (entry_of x b) (label_at m r y) e q = let z : ◌≡◌ {A = ℕ} 0 1 = cc in absurd (omega arith)
joint_types (entry_of x b) builtin_name e q = let z : ◌≡◌ {A = ℕ} 0 1 = cc in absurd (omega arith)
joint_types (label_at m r x) d e q = let z : ◌≡◌ {A = ℕ} 0 1 = cc in absurd (omega arith)
joint_types builtin_name d e q = let z : ◌≡◌ {A = ℕ} 0 1 = cc in absurd (omega arith)

abbrev AllHeld : List Denotation → N.Declaring → Type 0
AllHeld ds (N.fine v) = Held ds v.denotations
AllHeld ds (N.second p) = Unit {0}

joint_held : (a : ℕ) (i : Identifier) (d : Denotation) (p : ℕ) (w : World) (J : N.Joint) → N.joint_of (W.denotation a w) d ≡ J → AllHeld w.denotations (N.declared_at (W.address a) i d p w)
joint_held a i d p w (N.joint e) q = rw q (held_set w.denotations a e (joint_types (W.denotation a w) d e q))
joint_held a i d p w N.twice q = rw q tt

declared_held : (x : W.Address) (i : Identifier) (d : Denotation) (p : ℕ) (w : World) → AllHeld w.denotations (N.declared_at x i d p w)
declared_held W.unknown i d p w = held_add w.denotations d
declared_held (W.address a) i d p w = joint_held a i d p w (N.joint_of (W.denotation a w) d) refl

all_then : (ds es : List Denotation) (x : N.Declaring) → Held ds es → AllHeld es x → AllHeld ds x
all_then ds es (N.fine v) h i = held_then ds es v.denotations h i
all_then ds es (N.second p) h i = tt

onward_held : (ds : List Denotation) (x : N.Declaring) (f : World → N.Declaring) → AllHeld ds x → ((u : World) → AllHeld u.denotations (f u)) → AllHeld ds (N.onward x f)
onward_held ds (N.fine u) f h g = all_then ds u.denotations (f u) h (g u)
onward_held ds (N.second p) f h g = tt

one_held : (y : N.New) (i : Identifier) (ps : List Identifier) (p : ℕ) (w : World) (f : List Identifier → World → N.Declaring) → ((qs : List Identifier) (u : World) → AllHeld u.denotations (f qs u))
    → AllHeld w.denotations (N.declare_one y i ps p w f)
one_held (N.new d) i ps p w f g =
    let at : W.Address = address_in i.spelling i.owner 0 w.identifiers in
    onward_held w.denotations (N.declared_at at i d p w) (f ps) (declared_held at i d p w) (g ps)
one_held N.listing i ps p w f g = when_has (AllHeld w.denotations) (N.is_listed i ps) (λ _. N.second p) (λ _. f (i ∷ ps) w) (λ _. tt) (λ _. g (i ∷ ps) w)

all_held : (m : ℕ) (ps : List Identifier) (ds : List P.Declared) (w : World) → AllHeld w.denotations (N.declare_all m ps ds w)
unfolding N.declare_all
all_held m ps [] w = held_self w.denotations
all_held m ps (d ∷ ds) w = one_held (N.new_of m d.meaning) (N.identifier_of m d) ps d.place w (λ qs u. N.declare_all m qs ds u) (λ qs u. all_held m qs ds u)

pub declare_held : (m : ℕ) (ds : List P.Declared) (w v : World) → N.declare_all m [] ds w ≡ N.fine v → Held w.denotations v.denotations
declare_held m ds w v e = subst (AllHeld w.denotations) e (all_held m [] ds w)

-- ---- the value of an address is that of its cell, where its name is a variable
cell_for : List ValueType → ℕ → List ℕ → List ℕ → List ℕ → W.Cell
cell_for [] a c l h = W.no_value
cell_for (t ∷ ts) a c l h = cell_in c l h t a

cell_for_lem : (d : Denotation) (a : ℕ) (c l h : List ℕ) → cell_as d a c l h ≡ cell_for (types_of d) a c l h
unfolding cell_for
cell_for_lem (variable_of t) a c l h = refl
cell_for_lem (entry_of x b) a c l h = refl
cell_for_lem (label_at m r x) a c l h = refl
cell_for_lem builtin_name a c l h = refl

cell_same : (ts : List ValueType) (a : ℕ) (c c' l h : List ℕ) → get_or c' a 0 ≡ get_or c a 0 → cell_for ts a c' l h ≡ cell_for ts a c l h
unfolding cell_for cell_in
cell_same [] a c c' l h e = refl
cell_same (FixedType ∷ ts) a c c' l h e = ap (λ (n : ℕ). fixed_cell (from_stored n)) e
cell_same (CharacterType ∷ ts) a c c' l h e = ap (λ (n : ℕ). character_cell n (slot a) (half a l h)) e

-- 0 is no value
cell_none : (d : Denotation) (a : ℕ) (c l h : List ℕ) → get_or c a 0 ≡ 0 → cell_as d a c l h ≡ W.no_value
unfolding cell_in from_stored ranged in_range
cell_none (variable_of FixedType) a c l h e = ap (λ (n : ℕ). fixed_cell (from_stored n)) e
cell_none (variable_of CharacterType) a c l h e = ap (λ (n : ℕ). character_cell n (slot a) (half a l h)) e
cell_none (entry_of x b) a c l h e = refl
cell_none (label_at m r x) a c l h e = refl
cell_none builtin_name a c l h e = refl

-- ---- ALL VALUES: those that there were, and none for each new name
values_new : (es : List Denotation) (b : ℕ) (c l h : List ℕ) → ((i : ℕ) → i < length es → get_or c (b + i) 0 ≡ 0) → values_from es b c l h ≡ replicate (length es) W.no_value
unfolding values_from
values_new [] b c l h z = refl
values_new (e ∷ es) b c l h z =
    let here : get_or c b 0 ≡ 0 = rw add-zero at (z 0 (omega arith)) in
    let rest : values_from es (suc b) c l h ≡ replicate (length es) W.no_value = values_new es (suc b) c l h (λ i k. let q : suc b + i ≡ b + suc i = omega arith in rw q (z (suc i) (omega (arith, k)))) in
    rw (cell_none e b c l h here, rest)

pub values_grown : (ds es : List Denotation) (b more : ℕ) (c c' l h : List ℕ) → length es ≡ length ds + more → ((i : ℕ) → i < length ds → types_of (get_or es i builtin_name) ≡ types_of (get_or ds i builtin_name))
    → ((i : ℕ) → i < length ds → get_or c' (b + i) 0 ≡ get_or c (b + i) 0) → ((i : ℕ) → length ds ≤ i → i < length es → get_or c' (b + i) 0 ≡ 0)
    → values_from es b c' l h ≡ values_from ds b c l h ++ replicate more W.no_value
unfolding values_from
values_grown [] es b more c c' l h n t s z =
    let m : length es ≡ more = omega (arith, n) in
    values_new es b c' l h (λ i k. z i (omega arith) k) ∙ ap (λ (k : ℕ). replicate k W.no_value) m
values_grown (d ∷ ds) [] b more c c' l h n t s z = absurd (omega (arith, n))
values_grown (d ∷ ds) (e ∷ es) b more c c' l h n t s z =
    let here : cell_as e b c' l h ≡ cell_as d b c l h =
    cell_for_lem e b c' l h ∙ ap (λ (ts : List ValueType). cell_for ts b c' l h) (t 0 (omega arith)) ∙ cell_same (types_of d) b c c' l h (rw add-zero at (s 0 (omega arith))) ∙ sym (cell_for_lem d b c l h) in
    let rest : values_from es (suc b) c' l h ≡ values_from ds (suc b) c l h ++ replicate more W.no_value =
    values_grown ds es (suc b) more c c' l h (omega (arith, n)) (λ i k. t (suc i) (omega (arith, k)))
    (λ i k. let q : suc b + i ≡ b + suc i = omega arith in rw q (s (suc i) (omega (arith, k))))
    (λ i j k. let q : suc b + i ≡ b + suc i = omega arith in rw q (z (suc i) (omega (arith, j)) (omega (arith, k)))) in
    rw (here, rest)

-- ---- THE CELLS of the new names are 0
abbrev pub forgotten : List ℕ → ℕ → ℕ → List ℕ
forgotten c from to = over c from (zeros (to - from))

module _ (c : List ℕ) (from to : ℕ) where
  -- before turn a of the loop
  pub record Forgetting (c' : List ℕ) (a : ℕ) : Type 0 where
    pub low : from ≤ a
    pub turns : a - from ≤ to - from
    pub is : c' ≡ over c from (zeros (a - from))

  pub forget_start : Forgetting c from
  forget_start =
      let z : from - from ≡ 0 = omega arith in
      record { low = omega arith; turns = omega arith; is = sym (ap (λ (n : ℕ). over c from (zeros n)) z ∙ over_nil c from) }

  pub forget_more : (c₁ c₂ : List ℕ) (a k : ℕ) → Forgetting c₁ a → a < to → k ≡ a → c₂ ≡ over c₁ (0 + k) (0 ∷ []) → Forgetting c₂ (a + 1)
  forget_more c₁ c₂ a k h l ek e =
      let at : 0 + a ≡ from + length (zeros (a - from)) = omega (arith, h.low, length-replicate {A = ℕ} (a - from) 0) in
      let n : a - from + 1 ≡ a + 1 - from = omega (arith, h.low) in
      record {
        low = omega (arith, h.low);
        turns = omega (arith, h.low, l);
        is = e ∙ ap (λ (i : ℕ). over c₁ (0 + i) (0 ∷ [])) ek ∙ ap (λ (x : List ℕ). over x (0 + a) (0 ∷ [])) h.is ∙ over_next_at c from (0 + a) (zeros (a - from)) (0 ∷ []) at ∙ ap (λ (x : List ℕ). over c from x) (zeros_more (a - from) (a + 1 - from) n);
      }
    where
      zeros_more : (i j : ℕ) → i + 1 ≡ j → zeros i ++ 0 ∷ [] ≡ zeros j
      zeros_more i j q = replicate_more i ∙ ap (λ (k : ℕ). zeros k) q
        where
          replicate_more : (k : ℕ) → zeros k ++ 0 ∷ [] ≡ zeros (k + 1)
          replicate_more k = replicate-append-replicate k 1 0

  pub forget_done : (c₁ : List ℕ) (a : ℕ) → Forgetting c₁ a → to ≤ a → c₁ ≡ forgotten c from to
  forget_done c₁ a h l = let n : a - from ≡ to - from = omega (arith, h.turns, l) in h.is ∙ ap (λ (k : ℕ). over c from (zeros k)) n

  -- what the cells are then
  pub forgotten_low : (i : ℕ) → i < from → get_or (forgotten c from to) i 0 ≡ get_or c i 0
  forgotten_low i l = get_d_over_low c from i (zeros (to - from)) l

  pub forgotten_none : (i : ℕ) → from ≤ i → i < to → to ≤ length c → get_or (forgotten c from to) i 0 ≡ 0
  forgotten_none i j k m =
      let n : length (zeros (to - from)) ≡ to - from = length-replicate {A = ℕ} (to - from) 0 in
      let q : from + (i - from) ≡ i = omega (arith, j) in
      subst (λ (x : ℕ). get_or (forgotten c from to) x 0 ≡ 0) q
      (get_d_over_at c from (i - from) (zeros (to - from)) (omega (arith, n, j, k)) (omega (arith, k, m, j)) ∙ get_or-replicate (to - from) (i - from) 0 0 (omega (arith, j, k)))

-- ---- TOGETHER, where the names es are those of ds and more
module _ (ds es : List Denotation) (c l h : List ℕ) (k : Held ds es) (room : length es ≤ length c) where
  pub values_forgotten : (more : ℕ) → length es ≡ length ds + more → values_from es 0 (forgotten c (length ds) (length es)) l h ≡ values_from ds 0 c l h ++ replicate more W.no_value
  values_forgotten more e =
      values_grown ds es 0 more c (forgotten c (length ds) (length es)) l h e k.types
      (λ i j. let q : 0 + i ≡ i = omega arith in rw q (forgotten_low c (length ds) (length es) i j))
      (λ i j n. let q : 0 + i ≡ i = omega arith in rw q (forgotten_none c (length ds) (length es) i j n room))

  pub slots_forgotten : length es ≤ 256 → Slots ds c l h → Slots es (forgotten c (length ds) (length es)) l h
  slots_forgotten few s = record {
    few = few;
    cells = omega (arith, room, length_over c (length ds) (zeros (length es - length ds)));
    low = s.low;
    high = s.high;
    short = λ j q. by j q (ltb j (length ds)) refl (ltb j (length es)) refl;
  }
    where
      by : (j : ℕ) → get_or es j builtin_name ≡ variable_of CharacterType → (a : Bool) → ltb j (length ds) ≡ a → (b : Bool) → ltb j (length es) ≡ b → get_or (forgotten c (length ds) (length es)) j 0 ≤ 513
      by j q true e b f =
          let low : j < length ds = ltb-true j (length ds) e in
          let was : get_or ds j builtin_name ≡ variable_of CharacterType = type_back (get_or ds j builtin_name) CharacterType (sym (k.types j low) ∙ ap types_of q) in
          omega (arith, forgotten_low c (length ds) (length es) j low, s.short j was)
      by j q false e true f = omega (arith, forgotten_none c (length ds) (length es) j (ltb-false j (length ds) e) (ltb-true j (length es) f) room)
      by j q false e false f =
          let none : builtin_name ≡ variable_of CharacterType = sym (get_or-eq_default es builtin_name {n = j} (ltb-false j (length es) f)) ∙ q in
          let z : ◌≡◌ {A = ℕ} 0 1 = cc in
          absurd (omega arith)
