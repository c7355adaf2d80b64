-- WHAT THE NAMES OF A WORLD LEAD TO: a body is the row of a procedure in a member that was entered; a label leads to a row of its member,
-- in a procedure to one of the procedure's. A member that is entered keeps it.
-- Assumes nothing.
use mathlib.Core.Path.{◌≡◌, refl, ap, subst}
use mathlib.Core.Bool.{Bool, true, false}
use mathlib.Core.List.{List, [], ◌∷◌, ◌++◌}
use Prim.Native.Nat.{ℕ, zero, suc, ◌+◌, ◌<◌, ◌≤◌}
use native.Mathlib.Omega.{arith}
use lib.ListN.{length, get_or, set}
use Rattle.definition.specs.Choice.{when}
use Rattle.definition.specs.Lists.{same}
use Rattle.definition.specs.Program as P
use Rattle.definition.specs.World as W
use Rattle.definition.specs.World.{World, Owner, Denotation, Identifier, row_of, is_identifier, same_owner, address_in}
use Rattle.definition.specs.Names as N
use Rattle.definition.proofs.Choices.{when_has}
use Rattle.showing.specs.Worlds.{IsProcedure, InOwner, BodyIn, Leads, AllLead, Wider, none, kept}
use Rattle.showing.proofs.Spellings.{both_right}
use Rattle.showing.proofs.Meanings.{MeansRow, AllMean}
use Rattle.showing.proofs.Distinct.{owner_is}

-- ---- the body that is known of an entry
abbrev pub EntryIn : (ℕ → List P.Row) → Denotation → Type 0
EntryIn R (W.variable_of t) = Unit {0}
EntryIn R (W.entry_of x b) = BodyIn R b
EntryIn R (W.label_at q r x) = Unit {0}
EntryIn R W.builtin_name = Unit {0}

module _ (R : ℕ → List P.Row) where
  entry_of_lem : (k : Owner) (d : Denotation) → Leads R k d → EntryIn R d
  entry_of_lem k (W.variable_of t) h = tt
  entry_of_lem k (W.entry_of x b) h = h
  entry_of_lem k (W.label_at q r x) h = tt
  entry_of_lem k W.builtin_name h = tt

  lead_append : (is : List Identifier) (ds : List Denotation) (i : Identifier) (d : Denotation) → AllLead R is ds → Leads R i.owner d → AllLead R (is ++ i ∷ []) (ds ++ d ∷ [])
  lead_append [] [] i d h l = (l, tt)
  lead_append [] (e ∷ ds) i d h l = absurd h
  lead_append (j ∷ is) [] i d h l = absurd h
  lead_append (j ∷ is) (e ∷ ds) i d h l = (h.0, lead_append is ds i d h.1 l)

  lead_set : (is : List Identifier) (ds : List Denotation) (a : ℕ) (d : Denotation) → AllLead R is ds → ((k : Owner) → Leads R k d) → AllLead R is (set ds a d)
  lead_set [] [] a d h l = tt
  lead_set [] (e ∷ ds) a d h l = absurd h
  lead_set (j ∷ is) [] a d h l = absurd h
  lead_set (j ∷ is) (e ∷ ds) zero d h l = (l j.owner, h.1)
  lead_set (j ∷ is) (e ∷ ds) (suc a) d h l = (h.0, lead_set is ds a d h.1 l)

  pub entry_at : (is : List Identifier) (ds : List Denotation) (a : ℕ) → AllLead R is ds → EntryIn R (get_or ds a W.builtin_name)
  entry_at [] [] a h = tt
  entry_at [] (e ∷ ds) a h = absurd h
  entry_at (j ∷ is) [] a h = absurd h
  entry_at (j ∷ is) (e ∷ ds) zero h = entry_of_lem j.owner e h.0
  entry_at (j ∷ is) (e ∷ ds) (suc a) h = entry_at is ds a h.1

  -- the address of a name has what the name leads to
  low_address : (l : List ℕ) (k : Owner) (n : ℕ) (is : List Identifier) (a : ℕ) → address_in l k n is ≡ W.address a → n ≤ a
  unfolding address_in
  low_address l k n [] a e = let z : ◌≡◌ {A = ℕ} 0 1 = cc in absurd (omega arith)
  low_address l k n (i ∷ is) a e = by (is_identifier l k i) e (λ f. low_address l k (suc n) is a f)
    where
      by : (c : Bool) → when c (λ _. W.address n) (λ _. address_in l k (suc n) is) ≡ W.address a → (address_in l k (suc n) is ≡ W.address a → suc n ≤ a) → n ≤ a
      by true f on = let z : n ≡ a = cc in omega (arith, z)
      by false f on = omega (arith, on f)

  pub lead_at : (l : List ℕ) (k : Owner) (n : ℕ) (is : List Identifier) (ds : List Denotation) (a j : ℕ) → AllLead R is ds → address_in l k n is ≡ W.address a → a ≡ n + j → Leads R k (get_or ds j W.builtin_name)
  unfolding address_in
  lead_at l k n [] ds a j h e f = let z : ◌≡◌ {A = ℕ} 0 1 = cc in absurd (omega arith)
  lead_at l k n (i ∷ is) [] a j h e f = absurd h
  lead_at l k n (i ∷ is) (d ∷ ds) a j h e f = by (is_identifier l k i) refl e j f (λ q g u. lead_at l k (suc n) is ds a q h.1 g u)
    where
      by : (c : Bool) → is_identifier l k i ≡ c → when c (λ _. W.address n) (λ _. address_in l k (suc n) is) ≡ W.address a → (q : ℕ) → a ≡ n + q
          → ((p : ℕ) → address_in l k (suc n) is ≡ W.address a → a ≡ suc n + p → Leads R k (get_or ds p W.builtin_name)) → Leads R k (get_or (d ∷ ds) q W.builtin_name)
      by true c g zero u on = subst (λ (o : Owner). Leads R o d) (owner_is i.owner k (both_right (same i.spelling l) (same_owner i.owner k) c)) h.0
      by true c g (suc q) u on = let z : n ≡ a = cc in absurd (omega (arith, z, u))
      by false c g zero u on = absurd (omega (arith, low_address l k (suc n) is a g, u))
      by false c g (suc q) u on = on q g (omega (arith, u))

-- ---- declaring the names of a member, whose rows are among R
abbrev NewLeads : (ℕ → List P.Row) → Owner → N.New → Type 0
NewLeads R k (N.new d) = Leads R k d
NewLeads R k N.listing = Unit {0}

abbrev JointLeads : (ℕ → List P.Row) → N.Joint → Type 0
JointLeads R (N.joint d) = (k : Owner) → Leads R k d
JointLeads R N.twice = Unit {0}

abbrev pub AllLed : (ℕ → List P.Row) → N.Declaring → Type 0
AllLed R (N.fine w) = AllLead R w.identifiers w.denotations
AllLed R (N.second p) = Unit {0}

label_scope : (R : ℕ → List P.Row) (m : ℕ) (k : P.Scope) (r : ℕ) → r < length (R m) → InOwner R (N.owner_of m k) m r
label_scope R m P.global r h = h
label_scope R m (P.inside q) r h = h

new_leads : (R : ℕ → List P.Row) (m : ℕ) (k : P.Scope) (x : P.Meaning) → MeansRow (R m) x → NewLeads R (N.owner_of m k) (N.new_of m x)
new_leads R m k (P.variable t) h = tt
new_leads R m k P.entry h = tt
new_leads R m k (P.body r) h = h
new_leads R m k (P.label r) h = label_scope R m k r h
new_leads R m k (P.end_label r) h = label_scope R m k r h
new_leads R m k P.builtin h = tt
new_leads R m k P.parameter h = tt

two_lead : (R : ℕ → List P.Row) (x : Bool) (a b : W.Body) → BodyIn R a → BodyIn R b → JointLeads R (N.entry_two x a b)
two_lead R true W.no_body (W.body_at m r) h i = λ k. i
two_lead R true W.no_body W.no_body h i = tt
two_lead R true (W.body_at m r) b h i = tt
two_lead R false W.no_body b h i = tt
two_lead R false (W.body_at m r) W.no_body h i = λ k. h
two_lead R false (W.body_at m r) (W.body_at n q) h i = tt

joint_leads : (R : ℕ → List P.Row) (a b : Denotation) → EntryIn R a → EntryIn R b → JointLeads R (N.joint_of a b)
joint_leads R (W.variable_of t) b h i = tt
joint_leads R (W.entry_of x c) (W.variable_of t) h i = tt
joint_leads R (W.entry_of x c) (W.entry_of y e) h i = two_lead R x c e h i
joint_leads R (W.entry_of x c) (W.label_at m r y) h i = tt
joint_leads R (W.entry_of x c) W.builtin_name h i = tt
joint_leads R (W.label_at m r x) b h i = tt
joint_leads R W.builtin_name b h i = tt

module _ (R : ℕ → List P.Row) where
  abbrev Led : World → Type 0
  Led w = AllLead R w.identifiers w.denotations

  joint_led : (a : ℕ) (i : Identifier) (d : Denotation) (p : ℕ) (w : World) (J : N.Joint) → N.joint_of (W.denotation a w) d ≡ J → JointLeads R J → Led w → AllLed R (N.declared_at (W.address a) i d p w)
  joint_led a i d p w (N.joint e) q j h = rw q (lead_set R w.identifiers w.denotations a e h j)
  joint_led a i d p w N.twice q j h = rw q tt

  declared_led : (x : W.Address) (i : Identifier) (d : Denotation) (p : ℕ) (w : World) → Leads R i.owner d → Led w → AllLed R (N.declared_at x i d p w)
  declared_led W.unknown i d p w l h = lead_append R w.identifiers w.denotations i d h l
  declared_led (W.address a) i d p w l h =
      joint_led a i d p w (N.joint_of (W.denotation a w) d) refl
      (joint_leads R (W.denotation a w) d (entry_at R w.identifiers w.denotations a h) (entry_of_lem R i.owner d l)) h

  onward_led : (x : N.Declaring) (f : World → N.Declaring) → AllLed R x → ((w : World) → Led w → AllLed R (f w)) → AllLed R (N.onward x f)
  onward_led (N.fine w) f h g = g w h
  onward_led (N.second p) f h g = tt

  one_led : (y : N.New) (i : Identifier) (ps : List Identifier) (p : ℕ) (w : World) (f : List Identifier → World → N.Declaring) → NewLeads R i.owner y → Led w
      → ((qs : List Identifier) (v : World) → Led v → AllLed R (f qs v)) → AllLed R (N.declare_one y i ps p w f)
  one_led (N.new d) i ps p w f l h g =
      let at : W.Address = address_in i.spelling i.owner 0 w.identifiers in
      onward_led (N.declared_at at i d p w) (f ps) (declared_led at i d p w l h) (g ps)
  one_led N.listing i ps p w f l h g = when_has (AllLed R) (N.is_listed i ps) (λ _. N.second p) (λ _. f (i ∷ ps) w) (λ _. tt) (λ _. g (i ∷ ps) w h)

  pub declare_led : (m : ℕ) (ps : List Identifier) (ds : List P.Declared) (w : World) → AllMean (R m) ds → Led w → AllLed R (N.declare_all m ps ds w)
  unfolding N.declare_all
  declare_led m ps [] w a h = h
  declare_led m ps (d ∷ ds) w a h =
      one_led (N.new_of m d.meaning) (N.identifier_of m d) ps d.place w (λ qs v. N.declare_all m qs ds v) (new_leads R m d.scope d.meaning a.0) h (λ qs v i. declare_led m qs ds v a.1 i)

-- ---- rows that are more: each member's are as they were, or there were none
low_wider : (rs qs : List P.Row) (r : ℕ) → Wider rs qs → r < length rs → r < length qs
low_wider rs qs r (none e) h = let z : length rs ≡ 0 = ap (λ (l : List P.Row). length l) e in absurd (omega (arith, z, h))
low_wider rs qs r (kept e) h = subst (λ (l : List P.Row). r < length l) e h

body_wider : (rs qs : List P.Row) (r : ℕ) → Wider rs qs → (r < length rs) × IsProcedure (row_of rs r).statement → (r < length qs) × IsProcedure (row_of qs r).statement
body_wider rs qs r (none e) h = let z : length rs ≡ 0 = ap (λ (l : List P.Row). length l) e in absurd (omega (arith, z, h.0))
body_wider rs qs r (kept e) h = subst (λ (l : List P.Row). (r < length l) × IsProcedure (row_of l r).statement) e h

module _ (R S : ℕ → List P.Row) (g : (m : ℕ) → Wider (R m) (S m)) where
  owner_wider : (k : Owner) (q r : ℕ) → InOwner R k q r → InOwner S k q r
  owner_wider W.everyone q r h = low_wider (R q) (S q) r (g q) h
  owner_wider (W.procedure_at m k) q r h = low_wider (R m) (S m) r (g m) h

  entry_wider : (b : W.Body) → BodyIn R b → BodyIn S b
  entry_wider W.no_body h = tt
  entry_wider (W.body_at m r) h = body_wider (R m) (S m) r (g m) h

  leads_wider : (k : Owner) (d : Denotation) → Leads R k d → Leads S k d
  leads_wider k (W.variable_of t) h = tt
  leads_wider k (W.entry_of x b) h = entry_wider b h
  leads_wider k (W.label_at q r x) h = owner_wider k q r h
  leads_wider k W.builtin_name h = tt

  pub all_wider : (is : List Identifier) (ds : List Denotation) → AllLead R is ds → AllLead S is ds
  all_wider [] [] h = tt
  all_wider [] (d ∷ ds) h = h
  all_wider (i ∷ is) [] h = h
  all_wider (i ∷ is) (d ∷ ds) h = (leads_wider i.owner d h.0, all_wider is ds h.1)
