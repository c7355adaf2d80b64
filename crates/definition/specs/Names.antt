-- 01, "Reading": "A name is declared once per scope, except that an ENTRY declaration and a procedure may share it.
-- Every INCLUDE declares the member's names anew." Table, 4: the sentences and names in those entered; 5: declared
-- twice. "3 and 4 by place, 3 first at one place, then 5 by place."
use Rattle.std.specs.Prelude.{ℕ, zero, suc, ◌+◌, ◌-◌, Bool, true, false, cond, ◌||◌, List, [], ◌∷◌, ◌++◌, leb, ltb, length, set}
use Rattle.definition.specs.Choice.{when}
use Rattle.definition.specs.Limits.{entered_sentences, declared_names}
use Rattle.definition.specs.Refusal.{Why, over_limit, declared_twice}
use Rattle.definition.specs.Program.{Scope, global, inside, Meaning, variable, entry, body, label, end_label, builtin, parameter, Declared, Fault, sound, faulty, Source}
use Rattle.definition.specs.World.{Owner, everyone, procedure_at, Body, no_body, body_at, Denotation, variable_of, entry_of, label_at, builtin_name, Identifier, is_identifier, Address, address, unknown, address_in, no_value, inactive, World, with_tables, with_members, denotation}

abbrev pub owner_of : ℕ → Scope → Owner
owner_of m global = everyone
owner_of m (inside r) = procedure_at m r

-- what a declaration in member m makes of a name that had no meaning
pub data New : Type 0 where
  new : Denotation → New
  listing : New

abbrev pub new_of : ℕ → Meaning → New
new_of m (variable t) = new (variable_of t)
new_of m entry = new (entry_of true no_body)
new_of m (body r) = new (entry_of false (body_at m r))
new_of m (label r) = new (label_at m r false)
new_of m (end_label r) = new (label_at m r true)
new_of m builtin = new builtin_name
new_of m parameter = listing

-- and of one that had a meaning: ENTRY and a procedure may share it
pub data Joint : Type 0 where
  joint : Denotation → Joint
  twice : Joint

-- an entry is declared or has a body, so that `false noBody` is not met
abbrev pub entry_two : Bool → Body → Body → Joint
entry_two true no_body (body_at m r) = joint (entry_of true (body_at m r))
entry_two true no_body no_body = twice
entry_two true (body_at m r) b = twice
entry_two false no_body b = twice
entry_two false (body_at m r) no_body = joint (entry_of true (body_at m r))
entry_two false (body_at m r) (body_at n q) = twice

abbrev pub joint_of : Denotation → Denotation → Joint
joint_of (variable_of t) d = twice
joint_of (entry_of e b) (variable_of t) = twice
joint_of (entry_of e b) (entry_of f c) = entry_two e b c
joint_of (entry_of e b) (label_at m r x) = twice
joint_of (entry_of e b) builtin_name = twice
joint_of (label_at m r x) d = twice
joint_of builtin_name d = twice

-- ---- declaring the names of member m one after the other
pub data Declaring : Type 0 where
  fine : World → Declaring
  second : ℕ → Declaring

abbrev pub add_name : Identifier → Denotation → World → World
add_name i d w =
    with_tables (w.identifiers ++ i ∷ []) (w.denotations ++ d ∷ []) (w.values ++ no_value ∷ [])
    (w.activities ++ inactive ∷ []) w

abbrev pub set_denotation : ℕ → Denotation → World → World
set_denotation a d w = with_tables w.identifiers (set w.denotations a d) w.values w.activities w

abbrev pub declared_at : Address → Identifier → Denotation → ℕ → World → Declaring
declared_at unknown i d p w = fine (add_name i d w)
declared_at (address a) i d p w = joint_at (joint_of (denotation a w) d)
  where
    joint_at : Joint → Declaring
    joint_at (joint e) = fine (set_denotation a e w)
    joint_at twice = second p

unfoldable pub is_listed : Identifier → List Identifier → Bool
is_listed i [] = false
is_listed i (j ∷ js) = is_identifier i.spelling i.owner j || is_listed i js

abbrev pub identifier_of : ℕ → Declared → Identifier
identifier_of m d = record { spelling = d.spelling; owner = owner_of m d.scope }

-- `ps` are the parameters that were listed so far
abbrev pub onward : Declaring → (World → Declaring) → Declaring
onward (fine w) f = f w
onward (second p) f = second p

abbrev pub declare_one : New → Identifier → List Identifier → ℕ → World → (List Identifier → World → Declaring)
    → Declaring
declare_one (new d) i ps p w f =
    onward (declared_at (address_in i.spelling i.owner 0 w.identifiers) i d p w) (f ps)
declare_one listing i ps p w f = when (is_listed i ps) (λ _. second p) (λ _. f (i ∷ ps) w)

unfoldable pub declare_all : ℕ → List Identifier → List Declared → World → Declaring
declare_all m ps [] w = fine w
declare_all m ps (d ∷ ds) w =
    declare_one (new_of m d.meaning) (identifier_of m d) ps d.place w (λ qs v. declare_all m qs ds v)

-- ---- the limits, by place
pub data Past : Type 0 where
  within : Past
  past_at : ℕ → Past

abbrev pub is_parameter : Meaning → Bool
is_parameter (variable t) = false
is_parameter entry = false
is_parameter (body r) = false
is_parameter (label r) = false
is_parameter (end_label r) = false
is_parameter builtin = false
is_parameter parameter = true

-- the first of the names that is one too many; a name counts once in its scope, a parameter by its declaration alone
unfoldable pub names_past : ℕ → List Identifier → List Declared → Past
names_past m is [] = within
names_past m is (d ∷ ds) =
    when (is_parameter d.meaning || is_listed (identifier_of m d) is) (λ _. names_past m is ds)
    (λ _. when (leb declared_names (length is)) (λ _. past_at d.place) (λ _. names_past m (identifier_of m d ∷ is) ds))

-- the first of the sentences that is one too many, where `n` more may be entered
unfoldable pub sentences_past : ℕ → List ℕ → Past
sentences_past n [] = within
sentences_past zero (p ∷ ps) = past_at p
sentences_past (suc n) (p ∷ ps) = sentences_past n ps

-- a fault of the reading, and a limit passed at p: the one that comes first
abbrev pub sooner : Past → Fault → Fault
sooner within f = f
sooner (past_at p) sound = faulty over_limit p
sooner (past_at p) (faulty e q) = cond (ltb p q) (faulty over_limit p) (faulty e q)

unfoldable pub fault_of : ℕ → Source → World → Fault
fault_of m s w =
    sooner (names_past m w.identifiers s.declared)
    (sooner (sentences_past (entered_sentences - w.sentences) s.begun) s.fault)

-- ---- entering member m
pub data Entering : Type 0 where
  entered : World → Entering
  unreadable : Why → ℕ → Entering

abbrev pub with_member : ℕ → Source → World → World
with_member m s w = with_members (record { member = m; source = s } ∷ w.members) (w.sentences + length s.begun) w

abbrev pub entered_as : Fault → ℕ → Source → World → Entering
entered_as (faulty e p) m s w = unreadable e p
entered_as sound m s w = declared_as (declare_all m [] s.declared w)
  where
    declared_as : Declaring → Entering
    declared_as (fine v) = entered (with_member m s v)
    declared_as (second p) = unreadable declared_twice p

unfoldable pub enter : ℕ → Source → World → Entering
enter m s w = entered_as (fault_of m s w) m s w
