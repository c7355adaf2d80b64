-- What a record of the table stands for in the definition, and the sixteen numbers that hold it.
use Rattle.names.specs.declared.Address.{Address}
use Rattle.std.specs.Prelude.{ℕ, zero, suc, ◌+◌, ◌*◌, Bool, cond, ◌&&◌, List, [], ◌∷◌, ◌++◌, eqb, get_or, Option, Some, None}
use Rattle.definition.specs.Bytes.{mixed, folded}
use Rattle.definition.specs.Lists.{part}
use Rattle.definition.specs.World as W
use Rattle.types.specs.Kept.{type_number, type_in}
use Rattle.names.specs.declared.Identifier.{Identifier}
use Rattle.names.specs.declared.Place.{Place}
use Rattle.names.specs.declared.Owner.{Owner}
use Rattle.names.specs.declared.Owner.TheVariants.{Everyone, Procedure}
use Rattle.names.specs.declared.Denotation.{Denotation}
use Rattle.names.specs.declared.Denotation.TheVariants.{Variable, EntryName, LabelName, Builtin}
use Rattle.names.specs.declared.Activity.{Activity}
use Rattle.names.specs.declared.Activity.TheVariants.{Inactive, Rescanned, CopiedOnly}
use Rattle.names.specs.declared.Name.{Name}

-- ---- in the definition's terms
abbrev pub owner_of : Owner → W.Owner
owner_of Everyone = W.everyone
owner_of (Procedure p) = W.procedure_at p.member p.row

abbrev pub body_of : Option Place → W.Body
body_of None = W.no_body
body_of (Some p) = W.body_at p.member p.row

abbrev pub denotation_of : Denotation → W.Denotation
denotation_of (Variable t) = W.variable_of t
denotation_of (EntryName e) = W.entry_of e.declared (body_of e.body)
denotation_of (LabelName l) = W.label_at l.place.member l.place.row l.is_end
denotation_of Builtin = W.builtin_name

abbrev pub activity_of : Activity → W.Activity
activity_of Inactive = W.inactive
activity_of Rescanned = W.rescanned
activity_of CopiedOnly = W.copied_only

-- an identifier as the bytes of the deck d spell it, folded
abbrev pub spelled : List ℕ → Identifier → List ℕ
spelled d i = folded mixed (part i.1 i.0 d)

abbrev pub identifier_of : List ℕ → Name → W.Identifier
identifier_of d x = record { spelling = spelled d x.identifier; owner = owner_of x.owner }

abbrev pub same_place : Place → Place → Bool
same_place p q = eqb p.member q.member && eqb p.row q.row

abbrev pub found_for : W.Address → Option Address
found_for (W.address a) = Some (record { 0 = a })
found_for W.unknown = None

-- ---- a record as eleven numbers: where it is spelled, its owner (3), its denotation (5), its activity
abbrev pub place_in : ℕ → ℕ → Place
place_in m r = record { member = m; row = r }

abbrev pub flag : Bool → ℕ
flag b = cond b 1 0

abbrev pub activity_number : Activity → ℕ
activity_number Inactive = 0
activity_number Rescanned = 1
activity_number CopiedOnly = 2

abbrev pub owner_tag : Owner → ℕ
owner_tag Everyone = 0
owner_tag (Procedure p) = 1

abbrev pub owner_place : Owner → Place
owner_place Everyone = place_in 0 0
owner_place (Procedure p) = p

abbrev pub owner_numbers : Owner → List ℕ
owner_numbers o = owner_tag o ∷ (owner_place o).member ∷ (owner_place o).row ∷ []

abbrev pub body_tag : Option Place → ℕ
body_tag None = 0
body_tag (Some p) = 1

abbrev pub body_place : Option Place → Place
body_place None = place_in 0 0
body_place (Some p) = p

abbrev pub body_numbers : Option Place → List ℕ
body_numbers b = body_tag b ∷ (body_place b).member ∷ (body_place b).row ∷ []

abbrev pub denotation_tag : Denotation → ℕ
denotation_tag (Variable t) = 0
denotation_tag (EntryName e) = 1
denotation_tag (LabelName l) = 2
denotation_tag Builtin = 3

abbrev pub denotation_flag : Denotation → ℕ
denotation_flag (Variable t) = type_number t
denotation_flag (EntryName e) = flag e.declared
denotation_flag (LabelName l) = flag l.is_end
denotation_flag Builtin = 0

-- the body of an entry; the place of a label stands where that of a body would
abbrev pub denotation_body : Denotation → Option Place
denotation_body (Variable t) = None
denotation_body (EntryName e) = e.body
denotation_body (LabelName l) = None
denotation_body Builtin = None

abbrev pub denotation_place : Denotation → Place
denotation_place (Variable t) = place_in 0 0
denotation_place (EntryName e) = body_place e.body
denotation_place (LabelName l) = l.place
denotation_place Builtin = place_in 0 0

abbrev pub denotation_numbers : Denotation → List ℕ
denotation_numbers d = denotation_tag d ∷ denotation_flag d ∷ body_tag (denotation_body d) ∷ (denotation_place d).member ∷ (denotation_place d).row ∷ []

abbrev pub numbers_of : Name → List ℕ
numbers_of x = x.identifier.0 ∷ x.identifier.1 ∷ (owner_numbers x.owner ++ (denotation_numbers x.denotation ++ (activity_number x.activity ∷ [])))

-- ---- and back
abbrev pub owner_in : ℕ → ℕ → ℕ → Owner
owner_in k m r = cond (eqb k 0) Everyone (Procedure (place_in m r))

abbrev pub body_in : ℕ → ℕ → ℕ → Option Place
body_in k m r = cond (eqb k 0) None (Some (place_in m r))

abbrev pub denotation_in : ℕ → ℕ → ℕ → ℕ → ℕ → Denotation
denotation_in k x b m r =
    cond (eqb k 0) (Variable (type_in x))
    (cond (eqb k 1) (EntryName (record { declared = eqb x 1; body = body_in b m r }))
    (cond (eqb k 2) (LabelName (record { place = place_in m r; is_end = eqb x 1 })) Builtin))

abbrev pub activity_in : ℕ → Activity
activity_in k = cond (eqb k 0) Inactive (cond (eqb k 1) Rescanned CopiedOnly)

-- a record takes sixteen numbers of the table t
unfoldable pub name_in : List ℕ → ℕ → Name
name_in t a = record {
  identifier = record { 0 = get_or t (16 * a + 0) 0; 1 = get_or t (16 * a + 1) 0 };
  owner = owner_in (get_or t (16 * a + 2) 0) (get_or t (16 * a + 3) 0) (get_or t (16 * a + 4) 0);
  denotation = denotation_in (get_or t (16 * a + 5) 0) (get_or t (16 * a + 6) 0) (get_or t (16 * a + 7) 0) (get_or t (16 * a + 8) 0) (get_or t (16 * a + 9) 0);
  activity = activity_in (get_or t (16 * a + 10) 0);
}

-- the identifiers of the definition's world
unfoldable pub identifiers_from : List ℕ → List ℕ → ℕ → ℕ → List W.Identifier
identifiers_from d t a zero = []
identifiers_from d t a (suc n) = identifier_of d (name_in t a) ∷ identifiers_from d t (suc a) n

abbrev pub or_else : W.Address → W.Address → W.Address
or_else (W.address a) other = W.address a
or_else W.unknown other = other

-- a name seen from a scope: the definition's `seenFrom`, over a table of n records
abbrev pub seen_in : List ℕ → List ℕ → ℕ → List ℕ → W.Owner → W.Address
seen_in d t n l k = or_else (W.address_in l k 0 (identifiers_from d t 0 n)) (W.address_in l W.everyone 0 (identifiers_from d t 0 n))
