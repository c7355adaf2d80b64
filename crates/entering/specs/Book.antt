-- The names that are declared so far, in the definition's terms, with the two places that decide which refusal comes first; and
-- how one declaration after the other changes them.
use Rattle.definition.specs.declared.Why.{Why}
use Rattle.std.specs.Prelude.{Option, Some, None, ℕ, zero, suc, ◌+◌, ◌-◌, ◌%◌, ◌≤◌, ◌<◌, Bool, true, false, cond, List, [], ◌∷◌, ◌++◌, ◌≡◌, leb, ltb, length, get_or, set, Result, Ok, Err}
use Rattle.definition.specs.Bytes.{mixed, folded}
use Rattle.definition.specs.Lists.{part}
use Rattle.definition.specs.Limits.{declared_names}
use Rattle.definition.specs.Program as P
use Rattle.definition.specs.World as W
use Rattle.definition.specs.Names as N
use Rattle.definition.specs.declared.Why.TheVariants.{OverLimit, DeclaredTwice}
use Rattle.names.specs.Table.{owner_of, denotation_of, activity_of, identifier_of, identifiers_from, name_in}
use Rattle.names.specs.declared.Identifier.{Identifier}
use Rattle.names.specs.declared.Name.{Name}
use Rattle.names.specs.declared.Activity.TheVariants.{Inactive}
use Rattle.names.specs.declared.Place.{Place}
use Rattle.names.specs.declared.Owner.{Owner}
use Rattle.names.specs.declared.Denotation.{Denotation}
use Rattle.names.specs.declared.Denotation.TheVariants.{Variable, EntryName, LabelName, Builtin}
use Rattle.entering.specs.declared.Meaning.{Meaning}
use Rattle.entering.specs.declared.Meaning.TheVariants as M
use Rattle.entering.specs.declared.Tally.{Tally}
use Rattle.entering.specs.declared.Spelling.{Spelling}

-- ---- what the answers stand for
abbrev pub meaning_of : Meaning → P.Meaning
meaning_of (M.Variable t) = P.variable t
meaning_of M.EntryOnly = P.entry
meaning_of (M.BodyAt r) = P.body r
meaning_of (M.LabelAt r) = P.label r
meaning_of (M.EndLabelAt r) = P.end_label r
meaning_of M.BuiltinName = P.builtin

abbrev pub joint_for : Option Denotation → N.Joint
joint_for (Some d) = N.joint (denotation_of d)
joint_for None = N.twice

abbrev pub fault_for : Result (Unit {0}) (Why × ℕ) → P.Fault
fault_for (Ok tt) = P.sound
fault_for (Err (w, p)) = P.faulty w p

-- an entry with its body and its declaration, if the one that was missing is new
abbrev pub joint_both : Bool → Place → N.Joint
joint_both b p = cond b (N.joint (W.entry_of true (W.body_at p.member p.row))) N.twice

-- ---- the marks: the first place stays
abbrev pub first_of : Option ℕ → ℕ → Option ℕ
first_of None p = Some p
first_of (Some q) p = Some q

abbrev pub mark_of : N.Past → Option ℕ
mark_of N.within = None
mark_of (N.past_at p) = Some p

abbrev pub past_of : Option ℕ → N.Past
past_of None = N.within
past_of (Some p) = N.past_at p

abbrev pub tally_past : Tally → ℕ → Tally
tally_past t p = record { member = t.member; base = t.base; names = t.names; past = first_of t.past p; second = t.second }

abbrev pub tally_second : Tally → ℕ → Tally
tally_second t p = record { member = t.member; base = t.base; names = t.names; past = t.past; second = first_of t.second p }

abbrev pub tally_of : ℕ → ℕ → ℕ → Option ℕ → Option ℕ → Tally
tally_of m b n p q = record { member = m; base = b; names = n; past = p; second = q }

-- what a name that had no meaning becomes
abbrev pub place_at : ℕ → ℕ → Place
place_at m r = record { member = m; row = r }

abbrev pub new_denotation : ℕ → Meaning → Denotation
new_denotation m (M.Variable t) = Variable t
new_denotation m M.EntryOnly = EntryName (record { declared = true; body = None })
new_denotation m (M.BodyAt r) = EntryName (record { declared = false; body = Some (place_at m r) })
new_denotation m (M.LabelAt r) = LabelName (record { place = place_at m r; is_end = false })
new_denotation m (M.EndLabelAt r) = LabelName (record { place = place_at m r; is_end = true })
new_denotation m M.BuiltinName = Builtin

-- ---- the names so far
pub record Book : Type 0 where
  pub identifiers : List W.Identifier
  pub denotations : List W.Denotation
  pub activities : List W.Activity
  pub past : Option ℕ
  pub second : Option ℕ

abbrev pub book_past : ℕ → Book → Book
book_past p b = record { identifiers = b.identifiers; denotations = b.denotations; activities = b.activities; past = first_of b.past p; second = b.second }

abbrev pub book_second : ℕ → Book → Book
book_second p b = record { identifiers = b.identifiers; denotations = b.denotations; activities = b.activities; past = b.past; second = first_of b.second p }

abbrev pub book_more : W.Identifier → W.Denotation → Book → Book
book_more i d b = record { identifiers = b.identifiers ++ i ∷ []; denotations = b.denotations ++ d ∷ []; activities = b.activities ++ W.inactive ∷ []; past = b.past; second = b.second }

abbrev pub book_set : ℕ → W.Denotation → Book → Book
book_set a d b = record { identifiers = b.identifiers; denotations = set b.denotations a d; activities = b.activities; past = b.past; second = b.second }

-- one declaration: of a name that is not known, and of one that is
unfoldable pub book_add : W.Identifier → W.Denotation → ℕ → Book → Book
book_add i d p b = cond (leb declared_names (length b.identifiers)) (book_past p b) (book_more i d b)

abbrev pub book_joint : N.Joint → ℕ → ℕ → Book → Book
book_joint (N.joint d) a p b = book_set a d b
book_joint N.twice a p b = book_second p b

unfoldable pub book_join : ℕ → W.Denotation → ℕ → Book → Book
book_join a d p b = book_joint (N.joint_of (get_or b.denotations a W.builtin_name) d) a p b

abbrev pub book_at : W.Address → W.Identifier → W.Denotation → ℕ → Book → Book
book_at W.unknown i d p b = book_add i d p b
book_at (W.address a) i d p b = book_join a d p b

unfoldable pub book_one : W.Identifier → W.Denotation → ℕ → Book → Book
book_one i d p b = book_at (W.address_in i.spelling i.owner 0 b.identifiers) i d p b

-- what a declaration of member m does; parameters are no names by themselves
abbrev pub book_new : N.New → W.Identifier → ℕ → Book → Book
book_new (N.new d) i p b = book_one i d p b
book_new N.listing i p b = b

unfoldable pub book_all : ℕ → List P.Declared → Book → Book
book_all m [] b = b
book_all m (d ∷ ds) b = book_all m ds (book_new (N.new_of m d.meaning) (N.identifier_of m d) d.place b)

-- the same with parameters, of which one that is listed twice is declared twice; `ps` are those that were listed so far
abbrev pub listed_one : N.New → W.Identifier → List W.Identifier → List W.Identifier
listed_one (N.new d) i ps = ps
listed_one N.listing i ps = i ∷ ps

abbrev pub book_listed : N.New → W.Identifier → List W.Identifier → ℕ → Book → Book
book_listed (N.new d) i ps p b = book_one i d p b
book_listed N.listing i ps p b = cond (N.is_listed i ps) (book_second p b) b

unfoldable pub book_whole : ℕ → List W.Identifier → List P.Declared → Book → Book
book_whole m ps [] b = b
book_whole m ps (d ∷ ds) b = book_whole m (listed_one (N.new_of m d.meaning) (N.identifier_of m d) ps) ds (book_listed (N.new_of m d.meaning) (N.identifier_of m d) ps d.place b)

-- ---- the room of names as such a book
unfoldable pub denotations_from : List ℕ → ℕ → ℕ → List W.Denotation
denotations_from t a zero = []
denotations_from t a (suc n) = denotation_of (name_in t a).denotation ∷ denotations_from t (suc a) n

unfoldable pub activities_from : List ℕ → ℕ → ℕ → List W.Activity
activities_from t a zero = []
activities_from t a (suc n) = activity_of (name_in t a).activity ∷ activities_from t (suc a) n

-- of the deck d, the room t and the tally x
unfoldable pub book_of : List ℕ → List ℕ → Tally → Book
book_of d t x = record { identifiers = identifiers_from d t 0 x.names; denotations = denotations_from t 0 x.names; activities = activities_from t 0 x.names; past = x.past; second = x.second }

-- ---- what a declaration needs: a room for 256 records, no more names than those, and a spelling that lies in the deck as it does
-- in the body s, which begins there at the tally's base
pub record Roomy (t : List ℕ) (x : Tally) : Type 0 where
  pub size : 4096 ≤ length t
  pub few : x.names ≤ 256

pub record Spelled (d s : List ℕ) (base : ℕ) (x : Spelling) : Type 0 where
  pub low : x.from < x.to
  pub short : x.to - x.from < 65536
  pub inside : base + x.to ≤ 65536
  pub same : part (x.to - x.from) (base + x.from) d ≡ part (x.to - x.from) x.from s

abbrev pub identifier_at : List ℕ → Spelling → Owner → W.Identifier
identifier_at s x o = record { spelling = folded mixed (part (x.to - x.from) x.from s); owner = owner_of o }

pub record Declarable (d s t : List ℕ) (x : Tally) (p : Spelling) : Type 0 where
  pub roomy : Roomy t x
  pub spelled : Spelled d s x.base p

-- where a name is spelled in the deck, and its record
abbrev pub identifier_in : ℕ → Spelling → Identifier
identifier_in base x = record { 0 = (base + x.from % 65536) % 65536; 1 = (x.to - x.from) % 65536 }

abbrev pub new_name : ℕ → Spelling → Owner → Denotation → Name
new_name base x o d = record { identifier = identifier_in base x; owner = o; denotation = d; activity = Inactive }

-- a name that was not known, of any deck
pub record Added (t : List ℕ) (x : Tally) (p : Spelling) (o : Owner) (e : Denotation) (u : List ℕ) (y : Tally) : Type 0 where
  pub book : (d : List ℕ) → book_of d u y ≡ book_add (identifier_of d (new_name x.base p o e)) (denotation_of e) p.from (book_of d t x)
  pub roomy : Roomy u y
  pub member : y.member ≡ x.member
  pub base : y.base ≡ x.base

-- and one that was
pub record Joining (t : List ℕ) (x : Tally) (a : ℕ) : Type 0 where
  pub roomy : Roomy t x
  pub known : a < x.names

pub record JoinedAt (t : List ℕ) (x : Tally) (a p : ℕ) (e : Denotation) (u : List ℕ) (y : Tally) : Type 0 where
  pub book : (d : List ℕ) → book_of d u y ≡ book_join a (denotation_of e) p (book_of d t x)
  pub roomy : Roomy u y
  pub member : y.member ≡ x.member
  pub base : y.base ≡ x.base

-- and what it does
pub record Entered (d t : List ℕ) (x : Tally) (f : Book → Book) (u : List ℕ) (y : Tally) : Type 0 where
  pub book : book_of d u y ≡ f (book_of d t x)
  pub roomy : Roomy u y
  pub member : y.member ≡ x.member
  pub base : y.base ≡ x.base

-- of any room and any spelling: what is done where all is in its place
pub record AddedIf (t : List ℕ) (x : Tally) (p : Spelling) (o : Owner) (e : Denotation) (u : List ℕ) (y : Tally) : Type 0 where
  pub is : Roomy t x → Added t x p o e u y

pub record JoinedIf (t : List ℕ) (x : Tally) (a p : ℕ) (e : Denotation) (u : List ℕ) (y : Tally) : Type 0 where
  pub is : Joining t x a → JoinedAt t x a p e u y

pub record EnteredIf (d s t : List ℕ) (x : Tally) (p : Spelling) (f : Book → Book) (u : List ℕ) (y : Tally) : Type 0 where
  pub is : Declarable d s t x p → Entered d t x f u y

-- ---- which refusal comes first: 3 and 4 by place, and then 5
abbrev pub twice_or : Option ℕ → Result (Unit {0}) (Why × ℕ) → Result (Unit {0}) (Why × ℕ)
twice_or None (Ok tt) = Ok tt
twice_or (Some p) (Ok tt) = Err (DeclaredTwice, p)
twice_or m (Err (w, q)) = Err (w, q)

abbrev pub sooner : Option ℕ → Result (Unit {0}) (Why × ℕ) → Result (Unit {0}) (Why × ℕ) → Result (Unit {0}) (Why × ℕ)
sooner None f other = other
sooner (Some p) (Ok tt) other = Err (OverLimit, p)
sooner (Some p) (Err (w, q)) other = cond (ltb p q) (Err (OverLimit, p)) (Err (w, q))

unfoldable pub fault_in : Option ℕ → Option ℕ → Result (Unit {0}) (Why × ℕ) → Result (Unit {0}) (Why × ℕ)
fault_in past second f = sooner past f (twice_or second f)
