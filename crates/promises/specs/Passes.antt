-- Demand 3, second part: "no name in" a copied stretch, "strings and comments apart, was active when the scan passed.
-- Every name in the program text, with the same exceptions, that was active when the scan passed is listed once for
-- each pass, also where its value was empty; only names inside a listed name's argument list go under that name." The
-- definition's worlds have a ghost, `passes`: what the scan of program text stood at when it put out a blank or passed
-- a token, with the names and their activities at that moment. Here stands what the passes say of the list, and of the
-- text.
use Rattle.std.specs.Prelude.{ℕ, ◌+◌, ◌-◌, ◌≤◌, ◌<◌, Bool, true, false, cond, List, [], ◌∷◌, ◌++◌, ◌≡◌, eqb, length, get_or}
use Rattle.definition.specs.Bytes.{mixed}
use Rattle.definition.specs.Choice.{when}
use Rattle.definition.specs.Limits.{include_levels}
use Rattle.definition.specs.Lists.{part}
use Rattle.definition.specs.Deck.{is_sound}
use Rattle.definition.specs.Tokens.{Piece, name, plain, unclosed, piece_at}
use Rattle.definition.specs.Program.{Stretch, Source}
use Rattle.definition.specs.Reading.{read_member}
use Rattle.definition.specs.Events.{Line, line}
use Rattle.definition.specs.World.{everyone, Identifier, no_body, body_at, Denotation, variable_of, entry_of, label_at, builtin_name, Entered, row_of, rows_in, Activity, inactive, rescanned, copied_only, Address, address, unknown, address_in, Sight, Pass, began, passed, Res, good, bad}
use Rattle.definition.specs.Evaluate.{listed_in}
use Rattle.definition.specs.Scan.{Argument, list_up_to, list_at}
use Rattle.definition.specs.Names.{Entering, entered, unreadable, enter}
use Rattle.definition.specs.Flow.{End}
use Rattle.definition.specs.Run.{Stop, body_of, run_member}
use Rattle.definition.specs.Expansion.{Expansion, main_world}

-- ---- THE PASSES of the run that `expansion` tells the result of, newest first
abbrev pub passes_of : Res Stop End → List Pass
passes_of (good x w) = w.passes
passes_of (bad s u) = []

abbrev pub main_passes : Entering → List ℕ → List Pass
main_passes (unreadable e p) d = []
main_passes (entered w) d = passes_of (run_member mixed include_levels d 0 [] w)

unfoldable pub passing : Bool → List ℕ → ℕ → ℕ → ℕ → List Pass
passing roomy d text_room list_room steps =
    when (is_sound mixed d)
    (λ _. when roomy
    (λ _. main_passes (enter 0 (read_member mixed (body_of d 0)) (main_world text_room list_room steps)) d)
    (λ _. []))
    (λ _. [])

-- ---- what was active: a name that stood for an address with an activity; strings, comments and other tokens never are
abbrev pub activity_at : Address → List Activity → Activity
activity_at unknown xs = inactive
activity_at (address a) xs = get_or xs a inactive

abbrev pub activity_of : Piece → List Identifier → List Activity → Activity
activity_of (name n) is xs = activity_at (address_in n everyone 0 is) xs
activity_of plain is xs = inactive
activity_of unclosed is xs = inactive

abbrev pub IsActive : Activity → Type 0
IsActive inactive = ⊥
IsActive rescanned = Unit {0}
IsActive copied_only = Unit {0}

-- the token was an active name when the scan passed
abbrev pub WasActive : Sight → Type 0
WasActive s = IsActive (activity_of s.piece s.identifiers s.activities)

-- how many arguments the name asked for: as many as the procedure of an entry lists parameters
abbrev pub asks_for : Denotation → List Entered → ℕ
asks_for (variable_of t) ms = 0
asks_for (entry_of e no_body) ms = 0
asks_for (entry_of e (body_at m r)) ms = length (listed_in (row_of (rows_in m ms) r).statement)
asks_for (label_at m r x) ms = 0
asks_for builtin_name ms = 0

abbrev pub asks_at : Address → List Denotation → List Entered → ℕ
asks_at unknown ds ms = 0
asks_at (address a) ds ms = asks_for (get_or ds a builtin_name) ms

abbrev pub asks_of : Piece → List Identifier → List Denotation → List Entered → ℕ
asks_of (name n) is ds ms = asks_at (address_in n everyone 0 is) ds ms
asks_of plain is ds ms = 0
asks_of unclosed is ds ms = 0

abbrev pub Asks : Sight → ℕ
Asks s = asks_of s.piece s.identifiers s.denotations s.members

-- ---- THE LIST AND THE TEXT TELL THE PASSES, all of them, once each and in order (lists newest first): a line of kind
-- 1 is one blank; a line of kind 3 is one pass of a name that was active, and its bytes are the outcome of that
-- replacement; a line of kind 2 is one or more passes, one behind the other, none of them of a name that was active
pub data Told : List Pass → List Line → List ℕ → Type 0 where
  nothing : Told [] [] []
  a_blank : {m : ℕ} {x : Stretch} {ps : List Pass} {ls : List Line} {t : List ℕ} → Told ps ls t
      → Told (began m x ∷ ps) (line 1 m x.from 1 ∷ ls) (t ++ 32 ∷ [])
  a_name : {s : Sight} {ps : List Pass} {ls : List Line} {t : List ℕ} → WasActive s → Told ps ls t
      → Told (passed s ∷ ps) (line 3 s.member s.place (length s.outcome) ∷ ls) (t ++ s.outcome)
  a_token : {s : Sight} {ps : List Pass} {ls : List Line} {t : List ℕ} → (WasActive s → ⊥)
      → s.place + length s.outcome ≡ s.to → Told ps ls t
      → Told (passed s ∷ ps) (line 2 s.member s.place (length s.outcome) ∷ ls) (t ++ s.outcome)
  another : {s : Sight} {l : Line} {ps : List Pass} {ls : List Line} {t : List ℕ} → (WasActive s → ⊥)
      → s.place + length s.outcome ≡ s.to → l.kind ≡ 2 → l.member ≡ s.member → l.offset + l.size ≡ s.place
      → Told ps (l ∷ ls) t
      → Told (passed s ∷ ps) (line l.kind l.member l.offset (l.size + length s.outcome) ∷ ls)
      (t ++ s.outcome)

-- ---- THE PASSES COVER THE TEXTS: each text that the run comes to is scanned from its start to its end, token by
-- token, and nothing is skipped but the argument list of a name that was active
abbrev pub text_in : List ℕ → ℕ → Stretch → List ℕ
text_in d m x = part (x.to - x.from) x.from (body_of d m)

-- where the scan of t goes on behind a token that ends at q: there, unless it is an active name that asks for
-- arguments; then behind its list of so many
pub data GoesOnAt (t : List ℕ) (q : ℕ) (s : Sight) : ℕ → Type 0 where
  at_once : (WasActive s → Asks s ≡ 0) → GoesOnAt t q s q
  behind_list : {r : ℕ} {xs : List Argument} → WasActive s → 0 < Asks s → length xs ≡ Asks s → list_at mixed t q ≡ list_up_to xs r
      → GoesOnAt t q s r

-- where the scan stands: in no text, or p bytes behind the start of the text x of member m
pub data At : Type 0 where
  outside : At
  inside : ℕ → Stretch → ℕ → At

-- the texts of a member as it is read: the one that it begins with, those behind its sentences, those that its groups
-- begin with
pub data TextOf (x : Source) : Stretch → Type 0 where
  first : TextOf x x.lead
  behind : (n : ℕ) → TextOf x (row_of x.rows n).text
  leading : (n : ℕ) → TextOf x (row_of x.rows n).lead

pub data Scans (d : List ℕ) : List Pass → At → Type 0 where
  none : Scans d [] outside
  begins : {m : ℕ} {x : Stretch} {ps : List Pass} → TextOf (read_member mixed (body_of d m)) x → Scans d ps outside
      → Scans d (began m x ∷ ps) (inside m x 0)
  goes_on : {s : Sight} {m p q : ℕ} {x : Stretch} {ps : List Pass} → Scans d ps (inside m x p)
      → p < length (text_in d m x) → s.member ≡ m → s.place ≡ x.from + p → s.piece ≡ (piece_at mixed (text_in d m x) p).piece
      → s.to ≡ x.from + q → GoesOnAt (text_in d m x) (piece_at mixed (text_in d m x) p).to s q
      → Scans d (passed s ∷ ps) (inside m x q)
  ends : {m p : ℕ} {x : Stretch} {ps : List Pass} → Scans d ps (inside m x p) → length (text_in d m x) ≤ p
      → Scans d ps outside

-- ---- in short: the places that the lines of kind 3 name, and those where the scan passed an active name
abbrev pub is_active : Activity → Bool
is_active inactive = false
is_active rescanned = true
is_active copied_only = true

abbrev pub active_places : List Pass → List (ℕ × ℕ)
active_places [] = []
active_places (began m x ∷ ps) = active_places ps
active_places (passed s ∷ ps) =
    cond (is_active (activity_of s.piece s.identifiers s.activities)) ((s.member, s.place) ∷ active_places ps)
    (active_places ps)

abbrev pub listed_places : List Line → List (ℕ × ℕ)
listed_places [] = []
listed_places (l ∷ ls) = cond (eqb l.kind 3) ((l.member, l.offset) ∷ listed_places ls) (listed_places ls)

-- THE SCAN IS HONEST
pub record Honest (d : List ℕ) (ps : List Pass) (x : Expansion) : Type 0 where
  pub told : Told ps x.lines x.text
  pub scans : Scans d ps outside
  pub listed : listed_places x.lines ≡ active_places ps
