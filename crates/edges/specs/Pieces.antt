-- A token that is copied from cards, in pieces: the text and the lines as given that both rooms then show.
use Rattle.std.specs.Prelude.{ℕ, zero, suc, ◌+◌, ◌-◌, ◌%◌, ◌<◌, ◌≤◌, ◌≡◌, Bool, true, false, cond, ◌&&◌, not, List, ◌∷◌, ◌++◌, leb, length, Option, Some, None}
use Rattle.definition.specs.Lists.{part}
use Rattle.definition.specs.Events.{Event, joins, text_of, Line, line, longer, lines_of}
use Rattle.definition.specs.Cards.{is_first, column, goes_over, pieces}
use Rattle.output.specs.declared.Out.{Out}
use Rattle.output.specs.Shows.{Fine, Shows}

-- the bytes from p up to an end that lie in the record of byte p
pub record PieceIs (p to n : ℕ) : Type 0 where
  pub some : p < to → 1 ≤ n
  pub within : p < to → p + n ≤ to
  pub record_end : p % 71 + n ≤ 71
  pub most : p < to → (p + n ≡ to → ⊥) → p % 71 + n ≡ 71

-- n bytes from the joined place p of member m on, behind lines as given; `on` says whether the first goes on with the newest
abbrev pub onto : Bool → ℕ → ℕ → ℕ → List Line → List Line
onto on m p zero ls = ls
onto on m p (suc n) ls = goes_over m (suc p) n (cond (on && not (is_first p)) (longer 1 ls) (line 2 m (column p) 1 ∷ ls))

-- ---- all bytes went out, and the rooms show them behind the events es; they may take so much less
pub record Copied (on : Bool) (m p : ℕ) (bs : List ℕ) (es : List Event) (o x : Out) (t l : List ℕ) : Type 0 where
  pub events : List Event
  pub shows : Shows events x t l
  pub fine : Fine x (length t) (length l)
  pub text : text_of events ≡ text_of es ++ bs
  pub lines : lines_of events ≡ onto on m p (length bs) (lines_of es)
  pub room : x.room ≡ o.room - length bs
  pub free : x.free ≡ o.free - pieces on p bs

abbrev pub Answers : Bool → Bool → ℕ → ℕ → List ℕ → List Event → Out → Option Out → List ℕ → List ℕ → Type 0
Answers true on m p bs es o r t l = (x : Out) × (r ≡ Some x) × Copied on m p bs es o x t l
Answers false on m p bs es o r t l = r ≡ None

-- both rooms hold the bytes and their lines: the test of the definition's `putOut`
abbrev pub fits : Bool → ℕ → List ℕ → Out → Bool
fits on p bs o = leb (pieces on p bs) o.free && leb (length bs) o.room

pub record Pieces (s : List ℕ) (from to m : ℕ) (o : Out) (t l : List ℕ) (r : Option Out) (t' l' : List ℕ) : Type 0 where
  pub is : (es : List Event) (on : Bool) → Shows es o t l → joins es m (column from) ≡ (on && not (is_first from))
      → Answers (fits on from (part (to - from) from s) o) on m from (part (to - from) from s) es o r t' l'

-- THE ENSURES, for a cursor that fits the rooms, and bytes of a body
pub record PiecesFine (s : List ℕ) (from to m : ℕ) (o : Out) (t l : List ℕ) (r : Option Out) (t' l' : List ℕ) : Type 0 where
  pub is : Fine o (length t) (length l) → from ≤ to → to ≤ 65536 → Pieces s from to m o t l r t' l'
