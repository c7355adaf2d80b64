-- How the cursor and the two rooms show the events of the definition: the text room and the list room hold the two views of
-- them, over zeros. And what putting out one more event is.
use Rattle.std.specs.Prelude.{ℕ, ◌+◌, ◌*◌, ◌-◌, ◌/◌, ◌≤◌, ◌≡◌, Bool, true, false, cond, ◌&&◌, List, [], ◌∷◌, leb, eqb, length, Option, Some, None}
use Rattle.definition.specs.Room.{over, zeros}
use Rattle.definition.specs.Events.{Event, blank, copied, replaced, bytes_in, joins, text_of, Line, line, lines_of, list_bytes}
use Rattle.std.specs.Bool.{then_some}
use Rattle.output.specs.declared.Kind.{Kind}
use Rattle.output.specs.declared.Kind.TheVariants.{Blank, Copied, Replaced}
use Rattle.output.specs.declared.Newest.{Newest}
use Rattle.output.specs.declared.Out.{Out}

-- the number of a kind
abbrev pub kind_number : Kind → ℕ
kind_number Blank = 1
kind_number Copied = 2
kind_number Replaced = 3

-- the newest line, or one of kind 0
abbrev pub top : List Line → Line
top [] = line 0 0 0 0
top (l ∷ ls) = l

abbrev pub line_in : Newest → Line
line_in x = line (kind_number x.kind) x.member x.offset x.size

abbrev pub newest_line : Option Newest → Line
newest_line None = line 0 0 0 0
newest_line (Some x) = line_in x

-- whether a token copied from the place p of member m goes on with a line
unfoldable pub grows_from : Line → ℕ → ℕ → Bool
grows_from l m p = eqb l.kind 2 && eqb l.member m && eqb (l.offset + l.size) p

-- the newest line, if such a token goes on with it
abbrev pub growing : Option Newest → ℕ → ℕ → Option Newest
growing None m p = None
growing (Some x) m p = then_some (grows_from (line_in x) m p) x

-- the numbers fit rooms of t bytes of text and l bytes of lines
pub record Fine (o : Out) (t l : ℕ) : Type 0 where
  pub text : o.text + o.room ≤ t
  pub most : o.text + o.room ≤ 4294967295
  pub list : 12 * (o.lines + o.free) ≤ l
  pub line : (newest_line o.newest).size ≤ o.text
  pub some : (newest_line o.newest).kind ≡ 2 → 1 ≤ o.lines

pub record Shows (es : List Event) (o : Out) (t l : List ℕ) : Type 0 where
  pub text : t ≡ over (zeros (length t)) 0 (text_of es)
  pub at : o.text ≡ length (text_of es)
  pub list : l ≡ over (zeros (length l)) 0 (list_bytes (lines_of es))
  pub count : o.lines ≡ length (lines_of es)
  pub newest : newest_line o.newest ≡ top (lines_of es)

-- the lines that an event takes behind others
abbrev pub taken : Event → List Event → ℕ
taken (blank m p) es = 1
taken (copied m p l) es = cond (joins es m p) 0 1
taken (replaced m p l) es = 1

-- both rooms hold the event: the test of the definition's `putOut`
abbrev pub fits : Event → List Event → Out → Bool
fits e es o = leb (taken e es) o.free && leb (length (bytes_in e)) o.room

-- one event more is shown, and the rooms may take so much less
pub record More (e : Event) (es : List Event) (o : Out) (r : Out) (t l : List ℕ) : Type 0 where
  pub shows : Shows (e ∷ es) r t l
  pub fine : Fine r (length t) (length l)
  pub room : r.room ≡ o.room - length (bytes_in e)
  pub free : r.free ≡ o.free - taken e es

abbrev pub Answers : Bool → Event → List Event → Out → Option Out → List ℕ → List ℕ → Type 0
Answers true e es o r t l = (x : Out) × (r ≡ Some x) × More e es o x t l
Answers false e es o r t l = r ≡ None

-- whatever events the entry shows, the exit shows one more, or the answer is that a room is full
pub record Puts (e : Event) (o : Out) (t l : List ℕ) (r : Option Out) (t' l' : List ℕ) : Type 0 where
  pub is : (es : List Event) → Shows es o t l → Answers (fits e es o) e es o r t' l'

-- THE ENSURES, for a cursor that fits the rooms
pub record PutsFine (e : Event) (o : Out) (t l : List ℕ) (r : Option Out) (t' l' : List ℕ) : Type 0 where
  pub is : Fine o (length t) (length l) → Puts e o t l r t' l'

-- the outcome of a replacement stands in a text room of T bytes already; its line is put behind the others
pub record Ends (m p n : ℕ) (o : Out) (T : ℕ) (l : List ℕ) (r : Out) (l' : List ℕ) : Type 0 where
  pub is : (es : List Event) (bytes t t' : List ℕ) → length t ≡ T → length bytes ≡ n → Shows es o t l → t' ≡ over t o.text bytes → More (replaced m p bytes) es o r t' l'

-- THE ENSURES, for a cursor that fits the rooms, where a line and the n bytes may still be taken
pub record EndsFine (m p n : ℕ) (o : Out) (T : ℕ) (l : List ℕ) (r : Out) (l' : List ℕ) : Type 0 where
  pub is : Fine o T (length l) → (1 ≤ o.free) × (n ≤ o.room) → Ends m p n o T l r l'

-- nothing is put out yet
pub record Begins (T L : ℕ) (r : Out) : Type 0 where
  pub text : r.text ≡ 0
  pub room : r.room ≡ cond (leb T 4294967295) T 4294967295
  pub lines : r.lines ≡ 0
  pub free : r.free ≡ L / 12
  pub newest : r.newest ≡ None
