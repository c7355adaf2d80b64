-- THE PROMISE of an expansion: the definition's answer, in the six numbers and in the rooms at exit.
use Rattle.std.specs.Prelude.{ℕ, ◌≡◌, Bool, ◌&&◌, List, [], ◌∷◌, leb, length, Ok}
use Rattle.definition.specs.declared.Layout.{Layout}
use Rattle.definition.specs.Bytes.{mixed}
use Rattle.definition.specs.Room.{over, zeros}
use Rattle.definition.specs.Expansion as X
use Rattle.definition.specs.Expansion.{expansion_of, text_room_after, list_room_after}
use Rattle.expander.specs.declared.Expansion.{Expansion}
use Rattle.expander.specs.Answer.{numbers_of, early_for}

-- ---- the working rooms
-- whether rooms of so many numbers are as long as docs/ROOMS.md says
abbrev pub are_roomy : ℕ → ℕ → ℕ → ℕ → ℕ → ℕ → ℕ → Bool
are_roomy rows names cells low high work joined =
    leb 32768 rows
    && leb 4096 names
    && leb 256 cells
    && leb 65536 low
    && leb 65536 high
    && leb 65536 work
    && leb 65536 joined

-- what lies in them
pub record Working : Type 0 where
  pub rows : List ℕ
  pub names : List ℕ
  pub cells : List ℕ
  pub low : List ℕ
  pub high : List ℕ
  pub work : List ℕ
  pub joined : List ℕ

abbrev pub working : (rows names cells low high work joined : List ℕ) → Working
working rows names cells low high work joined =
    record { rows = rows; names = names; cells = cells; low = low; high = high; work = work; joined = joined }

abbrev pub is_roomy : Working → Bool
is_roomy w =
    are_roomy
    (length w.rows)
    (length w.names)
    (length w.cells)
    (length w.low)
    (length w.high)
    (length w.work)
    (length w.joined)

-- a room that held b is zero
abbrev pub Zero : List ℕ → List ℕ → Type 0
Zero b e = e ≡ zeros (length b)

-- "Working rooms .. end all zero."
pub record Cleared (b e : Working) : Type 0 where
  pub rows : Zero b.rows e.rows
  pub names : Zero b.names e.names
  pub cells : Zero b.cells e.cells
  pub low : Zero b.low e.low
  pub high : Zero b.high e.high
  pub work : Zero b.work e.work
  pub joined : Zero b.joined e.joined

-- ---- THE DEFINITION'S EXPANSION of the deck d in the layout y, with the text room t, the list room l, the working rooms w and so many
-- steps
abbrev pub answer_of : Layout → (d t l : List ℕ) → Working → ℕ → X.Expansion
answer_of y d t l w steps = expansion_of mixed y (is_roomy w) d (length t) (length l) steps

-- THE ENSURES: the numbers r, and the rooms at exit
pub record Expanded (y : Layout) (d t l : List ℕ) (w : Working) (steps : ℕ) (r : Expansion) (t' l' : List ℕ) (w' : Working) : Type 0 where
  pub numbers : r ≡ numbers_of (answer_of y d t l w steps)
  pub text : t' ≡ text_room_after (length t) (answer_of y d t l w steps)
  pub list : l' ≡ list_room_after (length l) (answer_of y d t l w steps)
  pub working : Cleared w w'

-- the six numbers in 01's order
abbrev pub six_of : Expansion → List ℕ
six_of r = r.number ∷ r.member ∷ r.offset ∷ r.steps ∷ r.text ∷ r.lines ∷ []

-- THE ENSURES for a caller that lends a room n for the numbers: they stand over its start, as many as fit
pub record Told (y : Layout) (d t l : List ℕ) (w : Working) (steps : ℕ) (n t' l' : List ℕ) (w' : Working) (n' : List ℕ) : Type 0 where
  pub numbers : n' ≡ over n 0 (six_of (numbers_of (answer_of y d t l w steps)))
  pub text : t' ≡ text_room_after (length t) (answer_of y d t l w steps)
  pub list : l' ≡ list_room_after (length l) (answer_of y d t l w steps)
  pub working : Cleared w w'

-- ---- on the way: the answer is decided, where the text room and the list room are zero, and a refusal says nothing of them yet
pub record Answered (x : X.Expansion) (r : Expansion) (t' l' : List ℕ) : Type 0 where
  pub numbers : r ≡ numbers_of x
  pub text : x.number ≡ 0 → t' ≡ text_room_after (length t') x
  pub list : x.number ≡ 0 → l' ≡ list_room_after (length l') x

-- by a run, if nothing is refused before it
pub record RanFor (y : Layout) (d t l : List ℕ) (w : Working) (steps : ℕ) (r : Expansion) (t' l' : List ℕ) : Type 0 where
  pub is : early_for y d (is_roomy w) ≡ Ok tt → Zero t t → Zero l l → Answered (answer_of y d t l w steps) r t' l'

pub record Decided (y : Layout) (d t l : List ℕ) (w : Working) (steps : ℕ) (r : Expansion) (t' l' : List ℕ) : Type 0 where
  pub is : Zero t t → Zero l l → Answered (answer_of y d t l w steps) r t' l'

-- after a refusal, which has a number, both rooms are made zero again
pub record Emptied (n : ℕ) (t l t' l' : List ℕ) : Type 0 where
  pub finished : n ≡ 0 → (t' ≡ t) × (l' ≡ l)
  pub refused : (n ≡ 0 → ⊥) → Zero t t' × Zero l l'
